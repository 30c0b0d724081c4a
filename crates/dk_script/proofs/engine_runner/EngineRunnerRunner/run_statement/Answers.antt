-- The engine's answer is the entries of one more call.
use Rattle.dk_script.proofs.EngineLemmas.{call_answered}
use Rattle.dk_script.proofs.engine_runner.EngineRunnerRunner.run_statement.Goals as goal

pub returns : goal.returns
returns c entries stood =
    call_answered (record { alloc = c.args.self.now.alloc; engine = c.run.new.self }) entries c.args.session
    c.args.text.now c.args.copy.now c.read_text-asked.result c.run.result
    c.read_text-asked.ensures.read (c.run.ensures c.read_text-asked.ensures.lawful entries stood)
