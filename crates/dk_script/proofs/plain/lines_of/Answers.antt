-- The lines that are read are those of the grammar.
use Rattle.std.proofs.Common.{◌≡◌, sym, subst, ◌∙◌}
use Rattle.std.proofs.lemmas.Result.{IfOk-weaker}
use Rattle.dk_io.specs.Lines.{line_contents}
use Rattle.dk_script.specs.GrammarLines.{AreLines}
use Rattle.dk_script.proofs.ScriptLineLemmas.{lines_found, lines_again}
use Rattle.dk_script.proofs.plain.lines_of.Goals as goal

pub returns-clause-found : goal.returns-clause-found
returns-clause-found c =
    IfOk-weaker c.read_lines.result (λ read. read.items ≡ line_contents c.args.script.now)
    (λ read. AreLines c.args.script.now read.items)
    (λ read e. subst (AreLines c.args.script.now) (sym e) (lines_found c.args.script.now)) c.read_lines.ensures

pub returns-clause-only : goal.returns-clause-only
returns-clause-only c lines are =
    IfOk-weaker c.read_lines.result (λ read. read.items ≡ line_contents c.args.script.now) (λ read. read.items ≡ lines)
    (λ read e. e ∙ lines_again c.args.script.now lines are) c.read_lines.ensures
