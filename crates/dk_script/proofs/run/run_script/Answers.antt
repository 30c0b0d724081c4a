-- Where there is no memory before the first line, nothing is read and nothing is sent.
use Rattle.std.proofs.Common.{arith}
use Rattle.dk_script.proofs.ProgressLemmas.{replies_none, none_too_long}
use Rattle.dk_script.proofs.run.run_script.Goals as goal

pub returns-in_default : goal.returns-in_default
returns-in_default g c = record {
  replies = replies_none (g.K.Sink.taken c.args.sink.now) (g.S.Source.left c.args.source.now);
  too_long = none_too_long (g.S.Source.left c.args.source.now);
  cause = tt;
  later = omega arith;
}

pub returns-in_default-open : goal.returns-in_default-open
returns-in_default-open g c = record {
  replies = replies_none (g.K.Sink.taken c.args.sink.now) (g.S.Source.left c.args.source.now);
  too_long = none_too_long (g.S.Source.left c.args.source.now);
  cause = tt;
  later = omega arith;
}
