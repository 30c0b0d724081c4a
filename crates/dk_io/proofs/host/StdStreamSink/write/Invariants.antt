-- What holds between the tries of a write.
use Rattle.std.proofs.Common.{◌≡◌}
use Rattle.std.specs.Io.KnownBytes.{Keeps}
use Rattle.dk_io.proofs.host.StdStreamSink.write.Given as goal

-- a try that was broken off changed nothing
abbrev pub invariant-tries : goal.invariant-tries
invariant-tries g l = record {
  faults : l.self.faults ≡ l.fn.self.faults;
  kept : Keeps (g.W.Write.contents l.fn.self.stream) (g.W.Write.contents l.self.stream);
}
