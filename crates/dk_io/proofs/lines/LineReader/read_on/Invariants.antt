-- What holds each time another piece is wanted.
use Rattle.std.proofs.Common.{◌≡◌, ◌-◌, ◌≤◌, [], false}
use Rattle.dk_io.specs.Lines.{is_too_long}
use Rattle.dk_io.specs.NextLine.{KeepsLines, CountsOn}
use Rattle.dk_io.specs.LinesGiven.{Passes}
use Rattle.dk_io.proofs.lines.LineReader.read_on.Given as goal

-- no line was lost, and nothing is held
abbrev pub invariant-pieces : goal.invariant-pieces
invariant-pieces g l = record {
  held : l.self.held ≡ [];
  fits : is_too_long l.self.limit l.self.begun ≡ false;
  kept : KeepsLines g.S.Source l.fn.self l.self l.fn.source l.source;
  passes : Passes l.fn.self l.self (g.S.Source.left l.fn.source) (g.S.Source.left l.source) [];
  counts : CountsOn g.S.Source l.fn.self l.self l.fn.source l.source;
  within : l.self.taken ≤ l.self.total;
}

abbrev pub decreases-pieces : goal.decreases-pieces
decreases-pieces g l = l.self.total - l.self.taken
