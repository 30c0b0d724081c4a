-- What is left was taken, and what was used before it is what was used before all.
use Rattle.std.specs.Prelude.{List, ℕ}
use Rattle.dk_strings.specs.Effects.{Takes}
use Rattle.dk_strings.proofs.writing.give_blocks.Given as goal

abbrev pub invariant-given : goal.invariant-given
invariant-given l = record {
  some : (before : List ℕ) × Takes l.left.items before l.man.used;
  same : (before : List ℕ) → Takes l.fn.blocks before l.fn.man.used → Takes l.left.items before l.man.used;
}

abbrev pub decreases-given : goal.decreases-given
decreases-given l = goal.left-given l
