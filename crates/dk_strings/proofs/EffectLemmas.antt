-- Several calls of a disk, one after the other.
use Rattle.std.specs.Prelude.{ℕ, ◌≤◌}
use Rattle.std.proofs.Common.{◌∙◌, arith}
use Rattle.dk_fault.specs.Causes.{Rose, HasCauseIf}
use Rattle.dk_device.specs.declared.device.Disk.{Ghosts}
use Rattle.dk_device.specs.Changes.{Looks}
use Rattle.dk_device.proofs.ChangeLemmas.{earlier_then}

-- two looks
pub looks_then : {D : Type 0} (g : Ghosts D) (a b c : D) → Looks g a b → Looks g b c → Looks g a c
looks_then g a b c first second = record {
  content = λ f. second.content f ∙ first.content f;
  extent = λ f. second.extent f ∙ first.extent f;
  images = λ f e. (λ x. (first.images f e).0 ((second.images f e).0 x), λ x. (second.images f e).1 ((first.images f e).1 x));
  earlier = earlier_then g a b c first.earlier second.earlier;
}

-- a count that rose behind an earlier one rose
pub rose_later : (a b c : ℕ) → a ≤ b → Rose b c → Rose a c
rose_later a b c le rose = omega (arith, le, rose)

pub cause_later : (a b c : ℕ) {P : Type 0} → a ≤ b → HasCauseIf b c P → HasCauseIf a c P
cause_later a b c le cause =
    record { later = omega (arith, le, cause.later); failed = λ p. rose_later a b c le (cause.failed p) }
