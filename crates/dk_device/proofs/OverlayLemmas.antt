-- A write at the end or past it.
use Rattle.std.specs.Prelude.{◌≡◌, ℕ, ◌+◌, min, List, ◌++◌, length, take, drop}
use Rattle.std.proofs.Common.{inl, inr, sym, ◌∙◌, ap, arith}
use Rattle.std.proofs.lemmas.Bool.{cases_lt}
use Rattle.std.proofs.lemmas.List.{take_min, drop_all}
use Rattle.dk_device.specs.Disk.{overlay}

drop_far : (at n : ℕ) (d : List ℕ) → drop (min at (length d) + n) d ≡ drop (at + n) d
drop_far at n d = elim (cases_lt (length d) at) [
  | inl short ↦ drop_all (min at (length d) + n) d (omega arith) ∙ sym (drop_all (at + n) d (omega arith))
  | inr long ↦ let same : min at (length d) ≡ at = omega arith in ap (λ m. drop (m + n) d) same
]

pub overlaid_min : (at : ℕ) (bytes d : List ℕ) → overlay (min at (length d)) bytes d ≡ overlay at bytes d
overlaid_min at bytes d =
    ap (λ (l : List ℕ). l ++ bytes ++ drop (min at (length d) + length bytes) d) (take_min at d)
    ∙ ap (λ (l : List ℕ). take at d ++ bytes ++ l) (drop_far at (length bytes) d)
