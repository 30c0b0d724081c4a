-- Lengths that end at the greatest number of 64 bits.
use Rattle.std.proofs.Common.{◌≡◌, ℕ, ◌+◌, ◌-◌, ◌*◌, ◌^◌, List, [], ◌∷◌, length, drop, Some, sym, ap, subst, ◌∙◌, length-append, arith}
use Rattle.std.specs.Prelude.{min, slice_get}
use Rattle.std.specs.List.{flat_map}
use Rattle.dk_rows.proofs.RowLemmas.{drop_next}
use Rattle.dk_fault.specs.Counts.{capped}
use Rattle.dk_wal.specs.Payload.{id_bytes}

cap_more : (len x rest : ℕ) → capped (min (len + capped x) (2 ^ 64 - 1) + rest) ≡ capped (len + (x + rest))
cap_more len x rest = grind arith

module _ {T : Type 0} (spell : T → List ℕ) where
  len_step : (x : T) (rest : List T) (len n all : ℕ) → n ≡ capped (length (spell x))
      → capped (len + length (flat_map spell (x ∷ rest))) ≡ all
      → capped (min (len + n) (2 ^ 64 - 1) + length (flat_map spell rest)) ≡ all
  len_step x rest len n all is told =
      ap (λ (k : ℕ). capped (min (len + k) (2 ^ 64 - 1) + length (flat_map spell rest))) is
      ∙ cap_more len (length (spell x)) (length (flat_map spell rest))
      ∙ ap (λ (k : ℕ). capped (len + k)) (sym (length-append (spell x) (flat_map spell rest))) ∙ told

  pub len_step_at : (xs : List T) (i : ℕ) (x : T) (len n all : ℕ) → slice_get xs i ≡ Some x
      → n ≡ capped (length (spell x)) → capped (len + length (flat_map spell (drop i xs))) ≡ all
      → capped (min (len + n) (2 ^ 64 - 1) + length (flat_map spell (drop (i + 1) xs))) ≡ all
  len_step_at xs i x len n all here is told =
      len_step x (drop (i + 1) xs) len n all is
      (subst (λ (ys : List T). capped (len + length (flat_map spell ys)) ≡ all) (drop_next xs i x here) told)

-- eight bytes an id
pub ids_total : (ids : List ℕ) → length (flat_map id_bytes ids) ≡ length ids * 8
ids_total [] = omega arith
ids_total (id ∷ ids) = omega (arith, ids_total ids)
