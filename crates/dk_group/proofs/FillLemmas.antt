-- A vector of spare rows that are put in.
use Rattle.std.proofs.Common.{ℕ, ◌≡◌, ◌<◌, ◌≤◌, true, List, [], length, replicate, Some, None, ap, sym, ◌∙◌, ◌⊎◌, inl, inr, cond, arith}
use Rattle.std.specs.Prelude.{slice_get}
use Rattle.std.proofs.lemmas.Bool.{cases_lt, false≢true}
use Rattle.std.proofs.lemmas.List.{get_or-replicate, length-replicate}
use Rattle.std.proofs.lemmas.Option.{slice_get-get_or, slice_get_past}
use Rattle.dk_columns.specs.OptionTables.{OptionTable}
use Rattle.dk_chain.specs.Nodes.{nodes_at}
use Rattle.dk_version.specs.declared.stamps.Stamp.{Stamp}
use Rattle.dk_version.specs.Rows.{spare_row}
use Rattle.dk_vector.specs.Stacks.{absent, placed}
use Rattle.dk_vector.specs.Vectors.{VectorRows, base_at, stack_at}
use Rattle.dk_vector.specs.Spare.{is_spare, AreFresh}
use Rattle.dk_group.specs.Groups.{IsFilled}

spare_at : (n row : ℕ) → row < n → slice_get (replicate n spare_row) row ≡ Some spare_row
spare_at n row within =
    let low : row < length (replicate n spare_row) = omega (arith, within, length-replicate n spare_row) in
    slice_get-get_or (replicate n spare_row) row spare_row low ∙ ap (λ (s : Stamp). Some s) (get_or-replicate n row spare_row spare_row within)

none_at : (n row : ℕ) → n ≤ row → slice_get (replicate n spare_row) row ≡ None
none_at n row past =
    let high : length (replicate n spare_row) ≤ row = omega (arith, past, length-replicate n spare_row) in
    slice_get_past (replicate n spare_row) row high

-- spare rows without nodes are fresh
pub fresh : (n : ℕ) (vector : VectorRows) → vector.stamps.rows ≡ replicate n spare_row → vector.nodes ≡ [] → AreFresh vector
fresh n vector spare none = λ row is. (so row is (cases_lt row n), ap (nodes_at row) none)
  where
    so : (row : ℕ) → is_spare (slice_get vector.stamps.rows row) ≡ true → ((row < n) ⊎ (n ≤ row)) → slice_get vector.stamps.rows row ≡ Some spare_row
    so row is (inl within) = ap (λ (l : List Stamp). slice_get l row) spare ∙ spare_at n row within
    so row is (inr past) = absurd (false≢true (sym (ap is_spare (ap (λ (l : List Stamp). slice_get l row) spare ∙ none_at n row past)) ∙ is))

module _ (id : ℕ) (table : OptionTable) (old new : VectorRows) (spare : old.stamps.rows ≡ replicate (length table.rows) spare_row) (base : old.base ≡ table)
    (rows : (row : ℕ) → stack_at new row ≡ cond (is_spare (slice_get old.stamps.rows row)) (placed id (base_at row old.base)) (stack_at old row)) where
  pub filled_row : (row : ℕ) → row < length table.rows → stack_at new row ≡ placed id (base_at row table)
  filled_row row within =
      rows row
      ∙ ap (λ o. cond (is_spare o) (placed id (base_at row old.base)) (stack_at old row)) (ap (λ (l : List Stamp). slice_get l row) spare ∙ spare_at (length table.rows) row within)
      ∙ ap (λ (t : OptionTable). placed id (base_at row t)) base

  pub filled_past : ((row : ℕ) → stack_at old row ≡ absent) → (row : ℕ) → length table.rows ≤ row → stack_at new row ≡ absent
  filled_past none row past =
      rows row
      ∙ ap (λ o. cond (is_spare o) (placed id (base_at row old.base)) (stack_at old row)) (ap (λ (l : List Stamp). slice_get l row) spare ∙ none_at (length table.rows) row past)
      ∙ none row

  pub filled : new.base ≡ old.base → new.nodes ≡ old.nodes → old.nodes ≡ [] → length new.stamps.rows ≡ length old.stamps.rows → ((row : ℕ) → stack_at old row ≡ absent) → IsFilled id table new
  filled same nodes none count gone = record {
    base = same ∙ base;
    nodes = nodes ∙ none;
    count = count ∙ ap length spare ∙ length-replicate (length table.rows) spare_row;
    rows = filled_row;
    past = filled_past gone;
  }
