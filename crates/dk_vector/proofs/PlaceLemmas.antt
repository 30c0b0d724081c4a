-- A place of a list that was set, and the others.
use Rattle.std.proofs.Common.{ℕ, ◌≡◌, ◌<◌, ◌≤◌, List, length, set, Some, ap, sym, ◌∙◌, ◌⊎◌, inl, inr, arith, length-set}
use Rattle.std.specs.Prelude.{◌≢◌, slice_get}
use Rattle.std.proofs.lemmas.Bool.{cases_lt}
use Rattle.std.proofs.lemmas.List.{get_or-set_same, get_or-set_other}
use Rattle.std.proofs.lemmas.Option.{slice_get-get_or, slice_get_past}

module _ {T : Type 0} where
  pub at_same : (rows : List T) (row : ℕ) (stamp : T) → row < length rows → slice_get (set rows row stamp) row ≡ Some stamp
  at_same rows row stamp within =
      let inside : row < length (set rows row stamp) = omega (arith, within, length-set rows row stamp) in
      slice_get-get_or (set rows row stamp) row stamp inside ∙ ap (λ (s : T). Some s) (get_or-set_same rows row stamp stamp within)

  pub at_other : (rows : List T) (row other : ℕ) (stamp : T) → row ≢ other → slice_get (set rows row stamp) other ≡ slice_get rows other
  at_other rows row other stamp apart = so (cases_lt other (length rows))
    where
      so : ((other < length rows) ⊎ (length rows ≤ other)) → slice_get (set rows row stamp) other ≡ slice_get rows other
      so (inl within) =
          let inside : other < length (set rows row stamp) = omega (arith, within, length-set rows row stamp) in
          slice_get-get_or (set rows row stamp) other stamp inside ∙ ap (λ (s : T). Some s) (get_or-set_other rows row other stamp stamp (λ same. apart (sym same))) ∙ sym (slice_get-get_or rows other stamp within)
      so (inr past) =
          let behind : length (set rows row stamp) ≤ other = omega (arith, past, length-set rows row stamp) in
          slice_get_past (set rows row stamp) other behind ∙ sym (slice_get_past rows other past)
