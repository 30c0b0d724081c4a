use Rattle.std.proofs.Common.{ℕ, ◌≡◌, ◌<◌, ◌≤◌, Bool, true, false, List, [], ◌∷◌, length, map, get_or, Option, Some, None, ap, sym, ◌∙◌, ◌⊎◌, inl, inr, cond, arith}
use Rattle.std.specs.Prelude.{Result, Ok, Err, IsTrue, IfOk, slice_get, is_some}
use Rattle.std.specs.List.{list_all}
use Rattle.std.proofs.lemmas.Bool.{cases_lt, and_parts, false≢true}
use Rattle.std.proofs.lemmas.List.{get_or_past, length-map}
use Rattle.std.proofs.lemmas.List.Elements.{All-cons, All-nil}
use Rattle.std.proofs.lemmas.Option.{slice_get-map, get_or_from_slice_get}
use Rattle.dk_values.specs.declared.value.Value.{Value}
use Rattle.dk_columns.specs.OptionTables.{OptionTable}
use Rattle.dk_stamp.specs.Sees.{sees}
use Rattle.dk_vector.specs.Stacks.{is_there, read}
use Rattle.dk_vector.specs.Vectors.{VectorRows, stack_at, AreThere}
use Rattle.dk_vector.specs.Pages.{IsPage}
use Rattle.dk_group.specs.Groups.{AreThereAt, IsPageAt}
use Rattle.dk_group.proofs.tests.are_ready.Goals as goal

abbrev in_page : OptionTable → ℕ → Bool
in_page page row = get_or (map is_some page.rows) row false

module _ (seen : ℕ → Bool) (vector : VectorRows) (page : OptionTable) (shows : IsPage seen vector page) where
  there_at : (row : ℕ) → in_page page row ≡ true → (row < length vector.stamps.rows) × (is_there seen (stack_at vector row) ≡ true)
  there_at row h = so (cases_lt row (length vector.stamps.rows))
    where
      value : row < length vector.stamps.rows → in_page page row ≡ is_some (read seen (stack_at vector row))
      value within =
          get_or_from_slice_get (map is_some page.rows) row (is_some (read seen (stack_at vector row))) false
          (slice_get-map is_some page.rows row ∙ ap (λ o. elim o as (λ x. Option Bool) [ None ↦ None | Some r ↦ Some (is_some r) ]) (shows.each row within))

      seen_there : (b : Bool) (values : List Value) → is_some (cond b (Some values) None) ≡ true → b ≡ true
      seen_there true values e = e
      seen_there false values e = e

      so : ((row < length vector.stamps.rows) ⊎ (length vector.stamps.rows ≤ row)) → (row < length vector.stamps.rows) × (is_there seen (stack_at vector row) ≡ true)
      so (inl within) = (within, seen_there (is_there seen (stack_at vector row)) _ (sym (value within) ∙ h))
      so (inr past) = absurd (false≢true (sym (past_end (omega (arith, past, shows.count))) ∙ h))
        where
          past_end : length page.rows ≤ row → in_page page row ≡ false
          past_end e = get_or_past (map is_some page.rows) row false (omega (arith, e, length-map page.rows (is_some {T = List Value})))

  all_there : (rows : List ℕ) → list_all (in_page page) rows ≡ true → AreThere seen vector rows
  all_there [] h = All-nil (λ row. (row < length vector.stamps.rows) × (is_there seen (stack_at vector row) ≡ true))
  all_there (row ∷ rows) h =
      let parts = and_parts (in_page page row) (list_all (in_page page) rows) h in
      All-cons (λ row. (row < length vector.stamps.rows) × (is_there seen (stack_at vector row) ≡ true)) row rows (there_at row parts.0) (all_there rows parts.1)

all_in : (seen : ℕ → Bool) (o : Option VectorRows) (page : OptionTable) (rows : List ℕ) → IsPageAt seen o page → list_all (in_page page) rows ≡ true → AreThereAt seen rows o
all_in seen None page rows shows h = absurd shows
all_in seen (Some vector) page rows shows h = all_there seen vector page shows rows h

if_ready : {E X : Type 0} (result : Result Bool E) → X → IfOk result (λ ready. IsTrue ready → X)
if_ready {E} {X} (Ok ready) x = λ h. x
if_ready {E} {X} (Err e) x = tt

pub returns-clause-there : goal.returns-clause-there
returns-clause-there c =
    if_ready c.is_pair.result
    (all_in (sees c.args.snapshot.now) (slice_get c.args.group.now.vectors c.args.at) c.in_ok-page.page.rows c.args.rows.now c.in_ok-page.ensures.rows (sym (sym c.if-not-are_in.false ∙ c.are_in.ensures)))
