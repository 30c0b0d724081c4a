-- One vector of a group that changes, and the others.
use Rattle.std.proofs.Common.{ℕ, zero, suc, [], ◌∷◌, map, ◌≡◌, ◌<◌, ◌≤◌, Bool, true, false, List, length, get_or, set, Option, Some, None, refl, ap, sym, ◌∙◌, ◌⊎◌, inl, inr, cond, arith, length-set, subst}
use Rattle.std.specs.Prelude.{Result, Ok, Err, OnOk, OnErr, IfErr}
use Rattle.std.specs.Prelude.{not, ◌==◌, slice_get}
use Rattle.std.proofs.lemmas.Bool.{cases_lt, eqb-true, eqb-false, false≢true, and_parts}
use Rattle.std.proofs.lemmas.Bool.Decides.{Decides-eqb}
use Rattle.std.proofs.lemmas.List.{get_or-set_other}
use Rattle.std.proofs.lemmas.Grind.{get_or-set_at}
use Rattle.std.proofs.lemmas.Option.{slice_get-get_or, slice_get_past, slice_get_within}
use Rattle.dk_stamp.specs.declared.snapshot.TheConstants.{NEVER}
use Rattle.dk_values.specs.declared.value.ColType.{ColType}
use Rattle.dk_columns.specs.OptionTables.{OptionTable}
use Rattle.dk_version.specs.Rows.{VectorStamps}
use Rattle.dk_stamp.specs.declared.error.GroupError.{GroupError}
use Rattle.dk_vector.specs.declared.vector.Blocked.{Blocked}
use Rattle.dk_chain.specs.declared.node.Node.{Node}
use Rattle.dk_vector.specs.Stacks.{Stack}
use Rattle.dk_vector.specs.Vectors.{VectorRows, stack_at, AreThere, ArePlaced, IsOnTop}
use Rattle.dk_group.specs.Groups.{GroupRows, IsStep, IsChangedAt, IsApartAt, IsTopAt, TopsStay, IsRefusal, IsError, Shape, shape_of, stack_in, stack_if_there, error_of, told}
use Rattle.dk_group.specs.declared.edits.Refusal.{Refusal}

-- the vector at a place that was set
set_at : (vectors : List VectorRows) (at vector : ℕ) (new : VectorRows) → at < length vectors
    → slice_get (set vectors at new) vector ≡ cond (vector == at) (Some new) (slice_get vectors vector)
set_at vectors at vector new within = so (vector == at) refl (cases_lt vector (length vectors))
  where
    so : (b : Bool) → (vector == at) ≡ b → ((vector < length vectors) ⊎ (length vectors ≤ vector)) → slice_get (set vectors at new) vector ≡ cond b (Some new) (slice_get vectors vector)
    so true e inside =
        let same = eqb-true vector at e in
        let low : vector < length (set vectors at new) = omega (arith, same, within, length-set vectors at new) in
        slice_get-get_or (set vectors at new) vector new low ∙ ap (λ (v : VectorRows). Some v) (get_or-set_at vectors at vector new new same within)
    so false e (inl inside) =
        let low : vector < length (set vectors at new) = omega (arith, inside, length-set vectors at new) in
        slice_get-get_or (set vectors at new) vector new low ∙ ap (λ (v : VectorRows). Some v) (get_or-set_other vectors at vector new new (eqb-false vector at e)) ∙ sym (slice_get-get_or vectors vector new inside)
    so false e (inr past) =
        let high : length (set vectors at new) ≤ vector = omega (arith, past, length-set vectors at new) in
        slice_get_past (set vectors at new) vector high ∙ sym (slice_get_past vectors vector past)

set_shapes : (vectors : List VectorRows) (at : ℕ) (old new : VectorRows) → slice_get vectors at ≡ Some old → shape_of new ≡ shape_of old → map shape_of (set vectors at new) ≡ map shape_of vectors
set_shapes [] at old new is e = refl
set_shapes (v ∷ vectors) zero old new is e = ap (λ s. s ∷ map shape_of vectors) (e ∙ sym (ap shape_of (some_is v old is)))
  where
    some_is : (a b : VectorRows) → Some a ≡ Some b → a ≡ b
    some_is a b e = ap (λ o. elim o as (λ x. VectorRows) [ None ↦ a | Some c ↦ c ]) e
set_shapes (v ∷ vectors) (suc at) old new is e = ap (λ l. shape_of v ∷ l) (set_shapes vectors at old new is e)

-- what is so of a vector before and after its change is so of each vector
each_at : (P : Option VectorRows → Type 0) (at : ℕ) (group new : GroupRows) (old vector : VectorRows) → slice_get group.vectors at ≡ Some old → new.vectors ≡ set group.vectors at vector
    → (P (Some old) → P (Some vector)) → (v : ℕ) → P (slice_get group.vectors v) → P (slice_get new.vectors v)
each_at P at group new old vector is e step v h =
    subst P (sym (ap (λ (l : List VectorRows). slice_get l v) e ∙ set_at group.vectors at v vector (slice_get_within group.vectors at old is))) (so (v == at) refl)
  where
    so : (b : Bool) → (v == at) ≡ b → P (cond b (Some vector) (slice_get group.vectors v))
    so true here = step (subst P (ap (slice_get group.vectors) (eqb-true v at here) ∙ is) h)
    so false here = h

pub changed_at : (at : ℕ) (step : ℕ → Stack → Stack) (group new : GroupRows) (old vector : VectorRows) → slice_get group.vectors at ≡ Some old
    → new.first ≡ group.first → new.settled ≡ group.settled → new.vectors ≡ set group.vectors at vector → IsStep step old vector → IsChangedAt at step group new
changed_at at step group new old vector is start page e each = record {
  start = start;
  page = page;
  shapes_stay = ap (map shape_of) e ∙ set_shapes group.vectors at old vector is each.shape;
  rows = λ v row. ap (λ (l : List VectorRows). stack_if_there (slice_get l v) row) e
      ∙ ap (λ o. stack_if_there o row) (set_at group.vectors at v vector (slice_get_within group.vectors at old is)) ∙ so v row (v == at) refl;
  apart = each_at IsApartAt at group new old vector is e each.apart;
}
  where
    so : (v row : ℕ) (b : Bool) → (v == at) ≡ b → stack_if_there (cond b (Some vector) (slice_get group.vectors v)) row ≡ cond b (step row (stack_in group v row)) (stack_in group v row)
    so v row true here = each.rows row ∙ ap (λ o. step row (stack_if_there o row)) (sym (ap (slice_get group.vectors) (eqb-true v at here) ∙ is))
    so v row false apart = refl

-- rows that are there are placed, also after a step that leaves them
pub placed_after : (seen : ℕ → Bool) (rows : List ℕ) (old : VectorRows) → seen NEVER ≡ false → AreThere seen old rows → ArePlaced rows old
placed_after seen rows old never there = λ i d within.
    let h = there i d within in
    (h.0, λ none. false≢true (sym never ∙ ap seen (sym none) ∙ (and_parts (seen (stack_at old (get_or rows i d)).inserted) (not (seen (stack_at old (get_or rows i d)).deleted)) h.1).0))

pub placed_same : (rows : List ℕ) (old new : VectorRows) → length new.stamps.rows ≡ length old.stamps.rows → ((row : ℕ) → stack_at new row ≡ stack_at old row)
    → ArePlaced rows old → ArePlaced rows new
placed_same rows old new count each placed = λ i d within.
    let h = placed i d within in
    (subst (λ (n : ℕ). get_or rows i d < n) (sym count) h.0, λ none. h.1 (ap (λ (s : Stack). s.inserted) (sym (each (get_or rows i d))) ∙ none))

-- one vector of a group in its view
pub old_is : (at start : ℕ) (page : Option ℕ) (vectors : List VectorRows) (old : VectorRows) (group : GroupRows) → record { first = start; vectors = vectors; settled = page } ≡ group → at < length group.vectors
    → old ≡ get_or vectors at old → slice_get group.vectors at ≡ Some old
old_is at start page vectors old group view within value =
    subst (λ (g : GroupRows). at < length g.vectors → slice_get g.vectors at ≡ Some old) view
    (λ within. slice_get-get_or vectors at old within ∙ ap (λ (v : VectorRows). Some v) (sym value)) within

pub at_view : (at : ℕ) (step : ℕ → Stack → Stack) (start : ℕ) (page : Option ℕ) (vectors : List VectorRows) (old vector : VectorRows) (group : GroupRows) → record { first = start; vectors = vectors; settled = page } ≡ group
    → at < length group.vectors → old ≡ get_or vectors at old → IsStep step old vector → IsChangedAt at step group (record { first = start; vectors = set vectors at vector; settled = page })
at_view at step start page vectors old vector group view within value each =
    changed_at at step group (record { first = start; vectors = set vectors at vector; settled = page }) old vector (old_is at start page vectors old group view within value)
    (ap (λ (g : GroupRows). g.first) view) (ap (λ (g : GroupRows). g.settled) view) (ap (λ (g : GroupRows). set g.vectors at vector) view) each

-- the vector that changed in the view
pub new_is : (at start : ℕ) (page : Option ℕ) (vectors : List VectorRows) (vector : VectorRows) (group : GroupRows) → record { first = start; vectors = vectors; settled = page } ≡ group → at < length group.vectors
    → slice_get (set vectors at vector) at ≡ Some vector
new_is at start page vectors vector group view within =
    set_at vectors at at vector (subst (λ (g : GroupRows). at < length g.vectors) (sym view) within) ∙ ap (λ b. cond b (Some vector) (slice_get vectors at)) ((Decides-eqb at at).1 refl)

pub tops_view : (at start : ℕ) (page : Option ℕ) (vectors : List VectorRows) (old vector : VectorRows) (group : GroupRows) → record { first = start; vectors = vectors; settled = page } ≡ group
    → at < length group.vectors → old ≡ get_or vectors at old → ((id : ℕ) → IsOnTop id old.nodes → IsOnTop id vector.nodes)
    → TopsStay group (record { first = start; vectors = set vectors at vector; settled = page })
tops_view at start page vectors old vector group view within value each = λ id v h.
    each_at (IsTopAt id) at group (record { first = start; vectors = set vectors at vector; settled = page }) old vector (old_is at start page vectors old group view within value)
    (ap (λ (g : GroupRows). set g.vectors at vector) view) (each id) v h

pub same_tops : (old new : VectorRows) → new.nodes ≡ old.nodes → (id : ℕ) → IsOnTop id old.nodes → IsOnTop id new.nodes
same_tops old new e id top = subst (λ (n : List Node). IsOnTop id n) (sym e) top

pub shape_is : (old new : VectorRows) → new.base ≡ old.base → new.stamps ≡ old.stamps → shape_of new ≡ shape_of old
shape_is old new base stamps =
    ap (λ (b : OptionTable). shape b.kinds (length new.stamps.rows)) base ∙ ap (λ (s : VectorStamps). shape old.base.kinds (length s.rows)) stamps
  where
    shape : List ColType → ℕ → Shape
    shape kinds count = record { kinds = kinds; count = count }

pub shape_counts : (old new : VectorRows) → new.base ≡ old.base → length new.stamps.rows ≡ length old.stamps.rows → shape_of new ≡ shape_of old
shape_counts old new base count =
    ap (λ (b : OptionTable). shape b.kinds (length new.stamps.rows)) base ∙ ap (shape old.base.kinds) count
  where
    shape : List ColType → ℕ → Shape
    shape kinds count = record { kinds = kinds; count = count }

-- what a change of a vector tells
pub told_ok : {T P Q : Type 0} (start : ℕ) (done : Result T Refusal) (result : Result T GroupError) → result ≡ told start done → (P → Q) → OnOk done P → OnOk result Q
told_ok {T} {P} {Q} start (Ok x) result e f p = subst (λ (r : Result T GroupError). OnOk r Q) (sym e) (f p)
told_ok {T} {P} {Q} start (Err x) result e f p = subst (λ (r : Result T GroupError). OnOk r Q) (sym e) tt

pub told_err : {T P Q : Type 0} (start : ℕ) (done : Result T Refusal) (result : Result T GroupError) → result ≡ told start done → (P → Q) → OnErr done P → OnErr result Q
told_err {T} {P} {Q} start (Ok x) result e f p = subst (λ (r : Result T GroupError). OnErr r Q) (sym e) tt
told_err {T} {P} {Q} start (Err x) result e f p = subst (λ (r : Result T GroupError). OnErr r Q) (sym e) (f p)

error_is : (start : ℕ) (o : Option Blocked) (refusal : Refusal) → IsRefusal o refusal → IsError start o (error_of start refusal)
error_is start None refusal h = ap (error_of start) h
error_is start (Some blocked) refusal h = ap (error_of start) h

pub told_refusal : {T : Type 0} (start : ℕ) (o : Option Blocked) (done : Result T Refusal) (result : Result T GroupError) → result ≡ told start done
    → IfErr done (IsRefusal o) → IfErr result (IsError start o)
told_refusal {T} start o (Ok x) result e p = subst (λ (r : Result T GroupError). IfErr r (IsError start o)) (sym e) tt
told_refusal {T} start o (Err x) result e p = subst (λ (r : Result T GroupError). IfErr r (IsError start o)) (sym e) (error_is start o x p)

pub ok_after : {T E P Q : Type 0} (result : Result T E) → (P → Q) → OnOk result P → OnOk result Q
ok_after {T} {E} {P} {Q} (Ok x) f p = f p
ok_after {T} {E} {P} {Q} (Err x) f p = tt
