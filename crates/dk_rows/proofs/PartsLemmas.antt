-- Lists cut at ends.
use Rattle.std.proofs.Common.{◌≡◌, ℕ, zero, suc, ◌+◌, ◌-◌, ◌<◌, ◌≤◌, List, [], ◌∷◌, ◌++◌, length, take, drop, get_or, Some, refl, ap, sym, ◌∙◌, arith, length-append}
use Rattle.std.specs.Prelude.{slice_get, Result, Ok, Err, OnOk, OnErr}
use Rattle.std.proofs.lemmas.List.{take_all, length-drop, length-take-le, take-append-le, drop-append-le, drop-take, take-take}
use Rattle.std.proofs.Math.Seq.{drop-length}
use Rattle.dk_rows.specs.Parts.{parts, AreEnds, start_of}

module _ {T : Type 0} where
  pub parts_len : (from : ℕ) (items : List T) (ends : List ℕ) → length (parts from items ends) ≡ length ends
  parts_len from items [] = refl
  parts_len from items (e ∷ ends) = ap suc (parts_len e items ends)

  -- part i begins no later than it ends, within the items
  pub starts : (from : ℕ) (items : List T) (ends : List ℕ) (i d : ℕ) → i < length ends → AreEnds from items ends → (start_of from i ends ≤ get_or ends i d) × (get_or ends i d ≤ length items)
  starts from items [] i d lt h = absurd (omega (arith, lt))
  starts from items (e ∷ ends) zero d lt h = (h.0, h.1)
  starts from items (e ∷ ends) (suc i) d lt h = starts e items ends i d (omega (arith, lt)) h.2

  pub part_at : (from : ℕ) (items : List T) (ends : List ℕ) (i d : ℕ) → i < length ends → slice_get (parts from items ends) i ≡ Some (take (get_or ends i d - start_of from i ends) (drop (start_of from i ends) items))
  part_at from items [] i d lt = absurd (omega (arith, lt))
  part_at from items (e ∷ ends) zero d lt = refl
  part_at from items (e ∷ ends) (suc i) d lt = part_at e items ends i d (omega (arith, lt))

  -- one part more, where items are put behind the others
  pub parts_more : (from : ℕ) (items more : List T) (ends : List ℕ) → AreEnds from items ends → parts from (items ++ more) (ends ++ length (items ++ more) ∷ []) ≡ parts from items ends ++ more ∷ []
  parts_more from items more [] h =
      let len = length-append items more in
      let front : drop from (items ++ more) ≡ more = ap (λ (k : ℕ). drop k (items ++ more)) h ∙ drop-append-le (length items) items more (omega arith) ∙ ap (λ (xs : List T). xs ++ more) (drop-length items) in
      let all : take (length (items ++ more) - from) more ≡ more = take_all _ more (omega (arith, len, h)) in
      ap (λ (xs : List T). take (length (items ++ more) - from) xs ∷ []) front ∙ ap (λ (xs : List T). xs ∷ []) all
  parts_more from items more (e ∷ ends) h =
      let front : drop from (items ++ more) ≡ drop from items ++ more = drop-append-le from items more (omega (arith, h.0, h.1)) in
      let one : take (e - from) (drop from (items ++ more)) ≡ take (e - from) (drop from items) =
      ap (take (e - from)) front ∙ take-append-le (e - from) (drop from items) more (omega (arith, length-drop from items, h.0, h.1)) in
      ap (λ (xs : List T). xs ∷ parts e (items ++ more) (ends ++ length (items ++ more) ∷ [])) one
      ∙ ap (λ (xs : List (List T)). take (e - from) (drop from items) ∷ xs) (parts_more e items more ends h.2)

  pub ends_more : (from : ℕ) (items more : List T) (ends : List ℕ) → AreEnds from items ends → AreEnds from (items ++ more) (ends ++ length (items ++ more) ∷ [])
  ends_more from items more [] h = let len = length-append items more in (omega (arith, len, h), omega arith, refl)
  ends_more from items more (e ∷ ends) h = let len = length-append items more in (h.0, omega (arith, len, h.1), ends_more e items more ends h.2)

  -- what a push leaves: ends that are lawful, and one part more
  pub pushed_ends : {E : Type 0} (r : Result (Unit {0}) E) (from : ℕ) (items items' : List T) (ends ends' : List ℕ) (more : List T) → AreEnds from items ends
      → OnOk r (items' ≡ items ++ more) → OnOk r (ends' ≡ ends ++ length items' ∷ []) → OnErr r (items' ≡ items) → OnErr r (ends' ≡ ends) → AreEnds from items' ends'
  pushed_ends (Ok x) from items items' ends ends' more h p q u v = rw (q, p) (ends_more from items more ends h)
  pushed_ends (Err e) from items items' ends ends' more h p q u v = rw (u, v) h

  pub pushed_part : {E : Type 0} (r : Result (Unit {0}) E) (from : ℕ) (items items' : List T) (ends ends' : List ℕ) (more : List T) (shown : List (List T)) → AreEnds from items ends → parts from items ends ≡ shown
      → OnOk r (items' ≡ items ++ more) → OnOk r (ends' ≡ ends ++ length items' ∷ []) → OnOk r (parts from items' ends' ≡ shown ++ more ∷ [])
  pushed_part (Ok x) from items items' ends ends' more shown h e p q = rw (q, p) (parts_more from items more ends h ∙ ap (λ (xs : List (List T)). xs ++ more ∷ []) e)
  pushed_part (Err x) from items items' ends ends' more shown h e p q = tt

  -- where part n begins lies between the first place and the end of the items
  pub start_within : (from : ℕ) (items : List T) (ends : List ℕ) (n : ℕ) → AreEnds from items ends → (from ≤ start_of from n ends) × (start_of from n ends ≤ length items)
  start_within from items [] n h = (omega arith, omega (arith, h))
  start_within from items (e ∷ ends) zero h = (omega arith, omega (arith, h.0, h.1))
  start_within from items (e ∷ ends) (suc n) h = let ih = start_within e items ends n h.2 in (omega (arith, h.0, ih.0), ih.1)

  -- the first n parts, of items that reach as far
  pub parts_front : (from s : ℕ) (items : List T) (ends : List ℕ) (n : ℕ) → AreEnds from items ends → start_of from n ends ≤ s → parts from (take s items) (take n ends) ≡ take n (parts from items ends)
  parts_front from s items [] zero h le = refl
  parts_front from s items [] (suc n) h le = refl
  parts_front from s items (e ∷ ends) zero h le = refl
  parts_front from s items (e ∷ ends) (suc n) h le =
      let within = start_within e items ends n h.2 in
      let split : s ≡ from + (s - from) = omega (arith, within.0, h.0, le) in
      let one : take (e - from) (drop from (take s items)) ≡ take (e - from) (drop from items) =
      ap (λ (k : ℕ). take (e - from) (drop from (take k items))) split ∙ ap (take (e - from)) (drop-take from (s - from) items)
      ∙ take-take (e - from) (s - from) (drop from items) (omega (arith, within.0, le)) in
      ap (λ (xs : List T). xs ∷ parts e (take s items) (take n ends)) one
      ∙ ap (λ (xs : List (List T)). take (e - from) (drop from items) ∷ xs) (parts_front e s items ends n h.2 le)

  pub ends_front : (from : ℕ) (items : List T) (ends : List ℕ) (n : ℕ) → AreEnds from items ends → AreEnds from (take (start_of from n ends) items) (take n ends)
  ends_front from items [] zero h = sym (length-take-le from items (omega (arith, h)))
  ends_front from items [] (suc n) h = sym (length-take-le from items (omega (arith, h)))
  ends_front from items (e ∷ ends) zero h = sym (length-take-le from items (omega (arith, h.0, h.1)))
  ends_front from items (e ∷ ends) (suc n) h =
      let within = start_within e items ends n h.2 in
      let len = length-take-le (start_of e n ends) items within.1 in
      (h.0, omega (arith, within.0, len), ends_front e items ends n h.2)

  -- all parts, where there are no more than n
  pub parts_all : (from : ℕ) (items : List T) (ends : List ℕ) (n : ℕ) → length ends ≤ n → take n (parts from items ends) ≡ parts from items ends
  parts_all from items ends n le = take_all n (parts from items ends) (omega (arith, le, parts_len from items ends))

pub start_first : (from : ℕ) (ends : List ℕ) → start_of from 0 ends ≡ from
start_first from [] = refl
start_first from (e ∷ ends) = refl

pub start_next : (from i d : ℕ) (ends : List ℕ) → i < length ends → start_of from (i + 1) ends ≡ get_or ends i d
start_next from i d [] lt = absurd (omega (arith, lt))
start_next from zero d (e ∷ ends) lt = start_first e ends
start_next from (suc i) d (e ∷ ends) lt =
    let next : suc i + 1 ≡ suc (i + 1) = omega arith in
    ap (λ (k : ℕ). start_of from k (e ∷ ends)) next ∙ start_next e i d ends (omega (arith, lt))
