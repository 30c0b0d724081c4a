-- What is read as a field is spelled there, and what is spelled there is read.
use Rattle.std.proofs.Common.{◌≡◌, ℕ, zero, suc, ◌+◌, ◌≤◌, List, [], ◌∷◌, ◌++◌, length, Result, Ok, Err, refl, sym, ap, subst, ◌∙◌, append_assoc, append-nil, length-append, arith}
use Rattle.std.specs.Prelude.{IfOk}
use Rattle.std.specs.List.{flat_map}
use Rattle.dk_bytes.specs.Fields.{IsBytes, Place, Passes}
use Rattle.dk_bytes.specs.declared.field_error.FieldError.{FieldError}
use Rattle.dk_bytes.specs.Reading.{◌>>=◌, Reads, Spells, list_at, AllFollow}
use Rattle.dk_bytes.proofs.NumberLemmas.{Takes, Takes-then, bind_ok, bind_at, done, ok_is}
use Rattle.dk_bytes.proofs.PlainValueLemmas.{after}
use Rattle.dk_bytes.proofs.OutcomeLemmas.{gives_found, gives_only}
use Rattle.dk_bytes.proofs.FaultPlaceLemmas.{Within, Inside, end_of, bind_bounded}

-- the place before these bytes
abbrev pub before : ℕ → List ℕ → List ℕ → Place
before at bytes rest = record { at = at; rest = bytes ++ rest }

-- what reading took from the front is spelled so
pub record IsSpelled {A : Type 0} (Is : A → Type 0) (spell : A → List ℕ) (p : Place) (x : A × Place) : Type 0 where
  pub lawful : Is x.0
  pub takes : Takes p x.1 (spell x.0)

spelled : {A : Type 0} (Is : A → Type 0) (spell : A → List ℕ) (p : Place) (x : A × Place) → IsSpelled Is spell p x
    → Spells Is spell x.0 p x.1
spelled Is spell p x h = record { lawful = h.lawful; passes = h.takes.passes }

-- what is read behind each place before the bytes is read where they are passed
pub read_again : {A : Type 0} (read : Place → Result (A × Place) ℕ) (x : A) (text : List ℕ) (p q : Place)
    → ((at : ℕ) (rest : List ℕ) → read (before at text rest) ≡ Ok (x, after at text rest)) → Passes p q text
    → read p ≡ Ok (x, q)
read_again {A} read x text p q k passes =
    let P : List ℕ → Type 0 = λ bytes. read (record { at = p.at; rest = bytes }) ≡ Ok (x, q) in
    let place : after p.at text q.rest ≡ q = ap (λ (n : ℕ). record { at = n; rest = q.rest }) (sym passes.at) in
    subst P (sym passes.rest) (k p.at q.rest ∙ ap (λ (r : Place). done (x, r)) place)

-- the reading of a field: what is read is spelled there, and what is spelled is read
pub record IsField {A : Type 0} (read : Place → Result (A × Place) ℕ) (Is : A → Type 0)
    (spell : A → List ℕ) : Type 0 where
  pub takes : (p : Place) (x : A × Place) → IsBytes p.rest → read p ≡ Ok x → IsSpelled Is spell p x
  pub again : (x : A) (at : ℕ) (rest : List ℕ) → Is x
      → read (before at (spell x) rest) ≡ Ok (x, after at (spell x) rest)

module _ {X A : Type 0} (read : Place → Result (A × Place) ℕ) (Is : A → Type 0) (spell : A → List ℕ)
    (field : IsField read Is spell) (view : X → A) (result : Result X FieldError) (old new : Place)
    (reads : Reads view result new (read old)) where
  -- what a call read is spelled there
  pub field_found : IsBytes old.rest → IfOk result (λ x. Spells Is spell (view x) old new)
  field_found bytes = gives_found (λ x. (view x, new)) (λ (y : A × Place). Spells Is spell y.0 old y.1) result
      (read old) reads (λ y e. spelled Is spell old y (field.takes old y bytes e))

  -- what is spelled there was read
  pub field_only : (x : A) (behind : Place) → Spells Is spell x old behind → Reads view result new (Ok (x, behind))
  field_only x behind h = gives_only (λ x. (view x, new)) result (read old) (x, behind) reads
      (read_again read x (spell x) old behind (λ at rest. field.again x at rest h.lawful) h.passes)

module _ {A : Type 0} (item : List A → Place → Result (A × Place) ℕ) where
  -- one more thing is read
  pub list_step : (earlier : List A) (x : A) (m n : ℕ) (p q : Place) (all : Result (List A × Place) ℕ) → m ≡ suc n
      → item earlier p ≡ Ok (x, q) → list_at item m earlier p ≡ all → list_at item n (earlier ++ x ∷ []) q ≡ all
  list_step earlier x m n p q all e r h =
      let next : list_at item (suc n) earlier p ≡ all = subst (λ (k : ℕ). list_at item k earlier p ≡ all) e h in
      subst (λ (s : Result (A × Place) ℕ). (s >>= λ y. list_at item n (earlier ++ y.0 ∷ []) y.1) ≡ all) r next

  -- a thing that is not read ends the reading
  pub list_fault : (earlier : List A) (m n : ℕ) (p : Place) (all : Result (List A × Place) ℕ) → m ≡ suc n
      → list_at item m earlier p ≡ all → (at : ℕ) → item earlier p ≡ Err at → all ≡ Err at
  list_fault earlier m n p all e h at r =
      let next : list_at item (suc n) earlier p ≡ all = subst (λ (k : ℕ). list_at item k earlier p ≡ all) e h in
      sym (subst (λ (s : Result (A × Place) ℕ). (s >>= λ y. list_at item n (earlier ++ y.0 ∷ []) y.1) ≡ all) r next)

  -- a list is read within the bytes if each thing is
  pub list_within : ((end : ℕ) (earlier : List A) (p : Place) → end_of p ≤ end → Within end (item earlier p))
      → (end n : ℕ) (earlier : List A) (p : Place) → end_of p ≤ end → Within end (list_at item n earlier p)
  list_within k end zero earlier p h = h
  list_within k end (suc n) earlier p h =
      bind_bounded end (Inside end) (Inside end) (item earlier p) _ (k end earlier p h)
      (λ x l. list_within k end n (earlier ++ x.0 ∷ []) x.1 l)

  module _ (Fits : List A → A → Type 0) (spell : A → List ℕ) where
    -- these things were read behind those before them
    pub record AreSpelled (earlier : List A) (n : ℕ) (p : Place) (x : List A × Place) : Type 0 where
      pub items : List A
      pub all : x.0 ≡ earlier ++ items
      pub count : length items ≡ n
      pub follow : AllFollow Fits earlier items
      pub takes : Takes p x.1 (flat_map spell items)

    module _ (takes_one : (earlier : List A) (p : Place)
        (x : A × Place) → IsBytes p.rest → item earlier p ≡ Ok x → IsSpelled (Fits earlier) spell p x) where
      pub list_takes : (n : ℕ) (earlier : List A) (p : Place) (x : List A × Place) → IsBytes p.rest
          → list_at item n earlier p ≡ Ok x → AreSpelled earlier n p x
      list_takes zero earlier p x fits e =
          subst (λ (y : List A × Place). AreSpelled earlier zero p y) (ok_is (earlier, p) x e)
          (record {
            items = [];
            all = sym (append-nil earlier);
            count = refl;
            follow = tt;
            takes = record
                { passes = record { rest = refl; at = omega arith }; left = fits };
          })
      list_takes (suc n) earlier p x fits e =
          let b = bind_ok (item earlier p) (λ y. list_at item n (earlier ++ y.0 ∷ []) y.1) x e in
          let y = b.0 in
          let t = takes_one earlier p y fits b.1 in
          let u = list_takes n (earlier ++ y.0 ∷ []) y.1 x t.takes.left b.2 in
          record {
            items = y.0 ∷ u.items;
            all = u.all ∙ append_assoc earlier (y.0 ∷ []) u.items;
            count = omega (arith, u.count);
            follow = (t.lawful, u.follow);
            takes = Takes-then p y.1 x.1 (spell y.0) (flat_map spell u.items) t.takes u.takes;
          }

    module _ (again_one : (earlier : List A) (x : A) (at : ℕ) (rest : List ℕ) → Fits earlier x → item earlier
        (before at (spell x) rest) ≡ Ok (x, after at (spell x) rest)) where
      pub list_again : (xs earlier : List A) (at : ℕ) (rest : List ℕ) → AllFollow Fits earlier xs
          → list_at item (length xs) earlier (before at (flat_map spell xs) rest) ≡ Ok
          (earlier ++ xs, after at (flat_map spell xs) rest)
      list_again [] earlier at rest h =
          let place : at ≡ at + 0 = omega arith in
          ap (λ (l : List A). done (l, record { at = at; rest = rest })) (sym (append-nil earlier)) ∙ ap
          (λ (n : ℕ). done (earlier ++ [], record { at = n; rest = rest })) place
      list_again (x ∷ xs) earlier at rest h =
          let P : List ℕ → Type 0 = λ bytes. list_at item (suc (length xs)) earlier
          (record { at = at; rest = bytes }) ≡ Ok
          (earlier ++ x ∷ xs, after at (spell x ++ flat_map spell xs) rest) in
          let one = again_one earlier x at (flat_map spell xs ++ rest) h.0 in
          let others = list_again xs (earlier ++ x ∷ []) (at + length (spell x)) rest h.1 in
          let place : at + length (spell x) + length (flat_map spell xs) ≡ at + length
          (spell x ++ flat_map spell xs) = omega (arith, length-append (spell x) (flat_map spell xs)) in
          let same : done ((earlier ++ x ∷ []) ++ xs, after (at + length (spell x)) (flat_map spell xs) rest) ≡ done
          (earlier ++ x ∷ xs, after at (spell x ++ flat_map spell xs) rest)
          = ap (λ (l : List A). done (l, after (at + length (spell x)) (flat_map spell xs) rest))
          (append_assoc earlier (x ∷ []) xs)
          ∙ ap (λ (n : ℕ). done (earlier ++ x ∷ xs, record { at = n; rest = rest })) place in
          subst P (sym (append_assoc (spell x) (flat_map spell xs) rest))
          (bind_at (item earlier (before at (spell x) (flat_map spell xs ++ rest)))
          (λ y. list_at item (length xs) (earlier ++ y.0 ∷ []) y.1) _ _ one (others ∙ same))
