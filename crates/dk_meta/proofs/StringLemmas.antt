-- Fields that pass a test, lists of fields, and byte strings that are used up.
use Rattle.std.proofs.Common.{◌≡◌, ℕ, ◌+◌, ◌^◌, ◌<◌, Bool, true, cond, List, [], ◌∷◌, ◌++◌, length, Result, Ok, Err, sym, ap, subst, ◌∙◌, append-nil, length-append, arith}
use Rattle.std.specs.Prelude.{IfOk}
use Rattle.std.specs.List.{flat_map, AllByRecursion}
use Rattle.std.specs.Int.{Width, to_le_bytes}
use mir.Val.{bits}
use Rattle.dk_bytes.specs.Fields.{IsBytes, Place, number_at}
use Rattle.dk_bytes.specs.declared.field_error.FieldError.{FieldError}
use Rattle.dk_bytes.specs.Reading.{◌>>=◌, Gives, list_at, AllFollow, start, whole}
use Rattle.dk_bytes.proofs.NumberLemmas.{Takes, IsWide, bind_ok, chosen_ok, number_takes}
use Rattle.dk_bytes.proofs.OutcomeLemmas.{gives_found, gives_only, whole_ok, whole_at}
use Rattle.dk_bytes.proofs.PlainValueLemmas.{after}
use Rattle.dk_bytes.proofs.SpellLemmas.{before, IsSpelled, IsField, list_takes, list_again}
use Rattle.dk_meta.specs.Strings.{IsString, checked_at, always}

-- ---- numbers

-- a number that fits its field and passes the test
pub record IsChecked (w : Width) (test : ℕ → Bool) (n : ℕ) : Type 0 where
  pub fits : n < 2 ^ bits w
  pub passes : test n ≡ true

pub checked_takes : (w : Width) (wide : IsWide w) (test : ℕ → Bool) (p : Place) (x : ℕ × Place) → IsBytes p.rest
    → checked_at w test p ≡ Ok x → IsSpelled (IsChecked w test) (to_le_bytes w) p x
checked_takes w wide test p x fits e =
    let b = bind_ok (number_at w p) (λ n. cond (test n.0) (Ok n) (Err p.at)) x e in
    let n = b.0 in
    let t = number_takes w wide p n fits b.1 in
    let g = chosen_ok (test n.0) p.at n x b.2 in
    subst (λ (y : ℕ × Place). IsSpelled (IsChecked w test) (to_le_bytes w) p y) g.1
    (record { lawful = record { fits = t.1; passes = g.0 }; takes = t.0 })

pub number_spelled : (w : Width) (wide : IsWide w) (p : Place) (x : ℕ × Place) → IsBytes p.rest
    → number_at w p ≡ Ok x → IsSpelled (λ n. n < 2 ^ bits w) (to_le_bytes w) p x
number_spelled w wide p x fits e =
    let t = number_takes w wide p x fits e in
    record { lawful = t.1; takes = t.0 }

-- ---- what comes first, and what follows

-- a thing was read first, and the reading went on behind it
pub record Step {A B : Type 0} (Is : A → Type 0) (spell : A → List ℕ) (p : Place) (next : A × Place → Result B ℕ)
    (y : B) : Type 0 where
  pub first : A × Place
  pub spelled : IsSpelled Is spell p first
  pub onward : next first ≡ Ok y

pub first_step : {A B : Type 0} (read : Place → Result (A × Place) ℕ) (Is : A → Type 0) (spell : A → List ℕ)
    → ((p : Place) (x : A × Place) → IsBytes p.rest → read p ≡ Ok x → IsSpelled Is spell p x)
    → (p : Place) (next : A × Place → Result B ℕ) (y : B) → IsBytes p.rest → (read p >>= next) ≡ Ok y
    → Step Is spell p next y
first_step read Is spell takes p next y fits e =
    let b = bind_ok (read p) next y e in
    record { first = b.0; spelled = takes p b.0 fits b.1; onward = b.2 }

-- the place behind three things
pub behind_three : (at : ℕ) (a b c : List ℕ) → at + length a + length b + length c ≡ at + length (a ++ (b ++ c))
behind_three at a b c = omega (arith, length-append a (b ++ c), length-append b c)

-- ---- lists of a field

module _ {A : Type 0} (Is : A → Type 0) where
  -- things that follow whatever stands before them
  pub followed : (earlier xs : List A) → AllFollow (λ _ x. Is x) earlier xs → AllByRecursion Is xs
  followed earlier [] h = tt
  followed earlier (x ∷ xs) h = (h.0, followed (earlier ++ x ∷ []) xs h.1)

  pub follow : (earlier xs : List A) → AllByRecursion Is xs → AllFollow (λ _ x. Is x) earlier xs
  follow earlier [] h = tt
  follow earlier (x ∷ xs) h = (h.0, follow (earlier ++ x ∷ []) xs h.1)

module _ {A : Type 0} (read : Place → Result (A × Place) ℕ) (Is : A → Type 0) (spell : A → List ℕ)
    (field : IsField read Is spell) where
  -- so many things were read
  pub record AreTaken (n : ℕ) (p : Place) (x : List A × Place) : Type 0 where
    pub count : length x.0 ≡ n
    pub each : AllByRecursion Is x.0
    pub takes : Takes p x.1 (flat_map spell x.0)

  pub each_takes : (n : ℕ) (p : Place) (x : List A × Place) → IsBytes p.rest → list_at (always read) n [] p ≡ Ok x
      → AreTaken n p x
  each_takes n p x fits e =
      let u = list_takes (always read) (λ _ y. Is y) spell (λ _ q y b k. field.takes q y b k) n [] p x fits e in
      record {
        count = ap (λ (l : List A). length l) u.all ∙ u.count;
        each = subst (λ (l : List A). AllByRecursion Is l) (sym u.all) (followed Is [] u.items u.follow);
        takes = subst (λ (l : List A). Takes p x.1 (flat_map spell l)) (sym u.all) u.takes;
      }

  pub each_again : (xs : List A) (at : ℕ) (rest : List ℕ) → AllByRecursion Is xs
      → list_at (always read) (length xs) [] (before at (flat_map spell xs) rest) ≡ Ok
      (xs, after at (flat_map spell xs) rest)
  each_again xs at rest h =
      list_again (always read) (λ _ y. Is y) spell (λ _ y at' rest' k. field.again y at' rest' k) xs [] at rest
      (follow Is [] xs h)

  -- ---- byte strings

  pub string_takes : (bytes : List ℕ) (x : A) → IsBytes bytes → whole (read (start bytes)) ≡ Ok x
      → IsString Is spell x bytes
  string_takes bytes x fits e =
      let u = whole_ok (read (start bytes)) x e in
      let t = field.takes (start bytes) (x, u.behind) fits u.told in
      record {
        lawful = t.lawful;
        spelled = t.takes.passes.rest ∙ ap (λ (l : List ℕ). spell x ++ l) u.used ∙ append-nil (spell x);
      }

  pub string_again : (bytes : List ℕ) (x : A) → IsString Is spell x bytes → whole (read (start bytes)) ≡ Ok x
  string_again bytes x h =
      let P : List ℕ → Type 0 = λ l. whole (read (record { at = 0; rest = l })) ≡ Ok x in
      let Q : List ℕ → Type 0 = λ l. read (record { at = 0; rest = l }) ≡ Ok (x, after 0 (spell x) []) in
      let read_it : read (record { at = 0; rest = spell x }) ≡ Ok (x, after 0 (spell x) []) =
      subst Q (append-nil (spell x)) (field.again x 0 [] h.lawful) in
      subst P (sym h.spelled)
      (whole_at (read (record { at = 0; rest = spell x })) x (0 + length (spell x)) read_it)

  module _ {X : Type 0} (view : X → A) (result : Result X FieldError) (bytes : List ℕ)
      (gives : Gives view result (whole (read (start bytes)))) where
    -- what a call answered is what the byte string spells
    pub string_found : IsBytes bytes → IfOk result (λ x. IsString Is spell (view x) bytes)
    string_found fits =
        gives_found view (λ (y : A). IsString Is spell y bytes) result (whole (read (start bytes))) gives
        (λ y e. string_takes bytes y fits e)

    -- what the byte string spells was answered
    pub string_only : (x : A) → IsString Is spell x bytes → Gives view result (Ok x)
    string_only x h = gives_only view result (whole (read (start bytes))) x gives (string_again bytes x h)
