-- Counted lists: what is read is spelled there, and what is spelled there is read.
use Rattle.std.proofs.Common.{◌≡◌, ℕ, ◌+◌, ◌<◌, ◌^◌, Bool, true, cond, List, [], ◌++◌, length, Result, Ok, Err, sym, ap, subst, ◌∙◌, append_assoc, length-append, arith}
use Rattle.std.specs.List.{flat_map}
use mir.Val.{bits}
use Rattle.std.specs.Int.{Width, byte_len, to_le_bytes}
use Rattle.dk_bytes.specs.Fields.{IsBytes, Place, number_at}
use Rattle.dk_bytes.specs.Reading.{◌>>=◌, list_at, AllFollow}
use Rattle.dk_bytes.proofs.NumberLemmas.{Takes, Takes-then, IsWide, bind_ok, bind_at, chosen_ok, number_takes, number_again, done}
use Rattle.dk_bytes.proofs.PlainValueLemmas.{after}
use Rattle.dk_bytes.proofs.SpellLemmas.{before, IsSpelled, IsField, list_takes, list_again}
use Rattle.dk_wal.specs.Counted.{counted, IsCounted, counted_at}

-- an item of a list that is read with those before it in view
pub record IsItem {A : Type 0} (item : List A → Place → Result (A × Place) ℕ) (Fits : List A → A → Type 0)
    (spell : A → List ℕ) : Type 0 where
  pub takes : (earlier : List A) (p : Place) (x : A × Place) → IsBytes p.rest → item earlier p ≡ Ok x
      → IsSpelled (Fits earlier) spell p x
  pub again : (earlier : List A) (x : A) (at : ℕ) (rest : List ℕ) → Fits earlier x
      → item earlier (before at (spell x) rest) ≡ Ok (x, after at (spell x) rest)

chosen_then : {A B : Type 0} (b : Bool) (x : A) (at : ℕ) (f : A → Result B ℕ) (y : Result B ℕ) → b ≡ true → f x ≡ y
    → (cond b (Ok x) (Err at) >>= f) ≡ y
chosen_then {A} b x at f y is e =
    let P : Bool → Type 0 = λ t. (cond t (Ok x) (Err at) >>= f) ≡ y in
    subst P (sym is) e

module _ {A : Type 0} (w : Width) (wide : IsWide w) (may : ℕ → Bool)
    (item : List A → Place → Result (A × Place) ℕ) (Fits : List A → A → Type 0) (spell : A → List ℕ)
    (is_item : IsItem item Fits spell) where
  counted_takes : (p : Place) (x : List A × Place) → IsBytes p.rest → counted_at w may item p ≡ Ok x
      → IsSpelled (IsCounted w may Fits) (counted w spell) p x
  unfolding counted_at
  counted_takes p x fits e =
      let b = bind_ok (number_at w p)
      (λ n. cond (may n.0) (Ok n) (Err p.at) >>= λ count. list_at item count.0 [] count.1) x e in
      let n = b.0 in
      let t = number_takes w wide p n fits b.1 in
      let d = bind_ok (cond (may n.0) (Ok n) (Err p.at)) (λ count. list_at item count.0 [] count.1) x b.2 in
      let g = chosen_ok (may n.0) p.at n d.0 d.1 in
      let read : list_at item n.0 [] n.1 ≡ Ok x = subst (λ (k : ℕ × Place). list_at item k.0 [] k.1 ≡ Ok x)
      (sym g.1) d.2 in
      let u = list_takes item Fits spell is_item.takes n.0 [] n.1 x t.0.left read in
      let len : length x.0 ≡ n.0 = ap (λ (l : List A). length l) u.all ∙ u.count in
      record {
        lawful = record {
          count = subst (λ (k : ℕ). may k ≡ true) (sym len) g.0;
          fits = subst (λ (k : ℕ). k < 2 ^ bits w) (sym len) t.1;
          follow = subst (λ (l : List A). AllFollow Fits [] l) (sym u.all) u.follow;
        };
        takes = Takes-then p n.1 x.1 (to_le_bytes w (length x.0)) (flat_map spell x.0)
            (subst (λ (k : ℕ). Takes p n.1 (to_le_bytes w k)) (sym len) t.0)
            (subst (λ (l : List A). Takes n.1 x.1 (flat_map spell l)) (sym u.all) u.takes);
      }

  counted_again : (xs : List A) (at : ℕ) (rest : List ℕ) → IsCounted w may Fits xs
      → counted_at w may item (before at (counted w spell xs) rest) ≡ Ok (xs, after at (counted w spell xs) rest)
  unfolding counted_at
  counted_again xs at rest h =
      let head = to_le_bytes w (length xs) in
      let body = flat_map spell xs in
      let next : Place = record { at = at + byte_len w; rest = body ++ rest } in
      let P : List ℕ → Type 0 = λ bytes. (number_at w (record { at = at; rest = bytes })
      >>= λ n. cond (may n.0) (Ok n) (Err at) >>= λ count. list_at item count.0 [] count.1) ≡ Ok
      (xs, after at (head ++ body) rest) in
      let place : at + byte_len w + length body ≡ at + length (head ++ body)
      = omega (arith, length-append head body, wide.len (length xs)) in
      let listed : list_at item (length xs) [] next ≡ Ok (xs, after at (head ++ body) rest)
      = list_again item Fits spell is_item.again xs [] (at + byte_len w) rest h.follow
      ∙ ap (λ (n : ℕ). done (xs, record { at = n; rest = rest })) place in
      subst P (sym (append_assoc head body rest))
      (bind_at (number_at w (record { at = at; rest = head ++ (body ++ rest) }))
      (λ n. cond (may n.0) (Ok n) (Err at) >>= λ count. list_at item count.0 [] count.1) (length xs, next) _
      (number_again w wide (length xs) (body ++ rest) at h.fits)
      (chosen_then (may (length xs)) (length xs, next) at (λ count. list_at item count.0 [] count.1) _ h.count listed))

  pub counted_field : IsField (counted_at w may item) (IsCounted w may Fits) (counted w spell)
  counted_field = record { takes = counted_takes; again = counted_again }
