-- Items with flags.
use Rattle.std.proofs.Common.{◌≡◌, ℕ, ℤ, zero, suc, ◌<◌, Bool, true, false, List, [], ◌∷◌, ◌++◌, length, map, take, Option, Some, refl, ap, sym, ◌∙◌, arith}
use Rattle.std.specs.Prelude.{slice_get, slice_set, is_some, replicate}
use Rattle.dk_columns.specs.Options.{option_if, options, Stands, AllStand, number_or_zero}

module _ {T : Type 0} where
  pub options_len : (bs : List Bool) (items : List T) → length bs ≡ length items → length (options bs items) ≡ length items
  options_len [] [] h = refl
  options_len [] (x ∷ items) h = absurd (omega (arith, h))
  options_len (b ∷ bs) [] h = absurd (omega (arith, h))
  options_len (b ∷ bs) (x ∷ items) h = ap suc (options_len bs items (omega (arith, h)))

  pub option_at : (bs : List Bool) (items : List T) (i : ℕ) (b : Bool) (x : T) → slice_get bs i ≡ Some b → slice_get items i ≡ Some x → slice_get (options bs items) i ≡ Some (option_if b x)
  option_at [] items i b x e f = absurd cc
  option_at (a ∷ bs) [] i b x e f = absurd cc
  option_at (a ∷ bs) (y ∷ items) zero b x e f =
      let flag : a ≡ b = cc in
      let item : y ≡ x = cc in
      rw (flag, item) refl
  option_at (a ∷ bs) (y ∷ items) (suc i) b x e f = option_at bs items i b x e f

  pub options_more : (bs : List Bool) (items : List T) (b : Bool) (x : T) → length bs ≡ length items → options (bs ++ b ∷ []) (items ++ x ∷ []) ≡ options bs items ++ option_if b x ∷ []
  options_more [] [] b x h = refl
  options_more [] (y ∷ items) b x h = absurd (omega (arith, h))
  options_more (a ∷ bs) [] b x h = absurd (omega (arith, h))
  options_more (a ∷ bs) (y ∷ items) b x h = ap (λ (os : List (Option T)). option_if a y ∷ os) (options_more bs items b x (omega (arith, h)))

  pub options_set : (bs : List Bool) (items : List T) (i : ℕ) (b : Bool) (x : T) → options (slice_set bs i b) (slice_set items i x) ≡ slice_set (options bs items) i (option_if b x)
  options_set [] items i b x = refl
  options_set (a ∷ bs) [] zero b x = refl
  options_set (a ∷ bs) [] (suc i) b x = refl
  options_set (a ∷ bs) (y ∷ items) zero b x = refl
  options_set (a ∷ bs) (y ∷ items) (suc i) b x = ap (λ (os : List (Option T)). option_if a y ∷ os) (options_set bs items i b x)

  pub options_front : (n : ℕ) (bs : List Bool) (items : List T) → options (take n bs) (take n items) ≡ take n (options bs items)
  options_front zero bs items = refl
  options_front (suc n) [] items = refl
  options_front (suc n) (a ∷ bs) [] = refl
  options_front (suc n) (a ∷ bs) (y ∷ items) = ap (λ (os : List (Option T)). option_if a y ∷ os) (options_front n bs items)

pub stand_len : (bs : List Bool) (ns : List ℤ) → AllStand bs ns → length bs ≡ length ns
stand_len [] [] h = refl
stand_len [] (n ∷ ns) h = absurd h
stand_len (b ∷ bs) [] h = absurd h
stand_len (b ∷ bs) (n ∷ ns) h = ap suc (stand_len bs ns h.1)

pub stand_more : (bs : List Bool) (ns : List ℤ) (b : Bool) (n : ℤ) → AllStand bs ns → Stands b n → AllStand (bs ++ b ∷ []) (ns ++ n ∷ [])
stand_more [] [] b n h s = (s, tt)
stand_more [] (m ∷ ns) b n h s = absurd h
stand_more (a ∷ bs) [] b n h s = absurd h
stand_more (a ∷ bs) (m ∷ ns) b n h s = (h.0, stand_more bs ns b n h.1 s)

pub stand_set : (bs : List Bool) (ns : List ℤ) (i : ℕ) (b : Bool) (n : ℤ) → AllStand bs ns → Stands b n → AllStand (slice_set bs i b) (slice_set ns i n)
stand_set [] [] i b n h s = tt
stand_set [] (m ∷ ns) i b n h s = absurd h
stand_set (a ∷ bs) [] i b n h s = absurd h
stand_set (a ∷ bs) (m ∷ ns) zero b n h s = (s, h.1)
stand_set (a ∷ bs) (m ∷ ns) (suc i) b n h s = (h.0, stand_set bs ns i b n h.1 s)

pub stand_copies : (bs : List Bool) (ns : List ℤ) (b : Bool) (n : ℤ) (count : ℕ) → AllStand bs ns → Stands b n → AllStand (bs ++ replicate count b) (ns ++ replicate count n)
stand_copies [] [] b n zero h s = tt
stand_copies [] [] b n (suc count) h s = (s, stand_copies [] [] b n count h s)
stand_copies [] (m ∷ ns) b n count h s = absurd h
stand_copies (a ∷ bs) [] b n count h s = absurd h
stand_copies (a ∷ bs) (m ∷ ns) b n count h s = (h.0, stand_copies bs ns b n count h.1 s)

pub options_copies : (bs : List Bool) (ns : List ℤ) (b : Bool) (n : ℤ) (count : ℕ) → AllStand bs ns → options (bs ++ replicate count b) (ns ++ replicate count n) ≡ options bs ns ++ replicate count (option_if b n)
options_copies [] [] b n zero h = refl
options_copies [] [] b n (suc count) h = ap (λ (os : List (Option ℤ)). option_if b n ∷ os) (options_copies [] [] b n count h)
options_copies [] (m ∷ ns) b n count h = absurd h
options_copies (a ∷ bs) [] b n count h = absurd h
options_copies (a ∷ bs) (m ∷ ns) b n count h = ap (λ (os : List (Option ℤ)). option_if a m ∷ os) (options_copies bs ns b n count h.1)

-- numbers of which none is missing
pub all_stand : (ns : List ℤ) → AllStand (replicate (length ns) true) ns
all_stand [] = tt
all_stand (n ∷ ns) = (tt, all_stand ns)

pub all_there : (ns : List ℤ) → options (replicate (length ns) true) ns ≡ map Some ns
all_there [] = refl
all_there (n ∷ ns) = ap (λ (os : List (Option ℤ)). Some n ∷ os) (all_there ns)

pub stand_front : (n : ℕ) (bs : List Bool) (ns : List ℤ) → AllStand bs ns → AllStand (take n bs) (take n ns)
stand_front zero bs ns h = tt
stand_front (suc n) [] [] h = tt
stand_front (suc n) [] (m ∷ ns) h = absurd h
stand_front (suc n) (a ∷ bs) [] h = absurd h
stand_front (suc n) (a ∷ bs) (m ∷ ns) h = (h.0, stand_front n bs ns h.1)

-- the numbers of all items, 0 for each that is missing
pub numbers_again : (bs : List Bool) (ns : List ℤ) → AllStand bs ns → map number_or_zero (options bs ns) ≡ ns
numbers_again [] [] h = refl
numbers_again [] (n ∷ ns) h = absurd h
numbers_again (b ∷ bs) [] h = absurd h
numbers_again (true ∷ bs) (n ∷ ns) h = ap (λ (ms : List ℤ). n ∷ ms) (numbers_again bs ns h.1)
numbers_again (false ∷ bs) (n ∷ ns) h = ap (λ (m : ℤ). m ∷ map number_or_zero (options bs ns)) (sym h.0) ∙ ap (λ (ms : List ℤ). n ∷ ms) (numbers_again bs ns h.1)

-- the flags of all items
pub flags_again : {T : Type 0} (bs : List Bool) (items : List T) → length bs ≡ length items → map is_some (options bs items) ≡ bs
flags_again [] items h = refl
flags_again (b ∷ bs) [] h = absurd (omega (arith, h))
flags_again (true ∷ bs) (x ∷ items) h = ap (λ (cs : List Bool). true ∷ cs) (flags_again bs items (omega (arith, h)))
flags_again (false ∷ bs) (x ∷ items) h = ap (λ (cs : List Bool). false ∷ cs) (flags_again bs items (omega (arith, h)))

pub same_fronts : {A B : Type 0} (n : ℕ) (xs : List A) (ys : List B) → length xs ≡ length ys → length (take n xs) ≡ length (take n ys)
same_fronts zero xs ys h = refl
same_fronts (suc n) [] [] h = refl
same_fronts (suc n) [] (y ∷ ys) h = absurd (omega (arith, h))
same_fronts (suc n) (x ∷ xs) [] h = absurd (omega (arith, h))
same_fronts (suc n) (x ∷ xs) (y ∷ ys) h = ap suc (same_fronts n xs ys (omega (arith, h)))

-- another place than the one that was set
pub set_other_at : {T : Type 0} (xs : List T) (i j : ℕ) (y x : T) → i < j → slice_get xs j ≡ Some x → slice_get (slice_set xs i y) j ≡ Some x
set_other_at [] i j y x lt e = absurd cc
set_other_at (z ∷ xs) i zero y x lt e = absurd (omega (arith, lt))
set_other_at (z ∷ xs) zero (suc j) y x lt e = e
set_other_at (z ∷ xs) (suc i) (suc j) y x lt e = set_other_at xs i j y x (omega (arith, lt)) e
