-- Lists whose keys ascend, each once.
use Rattle.std.proofs.Common.{◌≡◌, ℕ, Bool, true, false, List, [], ◌∷◌, sym, refl, subst, arith}
use Rattle.std.specs.Prelude.{nat_lt, ◌==◌, if◌then◌else◌}
use Rattle.std.specs.List.{list_all, filter}
use Rattle.std.proofs.lemmas.Bool.{and_from, and_parts, eqb-true}
use Rattle.dk_si.specs.Nets.{rises}
use Rattle.dk_si.specs.Nets.{put_by, put_all}

-- all keys stand above this one
abbrev pub all_above : {T : Type 0} → (T → ℕ) → ℕ → List T → Bool
all_above key low xs = list_all (λ x. nat_lt low (key x)) xs

all_if : {T : Type 0} → (test : T → Bool) → (kept : Bool) → (x : T) → (xs : List T) → test x ≡ true → list_all test xs
    ≡ true
    → list_all test (if kept then x ∷ xs else xs) ≡ true
all_if test true x xs one all = and_from _ _ one all
all_if test false x xs one all = all

-- what all items pass, those that are kept pass
pub all_kept : {T : Type 0} → (keep test : T → Bool) → (xs : List T) → list_all test xs ≡ true
    → list_all test (filter keep xs) ≡ true
all_kept keep test [] all = refl
all_kept keep test (x ∷ xs) all =
    let h = and_parts _ _ all in all_if test (keep x) x (filter keep xs) h.0 (all_kept keep test xs h.1)

rises_if : {T : Type 0} → (key : T → ℕ) → (kept : Bool) → (x : T) → (xs : List T) → all_above key (key x) xs ≡ true
    → rises key xs ≡ true
    → rises key (if kept then x ∷ xs else xs) ≡ true
rises_if key true x xs above up = and_from _ _ above up
rises_if key false x xs above up = up

pub rises_kept : {T : Type 0} → (key : T → ℕ) → (keep : T → Bool) → (xs : List T) → rises key xs ≡ true
    → rises key (filter keep xs) ≡ true
rises_kept key keep [] up = refl
rises_kept key keep (x ∷ xs) up =
    let h = and_parts _ _ up in
    rises_if key (keep x) x (filter keep xs) (all_kept keep (λ y. nat_lt (key x) (key y)) xs h.0)
    (rises_kept key keep xs h.1)

-- the list that comes by the two tests of putting an item before, in the place of, or behind the first one
all_choice : {T : Type 0} → (test : T → Bool) → (less same : Bool) → (item first : T) → (items others : List T)
    → test item ≡ true → test first ≡ true → list_all test items ≡ true → list_all test others ≡ true
    → list_all test (if less then item ∷ first ∷ items else (if same then item ∷ items else first ∷ others)) ≡ true
all_choice test true same item first items others one two all more = and_from _ _ one (and_from _ _ two all)
all_choice test false true item first items others one two all more = and_from _ _ one all
all_choice test false false item first items others one two all more = and_from _ _ two more

pub all_put : {T : Type 0} → (key : T → ℕ) → (test : T → Bool) → (item : T) → (items : List T) → test item ≡ true
    → list_all test items ≡ true → list_all test (put_by key item items) ≡ true
all_put key test item [] one all = and_from _ _ one refl
all_put key test item (first ∷ items) one all =
    let h = and_parts _ _ all in
    all_choice test (nat_lt (key item) (key first)) (key item == key first) item first items (put_by key item items)
    one h.0 h.1 (all_put key test item items one h.1)

pub all_put_all : {T : Type 0} → (key : T → ℕ) → (test : T → Bool) → (more items : List T) → list_all test more ≡ true
    → list_all test items ≡ true → list_all test (put_all key more items) ≡ true
all_put_all key test [] items some all = all
all_put_all key test (item ∷ more) items some all =
    let h = and_parts _ _ some in
    all_put_all key test more (put_by key item items) h.1 (all_put key test item items h.0 all)

lower : (a b c : ℕ) → nat_lt a b ≡ true → nat_lt b c ≡ true → nat_lt a c ≡ true
lower a b c x y = grind (arith, x, y)

-- what stands above a key stands above a lower one
above_lower : {T : Type 0} → (key : T → ℕ) → (low high : ℕ) → (xs : List T) → nat_lt low high ≡ true
    → all_above key high xs ≡ true
    → all_above key low xs ≡ true
above_lower key low high [] less above = refl
above_lower key low high (x ∷ xs) less above =
    let h = and_parts _ _ above in
    and_from _ _ (lower low high (key x) less h.0) (above_lower key low high xs less h.1)

greater : (a b : ℕ) → nat_lt a b ≡ false → (a == b) ≡ false → nat_lt b a ≡ true
greater a b x y = grind (arith, x, y)

rises_choice : {T : Type 0} → (key : T → ℕ) → (less same : Bool) → (item first : T) → (items others : List T)
    → nat_lt (key item) (key first) ≡ less → (key item == key first) ≡ same
    → all_above key (key first) items ≡ true → rises key items ≡ true
    → (nat_lt (key first) (key item) ≡ true → all_above key (key first) others ≡ true) → rises key others ≡ true
    → rises key (if less then item ∷ first ∷ items else (if same then item ∷ items else first ∷ others)) ≡ true
rises_choice key true same item first items others l s above up more up' =
    and_from _ _ (and_from _ _ l (above_lower key (key item) (key first) items l above)) (and_from _ _ above up)
rises_choice key false true item first items others l s above up more up' =
    and_from _ _ (subst (λ n. all_above key n items ≡ true) (sym (eqb-true (key item) (key first) s)) above) up
rises_choice key false false item first items others l s above up more up' =
    and_from _ _ (more (greater (key item) (key first) l s)) up'

pub rises_put : {T : Type 0} → (key : T → ℕ) → (item : T) → (items : List T) → rises key items ≡ true
    → rises key (put_by key item items) ≡ true
rises_put key item [] up = refl
rises_put key item (first ∷ items) up =
    let h = and_parts _ _ up in
    rises_choice key (nat_lt (key item) (key first)) (key item == key first) item first items
    (put_by key item items) refl refl h.0 h.1
    (λ less. all_put key (λ other. nat_lt (key first) (key other)) item items less h.0) (rises_put key item items h.1)

pub rises_put_all : {T : Type 0} → (key : T → ℕ) → (more items : List T) → rises key items ≡ true
    → rises key (put_all key more items) ≡ true
rises_put_all key [] items up = up
rises_put_all key (item ∷ more) items up = rises_put_all key more (put_by key item items) (rises_put key item items up)
