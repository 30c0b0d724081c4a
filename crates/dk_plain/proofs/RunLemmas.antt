-- An ascending run joins an ascending list in one pass.
use Rattle.std.proofs.Common.{◌≡◌, ℕ, ◌<◌, Bool, true, false, ◌≤◌, List, [], ◌∷◌, ◌++◌, ◌+◌, length, take, drop, get_or, ap, refl, ◌∙◌, sym, arith, append_assoc}
use Rattle.std.specs.Prelude.{nat_lt, nat_le, not, ◌&&◌, ◌==◌, if◌then◌else◌}
use Rattle.std.specs.List.{list_all}
use Rattle.std.proofs.lemmas.Bool.{and_from, and_parts, false≢true}
use Rattle.std.proofs.lemmas.List.{take_more, drop_more}
use Rattle.dk_si.specs.Nets.{put_by, put_all, rises}
use Rattle.dk_plain.specs.Runs.{below, behind}

-- ---- where an item stands

greater : (a b : ℕ) (less same : Bool) → nat_lt a b ≡ less → (a == b) ≡ same → nat_lt b a ≡ (not less && not same)
greater a b true same x y = grind (arith, x)
greater a b false true x y = grind (arith, y)
greater a b false false x y = grind (arith, x, y)

-- the items in front of an item and behind it, by the two tests of putting it
parts_choice : {T : Type 0} → (less same : Bool) → (item first : T) → (items under over put : List T)
    → (less ≡ true → same ≡ false) → put ≡ under ++ item ∷ over
    → (if less then item ∷ first ∷ items else (if same then item ∷ items else first ∷ put))
    ≡ (if not less && not same then first ∷ under else [])
    ++ item ∷ (if not less && not same then over else (if same then items else first ∷ items))
parts_choice true true item first items under over put one is = absurd (false≢true (sym (one refl)))
parts_choice true false item first items under over put one is = refl
parts_choice false true item first items under over put one is = refl
parts_choice false false item first items under over put one is = ap (λ rest. first ∷ rest) is

apart : (a b : ℕ) → nat_lt a b ≡ true → (a == b) ≡ false
apart a b x = grind (arith, x)

-- an item stands behind the items below it
put_parts : {T : Type 0} → (key : T → ℕ) → (item : T) → (items : List T)
    → put_by key item items ≡ below key (key item) items ++ item ∷ behind key (key item) items
put_parts key item [] = refl
put_parts key item (first ∷ items) =
    parts_choice (nat_lt (key item) (key first)) (key item == key first) item first items
    (below key (key item) items) (behind key (key item) items) (put_by key item items) (apart (key item) (key first)) (put_parts key item items)
    ∙ ap (λ above. (if above then first ∷ below key (key item) items else [])
    ++ item ∷ (if above then behind key (key item) items else (if key item == key first then items else first ∷ items)))
    (sym (greater (key item) (key first) (nat_lt (key item) (key first)) (key item == key first) refl refl))

-- ---- a run joins

below_choice : {T : Type 0} → (test : T → Bool) → (keep : Bool) → (first : T) → (under : List T) → test first ≡ keep
    → list_all test under ≡ true → list_all test (if keep then first ∷ under else []) ≡ true
below_choice test true first under one all = and_from _ _ one all
below_choice test false first under one all = refl

below_all : {T : Type 0} → (key : T → ℕ) → (bound : ℕ) → (items : List T)
    → list_all (λ item. nat_lt (key item) bound) (below key bound items) ≡ true
below_all key bound [] = refl
below_all key bound (first ∷ items) =
    below_choice (λ item. nat_lt (key item) bound) (nat_lt (key first) bound) first (below key bound items) refl
    (below_all key bound items)

between : (a b c : ℕ) → nat_lt a b ≡ true → nat_lt b c ≡ true → nat_lt a c ≡ true
between a b c x y = grind (arith, x, y)

all_between : {T : Type 0} → (key : T → ℕ) → (low high : ℕ) → (run : List T) → nat_lt low high ≡ true
    → list_all (λ item. nat_lt high (key item)) run ≡ true → list_all (λ item. nat_lt low (key item)) run ≡ true
all_between key low high [] less above = refl
all_between key low high (item ∷ run) less above =
    let h = and_parts _ _ above in
    and_from _ _ (between low high (key item) less h.0) (all_between key low high run less h.1)

last_choice : {T : Type 0} → (less same : Bool) → (a b c : T) → less ≡ false → same ≡ false
    → (if less then a else (if same then b else c)) ≡ c
last_choice less same a b c l s = ap (λ x. if x then a else (if same then b else c)) l ∙ ap (λ x. if x then b else c) s

not_less : (a b : ℕ) → nat_lt a b ≡ true → nat_lt b a ≡ false
not_less a b x = grind (arith, x)

not_same : (a b : ℕ) → nat_lt a b ≡ true → (b == a) ≡ false
not_same a b x = grind (arith, x)

-- what stands below a run stays in front
front_stays : {T : Type 0} → (key : T → ℕ) → (first : T) → (run items : List T)
    → list_all (λ item. nat_lt (key first) (key item)) run ≡ true
    → put_all key run (first ∷ items) ≡ first ∷ put_all key run items
front_stays key first [] items above = refl
front_stays key first (item ∷ run) items above =
    let h = and_parts _ _ above in
    ap (put_all key run) (last_choice (nat_lt (key item) (key first)) (key item == key first)
    (item ∷ first ∷ items) (item ∷ items) (first ∷ put_by key item items)
    (not_less (key first) (key item) h.0) (not_same (key first) (key item) h.0))
    ∙ front_stays key first run (put_by key item items) h.1

all_stay : {T : Type 0} → (key : T → ℕ) → (bound : ℕ) → (front run items : List T)
    → list_all (λ item. nat_lt (key item) bound) front ≡ true → list_all (λ item. nat_lt bound (key item)) run ≡ true
    → put_all key run (front ++ items) ≡ front ++ put_all key run items
all_stay key bound [] run items under above = refl
all_stay key bound (first ∷ front) run items under above =
    let h = and_parts _ _ under in
    front_stays key first run (front ++ items) (all_between key (key first) bound run h.0 above)
    ∙ ap (λ rest. first ∷ rest) (all_stay key bound front run items h.1 above)

joined : {T : Type 0} → (key : T → ℕ) → (item : T) → (run items : List T) → rises key (item ∷ run) ≡ true
    → put_all key (item ∷ run) items
    ≡ below key (key item) items ++ item ∷ put_all key run (behind key (key item) items)
joined key item run items up =
    let h = and_parts _ _ up in
    let bound = key item in
    ap (put_all key run) (put_parts key item items)
    ∙ (all_stay key bound (below key bound items) run (item ∷ behind key bound items) (below_all key bound items) h.0
    ∙ ap (λ rest. below key bound items ++ rest) (front_stays key item run (behind key bound items) h.0))

-- an item more of a run stands, and the rest joins what is behind it
pub run_step : {T : Type 0} → (key : T → ℕ) → (done : List T) → (item : T) → (run items : List T)
    → rises key (item ∷ run) ≡ true
    → ((done ++ below key (key item) items) ++ item ∷ []) ++ put_all key run (behind key (key item) items)
    ≡ done ++ put_all key (item ∷ run) items
run_step key done item run items up =
    append_assoc (done ++ below key (key item) items) (item ∷ []) (put_all key run (behind key (key item) items))
    ∙ (append_assoc done (below key (key item) items) (item ∷ put_all key run (behind key (key item) items))
    ∙ ap (λ rest. done ++ rest) (sym (joined key item run items up)))

-- the rest of a run is one
pub rest_rises : {T : Type 0} → (key : T → ℕ) → (item : T) → (run : List T) → rises key (item ∷ run) ≡ true
    → rises key run ≡ true
rest_rises key item run up = (and_parts _ _ up).1

-- ---- a run is cut off

all_and_one : {T : Type 0} → (test : T → Bool) → (items : List T) → (item : T) → list_all test items ≡ true
    → test item ≡ true → list_all test (items ++ item ∷ []) ≡ true
all_and_one test [] item all one = and_from _ _ one refl
all_and_one test (first ∷ items) item all one =
    let h = and_parts _ _ all in and_from _ _ h.0 (all_and_one test items item h.1 one)

rises_and_one : {T : Type 0} → (key : T → ℕ) → (run : List T) → (item : T) → rises key run ≡ true
    → list_all (λ other. nat_lt (key other) (key item)) run ≡ true → rises key (run ++ item ∷ []) ≡ true
rises_and_one key [] item up under = refl
rises_and_one key (first ∷ run) item up under =
    let h = and_parts _ _ up in
    let u = and_parts _ _ under in
    and_from _ _ (all_and_one (λ other. nat_lt (key first) (key other)) run item h.0 u.0)
    (rises_and_one key run item h.1 u.1)

lower : (a b c : ℕ) → nat_le a b ≡ true → b < c → nat_lt a c ≡ true
lower a b c x y = grind (arith, x, y)

all_lower : {T : Type 0} → (key : T → ℕ) → (low high : ℕ) → (run : List T) → low < high
    → list_all (λ other. nat_le (key other) low) run ≡ true → list_all (λ other. nat_lt (key other) high) run ≡ true
all_lower key low high [] less under = refl
all_lower key low high (item ∷ run) less under =
    let h = and_parts _ _ under in
    and_from _ _ (lower (key item) low high h.0 less) (all_lower key low high run less h.1)

-- one more item with a greater key than all of a run makes it longer
pub rises_longer : {T : Type 0} → (key : T → ℕ) → (run : List T) → (item : T) → (greatest : ℕ)
    → rises key run ≡ true → list_all (λ other. nat_le (key other) greatest) run ≡ true
    → greatest < key item → rises key (run ++ item ∷ []) ≡ true
rises_longer key run item greatest up under less = rises_and_one key run item up (all_lower key greatest (key item) run less under)

no_more : (a b : ℕ) → nat_lt a b ≡ true → nat_le a b ≡ true
no_more a b x = grind (arith, x)

itself : (a : ℕ) → nat_le a a ≡ true
itself a = grind (arith)

all_no_more : {T : Type 0} → (key : T → ℕ) → (high : ℕ) → (run : List T)
    → list_all (λ other. nat_lt (key other) high) run ≡ true → list_all (λ other. nat_le (key other) high) run ≡ true
all_no_more key high [] under = refl
all_no_more key high (item ∷ run) under =
    let h = and_parts _ _ under in and_from _ _ (no_more (key item) high h.0) (all_no_more key high run h.1)

-- and that item has the greatest key of them
pub under_longer : {T : Type 0} → (key : T → ℕ) → (run : List T) → (item : T) → (greatest : ℕ)
    → list_all (λ other. nat_le (key other) greatest) run ≡ true → greatest < key item
    → list_all (λ other. nat_le (key other) (key item)) (run ++ item ∷ []) ≡ true
under_longer key run item greatest under less =
    all_and_one (λ other. nat_le (key other) (key item)) run item
    (all_no_more key (key item) run (all_lower key greatest (key item) run less under)) (itself (key item))

higher : (a b c : ℕ) → a ≤ b → b < c → nat_lt a c ≡ true
higher a b c x y = grind (arith, x, y)

-- which stands above the key that the others stand above
pub above_longer : {T : Type 0} → (key : T → ℕ) → (low : ℕ) → (run : List T) → (item : T) → (greatest : ℕ)
    → list_all (λ other. nat_lt low (key other)) run ≡ true → low ≤ greatest → greatest < key item
    → list_all (λ other. nat_lt low (key other)) (run ++ item ∷ []) ≡ true
above_longer key low run item greatest above least less =
    all_and_one (λ other. nat_lt low (key other)) run item above (higher low greatest (key item) least less)

pub put_runs : {T : Type 0} → (key : T → ℕ) → (run rest items : List T)
    → put_all key (run ++ rest) items ≡ put_all key rest (put_all key run items)
put_runs key [] rest items = refl
put_runs key (item ∷ run) rest items = put_runs key run rest (put_by key item items)

-- ---- the steps of the loops

-- the next item of a run stands behind what is below it, where it is the one at this place
pub merge_step : {T : Type 0} → (key : T → ℕ) → (done under new run left rest all : List T) → (i bound : ℕ)
    → (item copied : T) → i < length run → item ≡ get_or run i item → bound ≡ key item
    → under ≡ done ++ below key bound left → rest ≡ behind key bound left → copied ≡ item → new ≡ under ++ copied ∷ []
    → done ++ put_all key (drop i run) left ≡ all → rises key (drop i run) ≡ true
    → (new ++ put_all key (drop (i + 1) run) rest ≡ all) × (rises key (drop (i + 1) run) ≡ true)
merge_step key done under new run left rest all i bound item copied within is named front back same put joins up =
    let others = drop (i + 1) run in
    let cut : drop i run ≡ item ∷ others = drop_more run i item within ∙ ap (λ x. x ∷ others) (sym is) in
    let rising = ap (rises key) (sym cut) ∙ up in
    let front : under ≡ done ++ below key (key item) left = front ∙ ap (λ n. done ++ below key n left) named in
    let back : rest ≡ behind key (key item) left = back ∙ ap (λ n. behind key n left) named in (
      ap (λ front. front ++ put_all key others rest) (put ∙ ap (λ x. under ++ x ∷ []) same ∙ ap (λ u. u ++ item ∷ []) front)
          ∙ ap (λ back. ((done ++ below key (key item) left) ++ item ∷ []) ++ put_all key others back) back
          ∙ run_step key done item others left rising ∙ ap (λ more. done ++ put_all key more left) (sym cut) ∙ joins,
      rest_rises key item others rising,
    )

-- the next item makes a run longer, where it is the one at this place
pub above_step : {T : Type 0} → (key : T → ℕ) → (low greatest next : ℕ) → (items : List T) → (i : ℕ) → (item : T)
    → i < length items → item ≡ get_or items i item → next ≡ key item → low ≤ greatest → greatest < next
    → list_all (λ other. nat_lt low (key other)) (take i items) ≡ true
    → list_all (λ other. nat_le (key other) greatest) (take i items) ≡ true → rises key (take i items) ≡ true
    → (list_all (λ other. nat_lt low (key other)) (take (i + 1) items) ≡ true)
    × (list_all (λ other. nat_le (key other) next) (take (i + 1) items) ≡ true)
    × (rises key (take (i + 1) items) ≡ true)
above_step key low greatest next items i item within is named least less above under up =
    let more : take (i + 1) items ≡ take i items ++ item ∷ [] =
    take_more items i item within ∙ ap (λ x. take i items ++ x ∷ []) (sym is) in
    let run = take i items in
    let less : greatest < key item = omega (arith, less, named) in (
      ap (list_all (λ other. nat_lt low (key other))) more ∙ above_longer key low run item greatest above least less,
      ap (list_all (λ other. nat_le (key other) next)) more
          ∙ ap (λ n. list_all (λ other. nat_le (key other) n) (run ++ item ∷ [])) named
          ∙ under_longer key run item greatest under less,
      ap (rises key) more ∙ rises_longer key run item greatest up under less,
    )
