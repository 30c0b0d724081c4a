-- The current header of a main file behind a write to a twin.
use Rattle.std.specs.Prelude.{◌≡◌, ◌≢◌, ◌⊎◌, ℕ, zero, suc, ◌+◌, ◌-◌, ◌<◌, ◌≤◌, ◌==◌, Bool, true, false, Result, Ok, Err, Option, None, Some, List, length, take, drop, get_or, refl, if◌then◌else◌}
use Rattle.std.proofs.Common.{inl, inr, sym, ◌∙◌, ap, arith}
use Rattle.std.proofs.lemmas.Bool.{cases_lt, le-ltb, lt-ltb, eq-eqb, ne_eqb}
use Rattle.std.proofs.lemmas.Bool.Decides.{eqb_tells}
use Rattle.std.proofs.lemmas.List.{take-take, get_or-take, get_or-drop}
use Rattle.dk_types.specs.declared.damage.Damage.{Damage}
use Rattle.dk_header.specs.declared.header.TheConstants.{HEADER_BYTES, BODY_BYTES, OPEN_GATE}
use Rattle.dk_header.specs.declared.header.DbHeader.{DbHeader}
use Rattle.dk_header.specs.Layout.{body_read, twin_read, current_of}
use Rattle.dk_device.specs.Disk.{TornWrite}
use Rattle.dk_device.proofs.ChangeLemmas.{torn_byte, torn_range}
use Rattle.dk_block_file.specs.Flips.{header_place, gate_place, body_at, gate_at}
use Rattle.dk_block_file.specs.Current.{header_at, chosen_twin, current_in}
use Rattle.dk_block_file.specs.declared.layout.TheConstants.{HEADERS_BYTES}

-- the gate and the body of a twin's header
gate_is : (twin : ℕ) (m : List ℕ) → get_or (header_at twin m) BODY_BYTES 0 ≡ gate_at twin m
gate_is twin m =
    let there : header_place twin + BODY_BYTES ≡ gate_place twin = omega arith in
    get_or-take HEADER_BYTES (drop (header_place twin) m) BODY_BYTES 0 (omega arith)
    ∙ get_or-drop (header_place twin) m BODY_BYTES 0
    ∙ ap (λ j. get_or m j 0) there

body_is : (twin : ℕ) (m : List ℕ) → take BODY_BYTES (header_at twin m) ≡ body_at twin m
body_is twin m = take-take BODY_BYTES HEADER_BYTES (drop (header_place twin) m) (omega arith)

-- what a twin's header says, by its gate and its body
abbrev pub Said : Type 0
Said = Result (Option DbHeader) Damage

abbrev said_by : (twin gate : ℕ) (body : List ℕ) → Said
said_by twin gate body =
    if gate == OPEN_GATE
    then elim (body_read twin body) [ Ok header ↦ Ok (Some header) | Err damage ↦ Err damage ]
    else Ok None

abbrev pub said : ℕ → List ℕ → Said
said twin m = said_by twin (gate_at twin m) (body_at twin m)

twin_said : (twin : ℕ) (m : List ℕ) → twin_read twin (header_at twin m) ≡ said twin m
twin_said twin m = ap (λ b. said_by twin b (take BODY_BYTES (header_at twin m))) (gate_is twin m)
    ∙ ap (λ (l : List ℕ). said_by twin (gate_at twin m) l) (body_is twin m)

if_closed : (b : Bool) (r : Result DbHeader Damage) (said nothing : Said) → b ≡ false → nothing ≡ Ok None
    → said ≡ (if b then elim r [ Ok header ↦ Ok (Some header) | Err damage ↦ Err damage ] else Ok None) → said ≡ nothing
if_closed b r said nothing is none_is now = now ∙ rw is (sym none_is)

if_open : (b : Bool) (r : Result DbHeader Damage) (header : DbHeader) (said : Said) → b ≡ true → r ≡ Ok header
    → said ≡ (if b then elim r [ Ok header ↦ Ok (Some header) | Err damage ↦ Err damage ] else Ok None)
    → said ≡ Ok (Some header)
if_open b r header said is found now = now ∙ rw (is, found) refl

pub said_closed : (twin : ℕ) (m : List ℕ) → gate_at twin m ≢ OPEN_GATE → said twin m ≡ Ok None
said_closed twin m not = if_closed (gate_at twin m == OPEN_GATE) (body_read twin (body_at twin m)) (said twin m)
    (Ok None) (ne_eqb (gate_at twin m) OPEN_GATE not) refl refl

pub said_open : (twin : ℕ) (m : List ℕ) (header : DbHeader) → gate_at twin m ≡ OPEN_GATE
    → body_read twin (body_at twin m) ≡ Ok header → said twin m ≡ Ok (Some header)
said_open twin m header is body =
    if_open (gate_at twin m == OPEN_GATE) (body_read twin (body_at twin m)) header (said twin m)
    (eq-eqb (gate_at twin m) OPEN_GATE is) body refl

pub said_same : (twin : ℕ) (d c : List ℕ) → gate_at twin c ≡ gate_at twin d → body_at twin c ≡ body_at twin d
    → said twin c ≡ said twin d
said_same twin d c gate body = ap (λ b. said_by twin b (body_at twin c)) gate
    ∙ ap (λ (l : List ℕ). said_by twin (gate_at twin d) l) body

-- the current header, by what both say
abbrev chosen_by : Said → Said → Option (ℕ × DbHeader)
chosen_by first second =
    chosen_twin (elim first [
      | Err damage ↦ Err damage
      | Ok one ↦
          elim second [ Err damage ↦ Err damage | Ok two ↦ current_of one two ]
    ])

current_said : (m : List ℕ) → current_in m ≡ chosen_by (said 0 m) (said 1 m)
current_said m = ap (λ (s : Said). chosen_by s (twin_read 1 (header_at 1 m))) (twin_said 0 m)
    ∙ ap (λ (s : Said). chosen_by (said 0 m) s) (twin_said 1 m)

pub current_same : (d c : List ℕ) → said 0 c ≡ said 0 d → said 1 c ≡ said 1 d → current_in c ≡ current_in d
current_same d c zero_is one_is =
    current_said c
    ∙ ap (λ (s : Said). chosen_by s (said 1 c)) zero_is
    ∙ ap (λ (s : Said). chosen_by (said 0 d) s) one_is
    ∙ sym (current_said d)

first_higher : (a b : DbHeader) → b.iteration < a.iteration → chosen_twin (current_of (Some a) (Some b)) ≡ Some (0, a)
first_higher a b lt =
    rw (ne_eqb a.iteration b.iteration (λ e. omega (arith, e, lt)), lt-ltb b.iteration a.iteration lt) refl

second_higher : (a b : DbHeader) → a.iteration < b.iteration → chosen_twin (current_of (Some a) (Some b)) ≡ Some (1, b)
second_higher a b lt =
    rw (
      ne_eqb a.iteration b.iteration (λ e. omega (arith, e, lt)),
      le-ltb b.iteration a.iteration
          (omega (arith, lt)),
    ) refl

by_said : (m : List ℕ) (r s : Said) → said 0 m ≡ r → said 1 m ≡ s → current_in m ≡ chosen_by r s
by_said m r s first second = current_said m ∙ ap (λ (x : Said). chosen_by x (said 1 m)) first
    ∙ ap (λ (x : Said). chosen_by r x) second

pub current_of_said : (m : List ℕ) (header : DbHeader) → said 0 m ≡ Ok (Some header) → said 1 m ≡ Ok None
    → current_in m ≡ Some (0, header)
current_of_said m header first second = by_said m (Ok (Some header)) (Ok None) first second

gate_cases : (gate : ℕ) → (gate ≡ OPEN_GATE) ⊎ (gate ≢ OPEN_GATE)
gate_cases gate = elim (eqb_tells gate OPEN_GATE) [ inl same ↦ inl same.1 | inr other ↦ inr other.1 ]

-- an open twin with the higher iteration is the current one, whatever the other's gate is
pub overtaken : (twin : ℕ) (m : List ℕ) (mine theirs : DbHeader) → twin ≤ 1
    → body_read twin (body_at twin m) ≡ Ok mine → body_read (1 - twin) (body_at (1 - twin) m) ≡ Ok theirs
    → gate_at (1 - twin) m ≡ OPEN_GATE → mine.iteration < theirs.iteration → current_in m ≡ Some (1 - twin, theirs)
overtaken zero m mine theirs low own others gate lt = elim (gate_cases (gate_at 0 m)) [
  | inl is ↦ by_said m (Ok (Some mine)) (Ok (Some theirs)) (said_open 0 m mine is own)
      (said_open 1 m theirs gate others) ∙ second_higher mine theirs lt
  | inr not ↦ by_said m (Ok None) (Ok (Some theirs)) (said_closed 0 m not) (said_open 1 m theirs gate others)
]
overtaken (suc zero) m mine theirs low own others gate lt = elim (gate_cases (gate_at 1 m)) [
  | inl is ↦ by_said m (Ok (Some theirs)) (Ok (Some mine)) (said_open 0 m theirs gate others)
      (said_open 1 m mine is own) ∙ first_higher theirs mine lt
  | inr not ↦ by_said m (Ok (Some theirs)) (Ok None) (said_open 0 m theirs gate others) (said_closed 1 m not)
]
overtaken (suc (suc twin)) m mine theirs low own others gate lt = absurd (omega (arith, low))

pub overtakes : (twin : ℕ) (m : List ℕ) (mine theirs : DbHeader) → twin ≤ 1
    → body_read twin (body_at twin m) ≡ Ok mine → body_read (1 - twin) (body_at (1 - twin) m) ≡ Ok theirs
    → gate_at twin m ≡ OPEN_GATE → theirs.iteration < mine.iteration → current_in m ≡ Some (twin, mine)
overtakes zero m mine theirs low own others gate lt = overtaken 1 m theirs mine (omega arith) others own gate lt
overtakes (suc zero) m mine theirs low own others gate lt = overtaken 0 m theirs mine (omega arith) others own gate lt
overtakes (suc (suc twin)) m mine theirs low own others gate lt = absurd (omega (arith, low))

pub current_same_but : (twin : ℕ) (d c : List ℕ) → twin ≤ 1 → said twin c ≡ said twin d
    → said (1 - twin) c ≡ said (1 - twin) d → current_in c ≡ current_in d
current_same_but zero d c low mine others = current_same d c mine others
current_same_but (suc zero) d c low mine others = current_same d c others mine
current_same_but (suc (suc twin)) d c low mine others = absurd (omega (arith, low))

-- behind a write inside a twin's header, or to nothing
module _ (twin at n extent : ℕ) (d c : List ℕ) (low : twin ≤ 1) (headers : HEADERS_BYTES ≤ extent)
    (whole : HEADERS_BYTES ≤ length d)
    (begins : header_place twin ≤ at) (ends : at + n ≤ header_place twin + HEADER_BYTES)
    (torn : TornWrite at n extent d c) where
  apart : (t : ℕ) → t ≤ 1 → t ≢ twin → (header_place t + HEADER_BYTES ≤ at) ⊎ (at + n ≤ header_place t)
  apart t upto not = elim (cases_lt t twin) [
    | inl before ↦ inl (omega (arith, before, begins))
    | inr behind ↦ let lt : twin < t = omega (arith, behind, not) in inr (omega (arith, lt, ends))
  ]

  other_differs : (1 - twin ≡ twin) → ⊥
  other_differs is = absurd (omega (arith, is, low))

  pub other_body : body_at (1 - twin) c ≡ body_at (1 - twin) d
  other_body = torn_range at n extent (header_place (1 - twin)) BODY_BYTES d c torn
      (elim (apart (1 - twin) (omega arith) other_differs) [
        | inl front ↦ inl (omega (arith, front))
        | inr back ↦ inr (back, omega (arith, headers))
      ]) (omega (arith, whole))

  pub other_gate : gate_at (1 - twin) c ≡ gate_at (1 - twin) d
  other_gate = torn_byte at n extent (gate_place (1 - twin)) d c torn
      (elim (apart (1 - twin) (omega arith) other_differs) [
        | inl front ↦ inl (omega (arith, front))
        | inr back ↦ inr (omega (arith, back), omega (arith, headers))
      ]) (omega (arith, whole))

  pub other_said : said (1 - twin) c ≡ said (1 - twin) d
  other_said = said_same (1 - twin) d c other_gate other_body

  pub same_gate : at + n ≤ gate_place twin → gate_at twin c ≡ gate_at twin d
  same_gate before = torn_byte at n extent (gate_place twin) d c torn (inr (before, omega (arith, low, headers)))
      (omega (arith, low, whole))

  pub same_body : gate_place twin ≤ at → body_at twin c ≡ body_at twin d
  same_body behind = torn_range at n extent (header_place twin) BODY_BYTES d c torn (inl (omega (arith, behind)))
      (omega (arith, low, whole))
