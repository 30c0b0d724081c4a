-- Blocks that are taken one after the other, and given back.
use Rattle.std.specs.Prelude.{◌≡◌, ◌≢◌, ℕ, ◌+◌, ◌≤◌, ◌==◌, max, Bool, true, false, List, [], ◌∷◌, ◌++◌, refl, ◌||◌, if◌then◌else◌}
use Rattle.std.proofs.Common.{inl, inr, sym, ◌∙◌, ap, subst, arith}
use Rattle.std.proofs.lemmas.Bool.{cases_lt, eq-eqb, ne_eqb}
use Rattle.std.proofs.lemmas.Bool.Decides.{eqb_tells}
use Rattle.dk_block_man.specs.Used.{is_among, AreBelow, IsLeastUnused, Gains, Loses}
use Rattle.dk_strings.specs.Chains.{AreUnused}
use Rattle.dk_strings.specs.Effects.{Takes, IsOther, IsOneOf}

pub takes_more : (blocks : List ℕ) (block : ℕ) (a b c : List ℕ) → Takes blocks a b → is_among b block ≡ false
    → Gains block b c → Takes (blocks ++ block ∷ []) a c
takes_more [] block a b c takes unused gains =
    (c, subst (λ (l : List ℕ). is_among l block ≡ false) takes unused, subst (λ (l : List ℕ). Gains block l c) takes gains, refl)
takes_more (x ∷ blocks) block a b c takes unused gains =
    (takes.0, takes.1, takes.2, takes_more blocks block takes.0 b c takes.3 unused gains)

-- the last one of them was taken last
pub record TakesLast (blocks : List ℕ) (block : ℕ) (old new : List ℕ) : Type 0 where
  pub between : List ℕ
  pub takes : Takes blocks old between
  pub unused : is_among between block ≡ false
  pub gains : Gains block between new

pub takes_last : (blocks : List ℕ) (block : ℕ) (a c : List ℕ) → Takes (blocks ++ block ∷ []) a c
    → TakesLast blocks block a c
takes_last [] block a c takes = record {
  between = a;
  takes = refl;
  unused = takes.1;
  gains = subst (λ (l : List ℕ). Gains block a l) (sym takes.3) takes.2;
}
takes_last (x ∷ blocks) block a c takes =
    let last = takes_last blocks block takes.0 c takes.3 in
    record {
      between = last.between;
      takes = (takes.0, takes.1, takes.2, last.takes);
      unused = last.unused;
      gains = last.gains;
    }

pub gained : (block : ℕ) (a b : List ℕ) → Gains block a b → is_among b block ≡ true
gained block a b gains =
    gains.others block ∙ ap (λ (t : Bool). if t then true else is_among a block) (eq-eqb block block refl)

pub gains_keeps : (block k : ℕ) (a b : List ℕ) → Gains block a b → is_among a k ≡ true → is_among b k ≡ true
gains_keeps block k a b gains on = gains.others k ∙ by (k == block) (is_among a k) on
  where
    by : (t u : Bool) → u ≡ true → (if t then true else u) ≡ true
    by true u on = refl
    by false u on = on

-- the last one that was taken is used, and may be given back
pub last_used : (left rest : List ℕ) (block : ℕ) (before used : List ℕ) → left ≡ rest ++ block ∷ []
    → Takes left before used → is_among used block ≡ true
last_used left rest block before used is takes =
    let last = takes_last rest block before used (subst (λ (l : List ℕ). Takes l before used) is takes) in
    gained block last.between used last.gains

pub give_last : (left rest : List ℕ) (block : ℕ) (before used new : List ℕ) → left ≡ rest ++ block ∷ []
    → Loses block used new → Takes left before used → Takes rest before new
give_last left rest block before used new is loses takes =
    let last = takes_last rest block before used (subst (λ (l : List ℕ). Takes l before used) is takes) in
    subst (λ (l : List ℕ). Takes rest before l) (sym (loses.is ∙ last.gains.restores)) last.takes

-- what was used before is used then
pub takes_keeps : (blocks : List ℕ) (k : ℕ) (a b : List ℕ) → Takes blocks a b → is_among a k ≡ true
    → is_among b k ≡ true
takes_keeps [] k a b takes on = ap (λ (l : List ℕ). is_among l k) takes ∙ on
takes_keeps (x ∷ blocks) k a b takes on =
    takes_keeps blocks k takes.0 b takes.3 (gains_keeps x k a takes.0 takes.2 on)

head_or : (x k : ℕ) (rest : List ℕ) → is_among (x ∷ rest) k ≡ true → (x ≢ k → is_among rest k ≡ true)
head_or x k rest on differs = sym (ap (λ (t : Bool). t || is_among rest k) (ne_eqb x k differs)) ∙ on

-- and so are they
pub takes_all : (blocks : List ℕ) (k : ℕ) (a b : List ℕ) → Takes blocks a b → is_among blocks k ≡ true
    → is_among b k ≡ true
takes_all [] k a b takes on = absurd cc
takes_all (x ∷ blocks) k a b takes on = elim (eqb_tells x k) [
  | inl same ↦ takes_keeps blocks k takes.0 b takes.3
      (subst (λ (j : ℕ). is_among takes.0 j ≡ true) same.1 (gained x a takes.0 takes.2))
  | inr differs ↦ takes_all blocks k takes.0 b takes.3 (head_or x k blocks on differs.1)
]

-- none of them was used before
pub takes_unused : (blocks : List ℕ) (a b : List ℕ) → Takes blocks a b → AreUnused a blocks
takes_unused [] a b takes = tt
takes_unused (x ∷ blocks) a b takes = (
  takes.1,
  subst (λ (l : List ℕ). AreUnused l blocks) takes.2.is (takes_unused blocks takes.0 b takes.3),
)

-- a block that was used isn't one of them
pub takes_other : (blocks : List ℕ) (k : ℕ) (a b : List ℕ) → Takes blocks a b → IsOneOf a k → IsOther blocks k
takes_other [] k a b takes on = refl
takes_other (x ∷ blocks) k a b takes on = elim (eqb_tells x k) [
  | inl same ↦ let off : is_among a k ≡ false = subst (λ (j : ℕ). is_among a j ≡ false) same.1 takes.1 in absurd cc
  | inr differs ↦
      ap (λ (t : Bool). t || is_among blocks k) differs.0
      ∙ takes_other blocks k takes.0 b takes.3 (gains_keeps x k a takes.0 takes.2 on)
]

off_rest : (t u : Bool) → (t || u) ≡ false → (t ≡ false) × (u ≡ false)
off_rest true u e = absurd cc
off_rest false u e = (refl, e)

-- a block that isn't one of these and one more is neither
pub other_less : (blocks : List ℕ) (block k : ℕ) → IsOther (blocks ++ block ∷ []) k → IsOther blocks k × (k ≢ block)
other_less [] block k off = (refl, λ same. on_off same)
  where
    on_off : k ≡ block → ⊥
    on_off same = let on : (block == k) ≡ true = eq-eqb block k (sym same) in
        let not : ((block == k) || false) ≡ false = off in
        absurd (both (block == k) on not)
      where
        both : (t : Bool) → t ≡ true → (t || false) ≡ false → ⊥
        both true e f = cc
        both false e f = cc
other_less (x ∷ blocks) block k off =
    let rest = other_less blocks block k (off_rest (x == k) (is_among (blocks ++ block ∷ []) k) off).1 in
    (rw (off_rest (x == k) (is_among (blocks ++ block ∷ []) k) off).0 rest.0, rest.1)

-- an unused block lies behind what is used at most by one
pub least_within : (blocks block : ℕ) (used : List ℕ) → AreBelow blocks used → IsLeastUnused block used → block ≤ blocks
least_within blocks block used below least = elim (cases_lt blocks block) [
  | inl past ↦ absurd (omega (arith, below blocks (least.lesser blocks past)))
  | inr le ↦ le
]

-- once it is taken, all that are used lie before it or where they were
pub gains_within : (blocks block : ℕ) (a b : List ℕ) → AreBelow blocks a → Gains block a b
    → AreBelow (max blocks (block + 1)) b
gains_within blocks block a b below gains k on = elim (eqb_tells k block) [
  | inl same ↦ omega (arith, same.1)
  | inr differs ↦
      let before : is_among a k ≡ true =
      sym (ap (λ (t : Bool). if t then true else is_among a k) differs.0) ∙ sym (gains.others k) ∙ on in
      omega (arith, below k before)
]

pub below_more : (n m : ℕ) (used : List ℕ) → n ≤ m → AreBelow n used → AreBelow m used
below_more n m used le below k on = omega (arith, le, below k on)

-- where none is used
pub none_used : (n : ℕ) (used : List ℕ) → used ≡ [] → AreBelow n used
none_used n used none k on =
    let off : is_among used k ≡ false = ap (λ (l : List ℕ). is_among l k) none in absurd cc
