-- Each statement means what its kind may mean, and no refusal differs from itself.
use Rattle.std.proofs.Common.{◌≡◌, ℕ, Bool, true, false, List, Some, None, refl, subst}
use Rattle.std.specs.Prelude.{if◌then◌else◌}
use Rattle.std.proofs.lemmas.Bool.{false≢true, and_from, eq-eqb}
use Rattle.dk_types.specs.declared.reply.Refusal.{Refusal}
use Rattle.dk_types.specs.declared.reply.Refusal.TheVariants.{TooLarge, Unsupported}
use Rattle.dk_syntax.specs.declared.statement.Statement.{Statement}
use Rattle.dk_si.specs.declared.database.Table.{Table}
use Rattle.dk_si.specs.declared.kind.Kind.{Kind}
use Rattle.dk_si.specs.declared.kind.Kind.TheVariants as form
use Rattle.dk_si.specs.declared.meaning.Meaning.{Meaning}
use Rattle.dk_si.specs.declared.meaning.Meaning.TheVariants.{Rows, Change, Create, Refused, Nothing}
use Rattle.dk_laws.specs.KindLaws.{suits, MeaningsSuitKinds, RefusalsMayBeReplied, SizesMayBeReplied}
use Rattle.dk_si.specs.Machine.{has_own, kind_of}
use Rattle.dk_si.specs.Meaning.{meaning, is_same_refusal}
use Rattle.dk_si.specs.Nets.{new_rows}
use Rattle.dk_si.specs.Size.{has_full_group, is_too_large}
use Rattle.dk_si.specs.Weight.{cap, weight}
use Rattle.dk_si.proofs.MeaningCaseLemmas.{HoldsOfForms, meaning_holds}

-- a meaning that is a refusal is the same as itself
abbrev pub MayBeReplied : Meaning → Type 0
MayBeReplied (Refused refusal) = is_same_refusal refusal refusal ≡ true
MayBeReplied (Rows rows) = Unit {0}
MayBeReplied (Change count part) = Unit {0}
MayBeReplied (Create name schema) = Unit {0}
MayBeReplied Nothing = Unit {0}

-- a statement of that kind may mean it, and it may be replied
abbrev pub Suits : Kind → Meaning → Type 0
Suits kind meant = (suits kind meant ≡ true) × MayBeReplied meant

refusal_suits : (of : Kind) (refusal : Refusal) → has_own of ≡ true → suits of (Refused refusal) ≡ true
refusal_suits form.Create refusal own = refl
refusal_suits form.Select refusal own = refl
refusal_suits form.Change refusal own = refl
refusal_suits other refusal own = absurd (false≢true own)

nothing_suits : (of : Kind) → has_own of ≡ false → suits of Nothing ≡ true
nothing_suits form.Create own = cc
nothing_suits form.Select own = cc
nothing_suits form.Change own = cc
nothing_suits other own = refl

forms_suit : (tables : List Table) → HoldsOfForms tables Suits
forms_suit tables = record {
  refused = λ of refusal own same. (refusal_suits of refusal own, same);
  nothing = λ of own. (nothing_suits of own, tt);
  rows = λ rows. (refl, tt);
  inserts = λ place table given rows is stored. (refl, tt);
  updates = λ place table sets filter rows is found. (refl, tt);
  deletes = λ place table filter ids is found. (refl, tt);
  creates = λ name columns may. (refl, tt);
}

pub meaning_suits : (tables : List Table) (statement : Statement) → Suits (kind_of statement) (meaning tables statement)
meaning_suits tables statement = meaning_holds tables Suits (forms_suit tables) statement

pub meanings_suit_kinds : MeaningsSuitKinds
meanings_suit_kinds tables statement = (meaning_suits tables statement).0

pub refusals_may_be_replied : RefusalsMayBeReplied
refusals_may_be_replied tables statement refusal is = subst MayBeReplied is (meaning_suits tables statement).1

sized : (full large : Bool) (bytes rows : ℕ) (refusal : Refusal)
    → (if full then Some Unsupported else (if large then Some (TooLarge bytes rows) else None)) ≡ Some refusal
    → is_same_refusal refusal refusal ≡ true
sized true large bytes rows refusal is =
    let same : Unsupported ≡ refusal = cc in subst (λ r. is_same_refusal r r ≡ true) same refl
sized false true bytes rows refusal is =
    let same : TooLarge bytes rows ≡ refusal = cc in
    subst (λ r. is_same_refusal r r ≡ true) same (and_from _ _ (eq-eqb bytes bytes refl) (eq-eqb rows rows refl))
sized false false bytes rows refusal is = cc

pub sizes_may_be_replied : SizesMayBeReplied
sizes_may_be_replied net refusal is =
    sized (has_full_group net) (is_too_large net) (weight net) (cap (new_rows net)) refusal is
