-- What holds of every meaning.
use Rattle.std.proofs.Common.{◌≡◌, ◌+◌, Bool, true, false, List, [], ◌∷◌, length, ap, ◌∙◌, refl, subst, arith}
use Rattle.std.specs.Prelude.{not, if◌then◌else◌}
use Rattle.std.proofs.lemmas.Bool.{false≢true, and_parts}
use Rattle.std.proofs.lemmas.Bool.Decides.{Decides-int_eq}
use Rattle.std.proofs.lemmas.Slice.Eq.{bytes_eq-Decides}
use lib.Pointwise.{pointwise}
use Rattle.dk_values.specs.declared.value.Value.{Value}
use Rattle.dk_values.specs.declared.value.Value.TheVariants as value
use Rattle.dk_si.specs.declared.database.Table.{Table}
use Rattle.dk_si.specs.declared.meaning.Meaning.{Meaning}
use Rattle.dk_si.specs.declared.meaning.Meaning.TheVariants.{Rows, Change, Create, Refused, Nothing}
use Rattle.dk_si.specs.Meaning.{same_value}
use Rattle.dk_si.specs.declared.kind.Kind.{Kind}
use Rattle.dk_si.specs.Laws.{CountsItsRows, SameRowsAreEqual}
use Rattle.dk_si.specs.Machine.{kind_of}
use Rattle.dk_si.proofs.MeaningCaseLemmas.{HoldsOfForms, meaning_holds}

-- a change counts its rows
abbrev Counts : Kind → Meaning → Type 0
Counts of (Change count part) = count ≡ length part.updates + length part.deletes + length part.rows
Counts of (Rows rows) = Unit {0}
Counts of (Create name schema) = Unit {0}
Counts of (Refused refusal) = Unit {0}
Counts of Nothing = Unit {0}

forms_count : (tables : List Table) → HoldsOfForms tables Counts
forms_count tables = record {
  refused = λ of refusal own same. tt;
  nothing = λ of own. tt;
  rows = λ rows. tt;
  inserts = λ place table given rows is stored. omega arith;
  updates = λ place table sets filter rows is found. omega arith;
  deletes = λ place table filter ids is found. omega arith;
  creates = λ name columns may. tt;
}

pub counts_its_rows : CountsItsRows
counts_its_rows tables statement count part is =
    subst (Counts (kind_of statement)) is (meaning_holds tables Counts (forms_count tables) statement)

-- values that are told apart by nothing are equal
sound_bool : (a b : Bool) → (if a then b else not b) ≡ true → a ≡ b
sound_bool true true e = refl
sound_bool true false e = absurd (false≢true e)
sound_bool false false e = refl
sound_bool false true e = absurd (false≢true e)

sound_value : (a b : Value) → same_value a b ≡ true → a ≡ b
sound_value value.Null value.Null e = refl
sound_value (value.Bool a) (value.Bool b) e = ap value.Bool (sound_bool a b e)
sound_value (value.Int a) (value.Int b) e = ap value.Int ((Decides-int_eq a b).0 e)
sound_value (value.Big a) (value.Big b) e = ap value.Big ((Decides-int_eq a b).0 e)
sound_value (value.Text a) (value.Text b) e = ap value.Text ((bytes_eq-Decides a b).0 e)
sound_value (value.Huge a) (value.Huge b) e = ap value.Huge ((Decides-int_eq a b).0 e)
sound_value a b e = absurd (false≢true e)

sound_list : {T : Type 0} → (same : T → T → Bool) → ((a b : T) → same a b ≡ true → a ≡ b) → (xs ys : List T) → pointwise same xs ys ≡ true → xs ≡ ys
sound_list same sound [] [] e = refl
sound_list same sound [] (y ∷ ys) e = absurd (false≢true e)
sound_list same sound (x ∷ xs) [] e = absurd (false≢true e)
sound_list same sound (x ∷ xs) (y ∷ ys) e =
    let h = and_parts _ _ e in
    ap (λ item. item ∷ xs) (sound x y h.0) ∙ ap (λ items. y ∷ items) (sound_list same sound xs ys h.1)

pub same_rows_are_equal : SameRowsAreEqual
same_rows_are_equal rows others e = sound_list (pointwise same_value) (sound_list same_value sound_value) rows others e
