-- Names have a name's length, and literals are literals of the language.
use Rattle.std.proofs.Common.{◌≡◌, ℕ, ◌^◌, ◌-◌, Bool, true, false, not, ◌&&◌, List, map, nat_lt, nat_le, Option, Some, None, Ok, cond, IfOk, IfSome, refl, ap, ◌∙◌}
use Rattle.std.specs.Char.{to_ascii_lowercase}
use Rattle.std.specs.Str.{is_utf8}
use Rattle.std.proofs.lemmas.List.{length-map}
use Rattle.std.proofs.lemmas.Bool.{and_parts}
use Rattle.dk_values.specs.declared.value.Value.{Value}
use Rattle.dk_values.specs.declared.value.Value.TheVariants as value
use Rattle.dk_values.specs.Names.{is_name}
use Rattle.dk_values.specs.declared.column.TheConstants.{MAX_NAME}
use Rattle.dk_syntax.specs.declared.query.Spot.{Spot}
use Rattle.dk_syntax.specs.LawfulStatements.{is_literal_value}
use Rattle.dk_sql.specs.Tokens.{begins, is_digit, begins_word, unblank, word_at, is_reserved, name_at, fault_at, found_at, mark_after, number_at, text_at, text_in}
use Rattle.dk_sql.specs.Lists.{spot_at}
use Rattle.dk_sql.specs.Expressions.{constant_of, constant_at, positive_at, negative_at, quoted_at, unsigned_at, value_at}
use Rattle.std.specs.Prelude.{codes}
use Rattle.dk_sql.specs.Tokens.{is_same_word}
use Rattle.dk_sql.proofs.FoundLemmas.{after, after_any, of_option, Reads}
use Rattle.dk_sql.proofs.QuotedLemmas.{text_utf8}

-- a name folded to lower case is as long
folded_name : (word : List ℕ) → is_name word ≡ true → is_name (map to_ascii_lowercase word) ≡ true
folded_name word h = ap (λ n. nat_lt 0 n && nat_le n MAX_NAME) (length-map word to_ascii_lowercase) ∙ h

named : (text : List ℕ) (word : List ℕ × List ℕ) (t : Bool) → (is_name word.0 && not (is_reserved word.0)) ≡ t
    → IfOk {T = List ℕ × List ℕ} (cond t (Ok (map to_ascii_lowercase word.0, word.1)) (fault_at text)) (λ x. is_name x.0 ≡ true)
named text word true e = folded_name word.0 (and_parts _ _ e).0
named text word false e = tt

pub name_lawful : Reads is_name name_at
name_lawful text =
    after_any {A = List ℕ × List ℕ} {B = List ℕ × List ℕ} (λ x. is_name x.0 ≡ true) _
    (λ word. named text word (is_name word.0 && not (is_reserved word.0)) refl) (word_at text)

abbrev pub has_name : Spot → Bool
has_name spot = is_name spot.name

pub spot_lawful : (whole : ℕ) → Reads has_name (spot_at whole)
spot_lawful whole text =
    after {A = List ℕ × List ℕ} {B = Spot × List ℕ} (λ x. is_name x.0 ≡ true) (λ x. is_name x.0.name ≡ true) _
    (λ name so. so) (name_at text) (name_lawful text)

abbrev pub IsLiteralFound : Option Value → Type 0
IsLiteralFound found = IfSome found (λ v. is_literal_value v ≡ true)

pub constant_lawful : (word : List ℕ) → IsLiteralFound (constant_of word)
constant_lawful word =
    by_tests (is_same_word word (codes "true")) (is_same_word word (codes "false")) (is_same_word word (codes "null"))
  where
    by_tests : (t f n : Bool)
        → IsLiteralFound (cond t (Some (value.Bool true)) (cond f (Some (value.Bool false)) (cond n (Some value.Null) None)))
    by_tests true f n = refl
    by_tests false true n = refl
    by_tests false false true = refl
    by_tests false false false = tt

constant_at_lawful : Reads is_literal_value constant_at
constant_at_lawful text =
    after_any {A = List ℕ × List ℕ} {B = Value × List ℕ} (λ x. is_literal_value x.0 ≡ true) _
    (λ word. after {A = Value} {B = Value × List ℕ} (λ v. is_literal_value v ≡ true) (λ x. is_literal_value x.0 ≡ true) _
    (λ v so. so) (found_at text (constant_of word.0))
    (of_option (λ v. is_literal_value v ≡ true) text (constant_of word.0) (constant_lawful word.0))) (word_at text)

positive_lawful : Reads is_literal_value positive_at
positive_lawful text =
    after_any {A = ℕ × List ℕ} {B = Value × List ℕ} (λ x. is_literal_value x.0 ≡ true) _ (λ n. refl)
    (number_at (2 ^ 63 - 1) text)

pub negative_lawful : Reads is_literal_value negative_at
negative_lawful text =
    after_any {A = ℕ × List ℕ} {B = Value × List ℕ} (λ x. is_literal_value x.0 ≡ true) _ (λ n. refl)
    (number_at (2 ^ 63) text)

quoted_lawful : Reads is_literal_value quoted_at
quoted_lawful text =
    after {A = List ℕ × List ℕ} {B = Value × List ℕ} (λ x. is_utf8 x.0 ≡ true) (λ x. is_literal_value x.0 ≡ true) _
    (λ quoted so. so) (text_at text)
    (of_option {A = List ℕ × List ℕ} (λ x. is_utf8 x.0 ≡ true) text (text_in (unblank text)) (text_utf8 (unblank text)))

pub unsigned_lawful : Reads is_literal_value unsigned_at
unsigned_lawful text = by_tests (begins is_digit (unblank text)) (begins begins_word (unblank text))
  where
    by_tests : (d w : Bool) → IfOk {T = Value × List ℕ} (cond d (positive_at text) (cond w (constant_at text) (quoted_at text)))
        (λ x. is_literal_value x.0 ≡ true)
    by_tests true w = positive_lawful text
    by_tests false true = constant_at_lawful text
    by_tests false false = quoted_lawful text

pub value_lawful : Reads is_literal_value value_at
value_lawful text = by_sign (mark_after 45 text)
  where
    by_sign : (sign : Option (List ℕ)) → IfOk {T = Value × List ℕ}
        (elim sign [ None ↦ unsigned_at text | Some rest ↦ negative_at rest ]) (λ x. is_literal_value x.0 ≡ true)
    by_sign None = unsigned_lawful text
    by_sign (Some rest) = negative_lawful rest
