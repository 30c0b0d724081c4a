-- The test whether two values are one.
use Rattle.std.proofs.Common.{◌≡◌, Bool, true, false, refl, ap, IsTrue, ◌↔◌}
use Rattle.std.specs.Str.{bytes_eq}
use Rattle.std.specs.Ordering.{int_eq}
use Rattle.std.specs.Bool.{Decides}
use Rattle.std.proofs.lemmas.Bool.Decides.{Decides-int_eq, Decides-like, same_from_decides}
use Rattle.std.proofs.lemmas.Slice.Eq.{bytes_eq-Decides}
use Rattle.dk_values.specs.declared.value.Value.{Value}
use Rattle.dk_values.specs.declared.value.Value.TheVariants as values
use Rattle.dk_bytes.specs.PlainValue.{same}

pub Decides-same : (a b : Value) → Decides (same a b) (a ≡ b)
Decides-same values.Null values.Null = (λ _. refl, λ _. refl)
Decides-same (values.Bool true) (values.Bool true) = (λ _. refl, λ _. refl)
Decides-same (values.Bool false) (values.Bool false) = (λ _. refl, λ _. refl)
Decides-same (values.Int m) (values.Int n) = Decides-like (int_eq m n) (λ e. ap values.Int e) (λ e. cc) (Decides-int_eq m n)
Decides-same (values.Big m) (values.Big n) = Decides-like (int_eq m n) (λ e. ap values.Big e) (λ e. cc) (Decides-int_eq m n)
Decides-same (values.Text s) (values.Text t) = Decides-like (bytes_eq s t) (λ e. ap values.Text e) (λ e. cc) (bytes_eq-Decides s t)
Decides-same (values.Huge m) (values.Huge n) = Decides-like (int_eq m n) (λ e. ap values.Huge e) (λ e. cc) (Decides-int_eq m n)
Decides-same a b = (λ e. absurd cc, λ e. absurd cc)

pub same_true : (a b : Value) → same a b ≡ true → a ≡ b
same_true a b e = (Decides-same a b).0 e

pub same_self : (a : Value) → same a a ≡ true
same_self a = (Decides-same a a).1 refl

pub tests_same : (b : Bool) (x y : Value) → (IsTrue b ↔ (x ≡ y)) → b ≡ same x y
tests_same b x y h = same_from_decides b (same x y) h (Decides-same x y)
