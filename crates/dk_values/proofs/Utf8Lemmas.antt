-- What answers as `IsUtf8` does is the test of that name.
use Rattle.std.proofs.Common.{◌≡◌, ℕ, Bool, true, false, List, refl, sym, IsTrue, IsUtf8, ◌↔◌}
use Rattle.std.proofs.lemmas.Str.{IsUtf8-from_is_utf8, is_utf8-from_IsUtf8}
use Rattle.std.specs.Str.{is_utf8}

pub tests_utf8 : (b : Bool) (bytes : List ℕ) → (IsTrue b ↔ IsUtf8 bytes) → b ≡ is_utf8 bytes
tests_utf8 true bytes h = sym (is_utf8-from_IsUtf8 bytes (h.0 refl))
tests_utf8 false bytes h = where_false (is_utf8 bytes) (λ e. h.1 (IsUtf8-from_is_utf8 bytes e))
  where
    where_false : (t : Bool) → (t ≡ true → false ≡ true) → false ≡ t
    where_false true k = k refl
    where_false false k = refl
