-- What a chunk holds.
use Rattle.std.specs.Prelude.{List, refl}
use Rattle.std.specs.Coded.{Coded, code_by, coded×, coded_list}
use denote.RawPtr.{Ptr, coded_ptr}

-- where its first place lies, and its items, oldest first
pub record Held (X : Type 0) : Type 0 where
  pub place : Ptr
  pub items : List X

abbrev pub held_code : {X : Type 0} → Coded X → Coded (Held X)
held_code {X} c = code_by (Ptr
    × List X) (coded× coded_ptr (coded_list c)) (λ h. (h.place, h.items)) (λ p. record { place = p.0; items = p.1 })
    (λ _. refl)
