-- A column has at least one encoding, the plain one; the choice among all is the first of least size.
use Rattle.std.proofs.Common.{◌≡◌, ◌⊎◌, inl, inr, ℕ, zero, suc, ◌+◌, ◌*◌, ◌^◌, ◌<◌, ◌≤◌, Bool, true, false, leb, List, [], ◌∷◌, length, Option, Some, None, refl, ap, sym, subst, ◌∙◌, arith}
use Rattle.std.proofs.lemmas.Bool.{leb-true, cases_lt, le-leb}
use Rattle.dk_segment.specs.declared.choice.Choice.{Choice}
use Rattle.dk_segment.specs.declared.choice.Sizes.{Sizes}
use Rattle.dk_segment.specs.declared.encoding.Encoding.{Encoding}
use Rattle.dk_segment.specs.Choice.{place_of, IsBestFrom, IsBest, IsSize, AreSizes, choice_of, better, best_of}
use Rattle.std.specs.List.{AllByRecursion, flat_map}
use Rattle.std.proofs.lemmas.List.{length-append}
use Rattle.dk_values.specs.declared.value.ColType.{ColType}
use Rattle.dk_values.specs.declared.value.ColType.TheVariants as types
use Rattle.dk_values.specs.declared.value.Value.{Value}
use Rattle.dk_values.specs.declared.value.Value.TheVariants as cell
use Rattle.dk_bytes.specs.PlainValue.{IsPlain, plain_bytes}
use Rattle.dk_segment.specs.declared.encoding.Encoding.TheVariants.{Constant, RunLength, Packed, Dictionary, Plain}
use Rattle.dk_segment.specs.Bodies.{Holds, body_of}
use Rattle.dk_segment.specs.Segment.{IsColumn}
use Rattle.dk_bytes.specs.PlainValue.{present}
use Rattle.dk_bytes.proofs.PresenceLemmas.{present_few}
use Rattle.dk_segment.proofs.NullLemmas.{cells_plain}

value_small : (kind : ColType) (value : Value) → IsPlain kind value → length (plain_bytes value) ≤ 65537
value_small types.Text (cell.Text text) h = omega (arith, h.0)
value_small kind (cell.Bool b) h = omega arith
value_small kind (cell.Int n) h = omega arith
value_small kind (cell.Big n) h = omega arith
value_small kind value h = omega arith

values_small : (kind : ColType) (values : List Value) → AllByRecursion (IsPlain kind) values → length (flat_map plain_bytes values) ≤ 65537 * length values
values_small kind [] h = omega arith
values_small kind (v ∷ vs) h = omega (arith, value_small kind v h.0, values_small kind vs h.1, length-append (plain_bytes v) (flat_map plain_bytes vs))

-- the plain bytes of a column's present values can be counted
pub column_small : (kind : ColType) (values : List Value) → IsColumn kind values → length (flat_map plain_bytes (present values)) < 2 ^ 64
column_small kind values h = omega (arith, values_small kind (present values) (cells_plain kind values h.cells), present_few values, h.few)

pub column_plain : (kind : ColType) (values : List Value) → IsColumn kind values → Holds Plain kind (present values)
column_plain kind values h = record { plain = cells_plain kind values h.cells; room = column_small kind values h }

-- ---- the choice

-- the encoding at a place of the order
abbrev at_place : ℕ → Encoding
at_place zero = Constant
at_place (suc zero) = RunLength
at_place (suc (suc zero)) = Packed
at_place (suc (suc (suc zero))) = Dictionary
at_place (suc (suc (suc (suc n)))) = Plain

there : (encoding : Encoding) → at_place (place_of encoding) ≡ encoding
there Constant = refl
there RunLength = refl
there Packed = refl
there Dictionary = refl
there Plain = refl

same_place : (a b : Encoding) → place_of a ≡ place_of b → a ≡ b
same_place a b e = sym (there a) ∙ ap at_place e ∙ there b

-- an encoding from a place on is the one there, or a later one
here_or_later : (encoding other : Encoding) → place_of encoding ≤ place_of other → (encoding ≡ other) ⊎ (place_of encoding + 1 ≤ place_of other)
here_or_later encoding other h =
    elim (cases_lt (place_of encoding) (place_of other)) [
      | inl lt ↦ inr (omega (arith, lt))
      | inr le ↦ inl (same_place encoding other (omega (arith, h, le)))
    ]

at_most : (encoding : Encoding) → place_of encoding ≤ 4
at_most Constant = omega arith
at_most RunLength = omega arith
at_most Packed = omega arith
at_most Dictionary = omega arith
at_most Plain = omega arith

above : (n m : ℕ) → leb n m ≡ false → m < n
above n m e = elim (cases_lt m n) [ inl lt ↦ lt | inr le ↦ absurd (let yes : leb n m ≡ true = le-leb n m le in cc) ]

module _ (kind : ColType) (values : List Value) where
  -- a choice among the encodings from a place on
  record IsChoice (from : ℕ) (choice : Choice) : Type 0 where
    best : IsBestFrom from kind values choice.encoding
    size : choice.size ≡ length (body_of choice.encoding values)

  abbrev len : Encoding → ℕ
  len encoding = length (body_of encoding values)

  -- the one before is kept, where the one more holds other values or is longer
  kept : (choice : Choice) (encoding : Encoding) → IsChoice (place_of encoding + 1) choice → (Holds encoding kind values → len choice.encoding < len encoding) → IsChoice (place_of encoding) choice
  kept choice encoding h longer = record {
    best = record {
      holds = h.best.holds;
      least = λ other from holds. elim (here_or_later encoding other from) [
        | inl e ↦ omega (arith, subst (λ (o : Encoding). Holds o kind values → len choice.encoding < len o) e longer holds)
        | inr later ↦ h.best.least other later holds
      ];
      first = λ other from earlier holds. elim (here_or_later encoding other from) [
        | inl e ↦ subst (λ (o : Encoding). Holds o kind values → len choice.encoding < len o) e longer holds
        | inr later ↦ h.best.first other later earlier holds
      ];
    };
    size = h.size;
  }

  -- the one more is taken, where it is no longer
  taken : (choice : Choice) (encoding : Encoding) (size : ℕ) → IsChoice (place_of encoding + 1) choice → Holds encoding kind values → size ≡ len encoding → size ≤ choice.size → IsChoice (place_of encoding) (choice_of encoding size)
  taken choice encoding size h holds told le = record {
    best = record {
      holds = holds;
      least = λ other from there. elim (here_or_later encoding other from) [
        | inl e ↦ omega (arith, ap len e)
        | inr later ↦ omega (arith, h.best.least other later there, h.size, told, le)
      ];
      first = λ other from earlier there. absurd (omega (arith, from, earlier));
    };
    size = told;
  }

  one_more : (choice : Choice) (encoding : Encoding) (size : Option ℕ) → IsChoice (place_of encoding + 1) choice → IsSize encoding kind values size → IsChoice (place_of encoding) (better choice encoding size)
  one_more choice encoding None h s = kept choice encoding h (λ holds. let no : false ≡ true = s.held.1 holds in absurd cc)
  one_more choice encoding (Some n) h s = by_test (leb n choice.size) refl
    where
      by_test : (b : Bool) → leb n choice.size ≡ b → IsChoice (place_of encoding) (better choice encoding (Some n))
      by_test true e = rw e (taken choice encoding n h (s.held.0 refl) s.length (leb-true n choice.size e))
      by_test false e = rw e (kept choice encoding h (λ holds. omega (arith, s.length, h.size, above n choice.size e)))

  at_plain : (size : ℕ) → Holds Plain kind values → size ≡ len Plain → IsChoice 4 (choice_of Plain size)
  at_plain size holds told = record {
    best = record {
      holds = holds;
      least = λ other from there. elim (here_or_later Plain other from) [
        | inl e ↦ omega (arith, ap len e)
        | inr later ↦ absurd (omega (arith, later, at_most other))
      ];
      first = λ other from earlier there. absurd (omega (arith, from, earlier));
    };
    size = told;
  }

  pub best_is : (sizes : Sizes) → AreSizes kind values sizes → IsBest kind values (best_of sizes)
  best_is sizes h =
      let a = at_plain sizes.plain h.plain_holds h.plain in
      let b = one_more (choice_of Plain sizes.plain) Dictionary sizes.dictionary a h.dictionary in
      let c = one_more _ Packed sizes.packed b h.packed in
      let d = one_more _ RunLength sizes.run_length c h.run_length in
      (one_more _ Constant sizes.constant d h.constant).best
