-- The end of the input.
use Rattle.std.proofs.Common.{◌≡◌, ℕ, Bool, true, false, List, [], ◌∷◌, ◌++◌, map, Option, Some, None, cond, refl}
use Rattle.std.specs.Prelude.{◌==◌}
use Rattle.std.specs.Str.Lines.{strip_carriage_return}
use Rattle.dk_io.specs.Lines.{line_content, contents_after, lines_after, last_line}
use Rattle.dk_io.specs.ReaderState.{ReaderState}
use Rattle.dk_io.specs.LinesLeft.{lines_left, Pops}
use Rattle.dk_io.specs.NextLine.{IsReadOut}
use Rattle.dk_script.specs.LineSteps.{IfBothKnown}

last_none : (begun : List ℕ) → map line_content (last_line begun) ≡ [] → begun ≡ []
last_none [] h = refl
last_none (a ∷ begun) h = absurd (cc h)

not_nil : (xs : List ℕ) (x : ℕ) → xs ++ x ∷ [] ≡ [] → ⊥
not_nil [] x h = cc
not_nil (y ∷ xs) x h = cc

none_by : (t : Bool) (begun : List ℕ) (b : ℕ) (text : List ℕ)
    → (contents_after (begun ++ b ∷ []) text ≡ [] → (begun ++ b ∷ [] ≡ []) × (text ≡ []))
    → map line_content (cond t (strip_carriage_return begun ∷ lines_after [] text)
    (lines_after (begun ++ b ∷ []) text)) ≡ [] → (begun ≡ []) × (b ∷ text ≡ [])
none_by true begun b text more h = absurd (cc h)
none_by false begun b text more h = absurd (not_nil begun b (more h).0)

-- no line is left only of nothing
pub no_lines : (text begun : List ℕ) → contents_after begun text ≡ [] → (begun ≡ []) × (text ≡ [])
no_lines [] begun h = (last_none begun h, refl)
no_lines (b ∷ text) begun h = none_by (b == 10) begun b text (no_lines text (begun ++ b ∷ [])) h

rest_nil : (xs ys : List ℕ) → xs ++ ys ≡ [] → ys ≡ []
rest_nil [] ys h = h
rest_nil (x ∷ xs) ys h = absurd (cc h)

-- the reader came to the end of the input
pub end_popped : (old new : ReaderState) (a b : Option (List ℕ)) → Pops (lines_left old a) None (lines_left new b)
    → IfBothKnown (lines_left old a) b (λ lines rest. (lines ≡ []) × (rest ≡ []))
end_popped old new None b pops = tt
end_popped old new (Some text) None pops = absurd pops
end_popped old new (Some text) (Some rest) pops =
    (pops.0, rest_nil new.held rest (no_lines (new.held ++ rest) new.begun pops.1).1)
