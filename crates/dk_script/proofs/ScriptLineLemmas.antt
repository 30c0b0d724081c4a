-- The lines of a script, read as its grammar has them.
use Rattle.std.proofs.Common.{◌≡◌, ℕ, ◌<◌, Bool, true, false, ◌&&◌, ◌==◌, not, List, [], ◌∷◌, ◌++◌, length, map, cond, Option, inl, inr, refl, sym, ap, subst, ◌∙◌, append_assoc, arith}
use Rattle.std.specs.Str.Lines.{strip_carriage_return}
use Rattle.std.proofs.lemmas.Bool.Decides.{Decides-eqb}
use Rattle.std.proofs.lemmas.List.{append-nil}
use Rattle.std.proofs.lemmas.List.Folds.{list_all-append}
use Rattle.dk_io.specs.Lines.{last_line, lines_after, lines_of, line_content, line_contents}
use Rattle.dk_script.specs.GrammarLines.{has_no_feed, AreRawLines, AreLines}

-- lines of a text, and what is left of them without carriage returns
record Splits (text : List ℕ) (stripped : List (List ℕ)) : Type 0 where
  pub raw : List (List ℕ)
  pub split : AreRawLines text raw
  pub same : stripped ≡ map strip_carriage_return raw

at_end : (begun : List ℕ) → has_no_feed begun ≡ true → Splits (begun ++ []) (last_line begun)
at_end [] h = record { raw = []; split = refl; same = refl }
at_end (a ∷ begun) h =
    record { raw = (a ∷ begun) ∷ []; split = (h, inr (append-nil (a ∷ begun), omega arith, refl)); same = refl }

at_feed : (begun rest : List ℕ) (b : ℕ) (stripped : List (List ℕ)) → has_no_feed begun ≡ true → b ≡ 10
    → Splits rest stripped → Splits (begun ++ b ∷ rest) (strip_carriage_return begun ∷ stripped)
at_feed begun rest b stripped h e s = record {
  raw = begun ∷ s.raw;
  split = (h, inl (rest, ap (λ x. begun ++ x ∷ rest) e, s.split));
  same = ap (λ xs. strip_carriage_return begun ∷ xs) s.same;
}

one_on : (begun rest : List ℕ) (b : ℕ) (stripped : List (List ℕ)) → Splits ((begun ++ b ∷ []) ++ rest) stripped
    → Splits (begun ++ b ∷ rest) stripped
one_on begun rest b stripped s = subst (λ (text : List ℕ). Splits text stripped) (append_assoc begun (b ∷ []) rest) s

no_feed_on : (begun : List ℕ) (b : ℕ) → has_no_feed begun ≡ true → (b == 10) ≡ false
    → has_no_feed (begun ++ b ∷ []) ≡ true
no_feed_on begun b h e = list_all-append (λ x. not (x == 10)) begun (b ∷ [])
    ∙ (ap (λ t. t && has_no_feed (b ∷ [])) h ∙ ap (λ t. not t && true) e)

by_byte : (begun text : List ℕ) (b : ℕ) (t : Bool) → (b == 10) ≡ t → has_no_feed begun ≡ true
    → Splits text (lines_after [] text)
    → (has_no_feed (begun ++ b ∷ []) ≡ true → Splits ((begun ++ b ∷ []) ++ text) (lines_after (begun ++ b ∷ []) text))
    → Splits (begun ++ b ∷ text)
    (cond t (strip_carriage_return begun ∷ lines_after [] text) (lines_after (begun ++ b ∷ []) text))
by_byte begun text b true e h fresh on = at_feed begun text b (lines_after [] text) h ((Decides-eqb b 10).0 e) fresh
by_byte begun text b false e h fresh on =
    one_on begun text b (lines_after (begun ++ b ∷ []) text) (on (no_feed_on begun b h e))

found_after : (text begun : List ℕ) → has_no_feed begun ≡ true → Splits (begun ++ text) (lines_after begun text)
found_after [] begun h = at_end begun h
found_after (b ∷ text) begun h =
    by_byte begun text b (b == 10) refl h (found_after text [] refl) (found_after text (begun ++ b ∷ []))

contents_map : (raw : List (List ℕ))
    → map line_content (map strip_carriage_return raw) ≡ map (λ line. line_content (strip_carriage_return line)) raw
contents_map [] = refl
contents_map (line ∷ raw) = ap (λ xs. line_content (strip_carriage_return line) ∷ xs) (contents_map raw)

lines_from : (script : List ℕ) → Splits script (lines_of script) → AreLines script (line_contents script)
lines_from script s =
    record { raw = s.raw; split = s.split; contents = ap (map line_content) s.same ∙ contents_map s.raw }

-- the lines that are read are those of the script
pub lines_found : (script : List ℕ) → AreLines script (line_contents script)
lines_found script = lines_from script (found_after script [] refl)

passes_byte : (b : ℕ) (line : List ℕ) → has_no_feed (b ∷ line) ≡ true → ((b == 10) ≡ false) × (has_no_feed line ≡ true)
passes_byte b line h = by_test (b == 10) refl h
  where
    by_test : (t : Bool) → (b == 10) ≡ t → (not t && has_no_feed line) ≡ true → ((b == 10) ≡ false)
        × (has_no_feed line ≡ true)
    by_test true e k = absurd (cc k)
    by_test false e k = (e, k)

-- bytes without a line feed go to the line that has begun
pub line_on : (line begun rest : List ℕ) → has_no_feed line ≡ true
    → lines_after begun (line ++ rest) ≡ lines_after (begun ++ line) rest
line_on [] begun rest h = ap (λ xs. lines_after xs rest) (sym (append-nil begun))
line_on (b ∷ line) begun rest h =
    let parts = passes_byte b line h in
    ap (λ t. cond t (strip_carriage_return begun ∷ lines_after [] (line ++ rest))
    (lines_after (begun ++ b ∷ []) (line ++ rest))) parts.0
    ∙ (line_on line (begun ++ b ∷ []) rest parts.1 ∙ ap (λ xs. lines_after xs rest) (append_assoc begun (b ∷ []) line))

last_is : (line : List ℕ) → 0 < length line → last_line line ≡ strip_carriage_return line ∷ []
last_is [] h = absurd (omega arith)
last_is (a ∷ line) h = refl

only_after : (raw : List (List ℕ)) (script : List ℕ) → AreRawLines script raw
    → lines_of script ≡ map strip_carriage_return raw
only_after [] script e = ap lines_of e
only_after (line ∷ raw) script (h, inl (rest, e, more)) =
    ap lines_of e ∙ (line_on line [] (10 ∷ rest) h
    ∙ ap (λ xs. strip_carriage_return line ∷ xs) (only_after raw rest more))
only_after (line ∷ raw) script (h, inr (e, some, none)) =
    ap lines_of (e ∙ sym (append-nil line))
    ∙ (line_on line [] [] h
    ∙ (last_is line some ∙ ap (λ xs. strip_carriage_return line ∷ map strip_carriage_return xs) (sym none)))

-- the lines of the script are those that are read
pub lines_again : (script : List ℕ) (lines : List (Option (List ℕ))) → AreLines script lines
    → line_contents script ≡ lines
lines_again script lines are = ap (map line_content) (only_after are.raw script are.split)
    ∙ (contents_map are.raw ∙ sym are.contents)
