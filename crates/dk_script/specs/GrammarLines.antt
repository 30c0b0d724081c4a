-- The grammar of a script: its lines, and what each one asks.
use Rattle.std.specs.Prelude.{◌≡◌, ◌<◌, ◌≤◌, ◌⊎◌, ℕ, Bool, true, not, ◌==◌, List, [], ◌∷◌, ◌++◌, length, map, Option, IsUtf8, codes, decimal}
use Rattle.std.specs.List.{list_all}
use Rattle.std.specs.Str.Lines.{strip_carriage_return}
use Rattle.dk_io.specs.Lines.{line_content}
use Rattle.dk_script.specs.declared.line.TheConstants.{MAX_SESSION}

-- no line feed stands among the bytes
abbrev pub has_no_feed : List ℕ → Bool
has_no_feed bytes = list_all (λ b. not (b == 10)) bytes

-- the script is these lines: each ends with a line feed, but the last one may end with the script, and is not empty
-- then
abbrev pub AreRawLines : List ℕ → List (List ℕ) → Type 0
AreRawLines script [] = script ≡ []
AreRawLines script (line ∷ lines) =
    (has_no_feed line ≡ true)
    × (((rest : List ℕ) × (script ≡ line ++ 10 ∷ rest) × AreRawLines rest lines)
    ⊎ ((script ≡ line) × (0 < length line) × (lines ≡ [])))

-- the lines of a script without the one carriage return at their end, none for one that is passed over
pub record AreLines (script : List ℕ) (lines : List (Option (List ℕ))) : Type 0 where
  pub raw : List (List ℕ)
  pub split : AreRawLines script raw
  pub contents : lines ≡ map (λ line. line_content (strip_carriage_return line)) raw

-- a session's number from 1 on, `: `, the text of a statement in UTF-8, and `;`
pub record IsRequest (line : List ℕ) (session : ℕ) (text : List ℕ) : Type 0 where
  pub spelled : line ≡ decimal session ++ (codes ": " ++ (text ++ codes ";"))
  pub least : 1 ≤ session
  pub most : session ≤ MAX_SESSION
  pub utf8 : IsUtf8 text
