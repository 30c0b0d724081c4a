-- What a request asks of the machine.
use Rattle.std.specs.Prelude.{◌≡◌, ◌⊎◌, ⊤, ℕ, Bool, true, false, List, [], ◌∷◌, Result, Ok, Err, if◌then◌else◌}
use Rattle.dk_syntax.specs.declared.statement.Statement.{Statement}
use Rattle.dk_syntax.specs.declared.statement.Statement.TheVariants as statement
use Rattle.dk_si.specs.declared.history.Asked.{Asked}
use Rattle.dk_si.specs.declared.history.Asked.TheVariants.{Unread, Bad, Good}
use Rattle.dk_sql.specs.Statements.{statement_of}

-- a COPY is not served while the lines of its data are not read
abbrev pub is_served : Statement → Bool
is_served (statement.Copy table bytes) = false
is_served other = true

-- what a statement asks, or the place of a text's first fault
abbrev pub asked_as : Result Statement ℕ → Asked
asked_as (Ok statement) = if is_served statement then Good statement else Bad 0
asked_as (Err at) = Bad at

-- what the text of a statement asks, where these are the data of a COPY
abbrev pub asked_of : List ℕ → List ℕ → Asked
asked_of text copy = asked_as (statement_of text copy)

-- a text was read as what it asks, or there was no memory to read it
abbrev pub IsRead : List ℕ → List ℕ → Asked → Type 0
IsRead text copy asked = (asked ≡ asked_of text copy) ⊎ (asked ≡ Unread)

-- each call is of the session of a request, and of what was read of its text, which no data follow
abbrev pub AreRead : List (ℕ × List ℕ) → List (ℕ × Asked) → Type 0
AreRead [] [] = ⊤
AreRead [] (call ∷ calls) = ⊥
AreRead (request ∷ requests) [] = ⊥
AreRead (request ∷ requests) (call ∷ calls) =
    (call.0 ≡ request.0) × IsRead request.1 [] call.1 × AreRead requests calls
