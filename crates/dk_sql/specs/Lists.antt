-- Lists, their members parted by commas.
use Rattle.std.specs.Prelude.{ℕ, zero, suc, List, [], ◌∷◌, Option, Some, None, Ok}
use Rattle.dk_syntax.specs.declared.query.Spot.{Spot}
use Rattle.dk_sql.specs.Readers.{Outcome, Reader, ◌>>=◌}
use Rattle.dk_sql.specs.Tokens.{fault_at, mark_after, mark_at, name_at, place_at}

-- behind a comma, where there is one, an item and others
abbrev pub more_after : {A : Type 0} → Reader A → Reader (List A) → List ℕ → Option (List ℕ)
    → Outcome (List A × List ℕ)
more_after item others text None = Ok ([], text)
more_after item others text (Some rest) =
    item rest >>= λ first. others first.1 >>= λ more. Ok (first.0 ∷ more.0, more.1)

-- no further item
abbrev pub last_after : {A : Type 0} → List ℕ → Option (List ℕ) → Outcome (List A × List ℕ)
last_after text None = Ok ([], text)
last_after text (Some rest) = fault_at rest

-- { , item }, at most so many: one more is refused at its first token
abbrev pub more_at : {A : Type 0} → Reader A → ℕ → Reader (List A)
more_at item zero text = last_after text (mark_after 44 text)
more_at item (suc further) text = more_after item (more_at item further) text (mark_after 44 text)

-- item { , item }, at most so many behind the first
unfoldable pub list_at : {A : Type 0} → Reader A → ℕ → Reader (List A)
list_at item further text = item text >>= λ first. more_at item further first.1 >>= λ others.
    Ok (first.0 ∷ others.0, others.1)

-- ( item { , item } )
unfoldable pub enclosed_at : {A : Type 0} → Reader A → ℕ → Reader (List A)
enclosed_at item further text = do
  inside ← mark_at 40 text
  items ← list_at item further inside
  rest ← mark_at 41 items.1
  Ok (items.0, rest)

-- a name with its place
abbrev pub spot_at : ℕ → Reader Spot
spot_at whole text = name_at text >>= λ name.
    Ok (record { at = place_at whole text; name = name.0 }, name.1)
