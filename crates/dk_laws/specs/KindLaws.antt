-- What statements of each kind may mean, so that each can be answered by what it means.
use Rattle.std.specs.Prelude.{Bool, true, false, ◌||◌, List, Some, ◌≡◌}
use Rattle.dk_types.specs.declared.net.TableNet.{TableNet}
use Rattle.dk_types.specs.declared.reply.Refusal.{Refusal}
use Rattle.dk_syntax.specs.declared.statement.Statement.{Statement}
use Rattle.dk_si.specs.declared.database.Table.{Table}
use Rattle.dk_si.specs.declared.kind.Kind.{Kind}
use Rattle.dk_si.specs.declared.kind.Kind.TheVariants as kind
use Rattle.dk_si.specs.declared.meaning.Meaning.{Meaning}
use Rattle.dk_si.specs.declared.meaning.Meaning.TheVariants as meant
use Rattle.dk_si.specs.Machine.{kind_of}
use Rattle.dk_si.specs.MayAnswer.{is_creation, is_any_change}
use Rattle.dk_si.specs.Meaning.{meaning, is_same_refusal}
use Rattle.dk_si.specs.Size.{size_refusal}

abbrev pub are_rows : Meaning → Bool
are_rows (meant.Rows rows) = true
are_rows other = false

abbrev pub is_refusal : Meaning → Bool
is_refusal (meant.Refused refusal) = true
is_refusal other = false

abbrev pub is_nothing : Meaning → Bool
is_nothing meant.Nothing = true
is_nothing other = false

-- what statements of a kind may mean: rows, a change or a creation, each or a refusal, and all
-- others nothing
abbrev pub suits : Kind → Meaning → Bool
suits kind.Select meaning = are_rows meaning || is_refusal meaning
suits kind.Change meaning = is_any_change meaning || is_refusal meaning
suits kind.Create meaning = is_creation meaning || is_refusal meaning
suits other meaning = is_nothing meaning

-- each statement means what its kind may mean
abbrev pub MeaningsSuitKinds : Type 0
MeaningsSuitKinds =
    (tables : List Table) (statement : Statement)
    → suits (kind_of statement) (meaning tables statement) ≡ true

-- the refusal that a statement means may be replied: it is the same as itself
abbrev pub RefusalsMayBeReplied : Type 0
RefusalsMayBeReplied = (tables : List Table) (statement : Statement) (refusal : Refusal)
    → meaning tables statement ≡ meant.Refused refusal → is_same_refusal refusal refusal ≡ true

-- and so may the refusal of a net for its size
abbrev pub SizesMayBeReplied : Type 0
SizesMayBeReplied = (net : List TableNet) (refusal : Refusal)
    → size_refusal net ≡ Some refusal → is_same_refusal refusal refusal ≡ true
