-- What a function returns that looks for a meaning.
use Rattle.std.specs.Prelude.{◌≡◌, Result, Ok, Err}
use Rattle.dk_types.specs.declared.reply.Refusal.TheVariants as refusal
use Rattle.dk_query.specs.declared.fault.QueryError.{QueryError}
use Rattle.dk_query.specs.declared.fault.QueryError.TheVariants.{OutOfRange, OutOfMemory}
use Rattle.dk_si.specs.declared.meaning.Meaning.{Meaning}
use Rattle.dk_si.specs.declared.meaning.Meaning.TheVariants.{Refused}

-- the meaning, or the row that has no value where that is what it means; memory may run out at any time
abbrev pub Means : Result Meaning QueryError → Meaning → Type 0
Means (Ok found) meant = found ≡ meant
Means (Err (OutOfRange row)) meant = Refused (refusal.OutOfRange row) ≡ meant
Means (Err OutOfMemory) meant = Unit {0}
