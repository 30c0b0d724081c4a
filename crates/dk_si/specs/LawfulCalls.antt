-- Calls that a text can make.
use Rattle.std.specs.Prelude.{Bool, true}
use Rattle.dk_syntax.specs.LawfulStatements.{is_lawful}
use Rattle.dk_si.specs.declared.history.Asked.{Asked}
use Rattle.dk_si.specs.declared.history.Asked.TheVariants.{Good}

abbrev pub is_lawful_call : Asked → Bool
is_lawful_call (Good statement) = is_lawful statement
is_lawful_call other = true
