-- Which refusals binding has.
use Rattle.std.specs.Prelude.{◌≡◌, Bool, true, false, List, Err}
use Rattle.dk_syntax.specs.declared.statement.Statement.{Statement}
use Rattle.dk_types.specs.declared.reply.Refusal.{Refusal}
use Rattle.dk_types.specs.declared.reply.Refusal.TheVariants as refusal
use Rattle.dk_pages.specs.declared.tree.TableEntry.{TableEntry}
use Rattle.dk_bind.specs.Outcomes.{Outcome}
use Rattle.dk_bind.specs.Statements.{bound_statement}

abbrev pub is_refusal_of_binding : Refusal → Bool
is_refusal_of_binding (refusal.NoTable at) = true
is_refusal_of_binding (refusal.NoColumn at) = true
is_refusal_of_binding (refusal.TypeMismatch at) = true
is_refusal_of_binding (refusal.SameColumn at) = true
is_refusal_of_binding (refusal.NotGrouped at) = true
is_refusal_of_binding (refusal.TableExists at) = true
is_refusal_of_binding refusal.TooManyTables = true
is_refusal_of_binding other = false

-- what is refused is refused by binding
abbrev pub RefusedByBinding : {A : Type 0} → Outcome A → Type 0
RefusedByBinding outcome = (refusal : Refusal) → outcome ≡ Err refusal → is_refusal_of_binding refusal ≡ true

abbrev pub StatementsAreRefusedByBinding : Type 0
StatementsAreRefusedByBinding =
    (tables : List TableEntry) (statement : Statement) → RefusedByBinding (bound_statement tables statement)
