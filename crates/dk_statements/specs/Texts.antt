-- The text of a statement, bound to the tables of a view.
use Rattle.std.specs.Prelude.{ℕ, List, Result, Ok, Err}
use Rattle.dk_syntax.specs.declared.statement.Statement.{Statement}
use Rattle.dk_types.specs.declared.bound.Bound.{Bound}
use Rattle.dk_types.specs.declared.reply.Refusal.TheVariants.{Syntax}
use Rattle.dk_pages.specs.declared.tree.TableEntry.{TableEntry}
use Rattle.dk_sql.specs.Statements.{statement_of}
use Rattle.dk_bind.specs.Outcomes.{Outcome}
use Rattle.dk_bind.specs.Statements.{bound_statement}

-- what was read, bound; a text's first fault goes before all that its names and kinds are refused for
abbrev pub bound_reading : List TableEntry → Result Statement ℕ → Outcome Bound
bound_reading tables (Ok statement) = bound_statement tables statement
bound_reading tables (Err at) = Err (Syntax at)

-- a text, with the data of a COPY, bound to the tables
abbrev pub bound_text : List TableEntry → List ℕ → List ℕ → Outcome Bound
bound_text tables text copy = bound_reading tables (statement_of text copy)
