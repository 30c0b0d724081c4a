-- Statements, each rule under its line of the grammar, and the statement that a whole text is.
use Rattle.std.specs.Prelude.{◌≡◌, ℕ, ◌≤◌, ◌-◌, ◌==◌, List, length, codes, Option, Some, None, Result, Ok, Err, if◌then◌else◌}
use Rattle.dk_values.specs.declared.value.ColType.{ColType}
use Rattle.dk_values.specs.declared.value.ColType.TheVariants as type
use Rattle.dk_syntax.specs.declared.query.Spot.{Spot}
use Rattle.dk_syntax.specs.declared.statement.ColumnSpot.{ColumnSpot}
use Rattle.dk_syntax.specs.declared.statement.Set.{Set}
use Rattle.dk_syntax.specs.declared.statement.Tuple.{Tuple}
use Rattle.dk_syntax.specs.declared.statement.Statement.{Statement}
use Rattle.dk_syntax.specs.declared.statement.Statement.TheVariants.{Create, Insert, InsertSelect, Copy, Select, Update, Delete, Begin, Commit, Rollback, Checkpoint}
use Rattle.dk_sql.specs.declared.lists.TheConstants.{ANY}
use Rattle.dk_sql.specs.declared.statements.TheConstants.{FURTHER_COLUMNS}
use Rattle.dk_sql.specs.declared.fault.ParseError.{ParseError}
use Rattle.dk_sql.specs.declared.fault.ParseError.TheVariants.{Syntax, OutOfMemory}
use Rattle.dk_sql.specs.Readers.{Outcome, Reader, ◌>>=◌}
use Rattle.dk_sql.specs.Tokens.{fault_at, found_at, bytes_left, word_at, is_same_word, keyword_after, keyword_at, mark_at, place_at}
use Rattle.dk_sql.specs.Lists.{list_at, enclosed_at, spot_at}
use Rattle.dk_sql.specs.Expressions.{literal_at, expr_at}
use Rattle.dk_sql.specs.Queries.{filter_at, query_at}

-- BOOLEAN | INTEGER | BIGINT | VARCHAR
abbrev pub kind_of : List ℕ → Option ColType
kind_of word =
    if is_same_word word (codes "boolean") then Some type.Bool
    else (if is_same_word word (codes "integer") then Some type.Int
    else (if is_same_word word (codes "bigint") then Some type.Big
    else (if is_same_word word (codes "varchar") then Some type.Text else None)))

abbrev pub kind_at : Reader ColType
kind_at text = word_at text >>= λ word. found_at text (kind_of word.0) >>= λ kind. Ok (kind, word.1)

-- name ( BOOLEAN | INTEGER | BIGINT | VARCHAR )
abbrev pub column_at : ℕ → Reader ColumnSpot
column_at whole text = spot_at whole text >>= λ column. kind_at column.1 >>= λ kind.
    Ok (record { column = column.0; kind = kind.0 }, kind.1)

-- ( literal { , literal } )
abbrev pub tuple_at : ℕ → Reader Tuple
tuple_at whole text = enclosed_at (literal_at whole) ANY text >>= λ values.
    Ok (record { at = place_at whole text; values = values.0 }, values.1)

-- name = expr
unfoldable pub set_at : ℕ → Reader Set
set_at whole text = do
  column ← spot_at whole text
  rest ← mark_at 61 column.1
  value ← expr_at whole rest
  Ok (record { column = column.0; value = value.0 }, value.1)

-- CREATE TABLE name ( column { , column } ), at most 64 columns, behind CREATE
unfoldable pub create_at : ℕ → Reader Statement
create_at whole text = do
  rest ← keyword_at (codes "table") text
  table ← spot_at whole rest
  columns ← enclosed_at (column_at whole) FURTHER_COLUMNS table.1
  Ok (Create table.0 columns.0, columns.1)

-- query, behind the name of an INSERT
unfoldable pub insert_query_at : ℕ → Spot → Reader Statement
insert_query_at whole table text = do
  rest ← keyword_at (codes "select") text
  query ← query_at whole rest
  Ok (InsertSelect table (place_at whole text) query.0, query.1)

-- VALUES tuple { , tuple } | query, behind the name of an INSERT
abbrev pub inserted_at : ℕ → Spot → Reader Statement
inserted_at whole table text = elim (keyword_after (codes "values") text) [
  | None ↦ insert_query_at whole table text
  | Some rest ↦ (list_at (tuple_at whole) ANY rest >>= λ tuples. Ok (Insert table tuples.0, tuples.1))
]

-- INSERT INTO name VALUES tuple { , tuple } | INSERT INTO name query, behind INSERT
unfoldable pub insert_at : ℕ → Reader Statement
insert_at whole text = do
  rest ← keyword_at (codes "into") text
  table ← spot_at whole rest
  inserted_at whole table.0 table.1

-- COPY name FROM STDIN, behind COPY, with its data
unfoldable pub copy_at : ℕ → List ℕ → Reader Statement
copy_at whole copy text = do
  table ← spot_at whole text
  rest ← keyword_at (codes "from") table.1
  rest ← keyword_at (codes "stdin") rest
  Ok (Copy table.0 copy, rest)

-- query, behind SELECT
abbrev pub select_at : ℕ → Reader Statement
select_at whole text = query_at whole text >>= λ query. Ok (Select query.0, query.1)

-- UPDATE name SET name = expr { , name = expr } [ WHERE expr ], behind UPDATE
unfoldable pub update_at : ℕ → Reader Statement
update_at whole text = do
  table ← spot_at whole text
  rest ← keyword_at (codes "set") table.1
  sets ← list_at (set_at whole) ANY rest
  filter ← filter_at whole sets.1
  Ok (Update table.0 sets.0 filter.0, filter.1)

-- DELETE FROM name [ WHERE expr ], behind DELETE
unfoldable pub delete_at : ℕ → Reader Statement
delete_at whole text = do
  rest ← keyword_at (codes "from") text
  table ← spot_at whole rest
  filter ← filter_at whole table.1
  Ok (Delete table.0 filter.0, filter.1)

-- BEGIN | COMMIT | ROLLBACK | CHECKPOINT
abbrev pub single_of : List ℕ → Option Statement
single_of word =
    if is_same_word word (codes "begin") then Some Begin
    else (if is_same_word word (codes "commit") then Some Commit
    else (if is_same_word word (codes "rollback") then Some Rollback
    else (if is_same_word word (codes "checkpoint") then Some Checkpoint else None)))

-- a statement of one word, which stands in front of the text
abbrev pub single_at : List ℕ → List ℕ → Reader Statement
single_at word text rest = found_at text (single_of word) >>= λ statement. Ok (statement, rest)

-- the statement that begins with this word, in front of the text, and goes on in the rest
abbrev pub statement_by : ℕ → List ℕ → List ℕ → List ℕ → Reader Statement
statement_by whole copy word text rest =
    if is_same_word word (codes "create") then create_at whole rest
    else (if is_same_word word (codes "insert") then insert_at whole rest
    else (if is_same_word word (codes "copy") then copy_at whole copy rest
    else (if is_same_word word (codes "select") then select_at whole rest
    else (if is_same_word word (codes "update") then update_at whole rest
    else (if is_same_word word (codes "delete") then delete_at whole rest else single_at word text rest)))))

unfoldable pub statement_at : ℕ → List ℕ → Reader Statement
statement_at whole copy text = word_at text >>= λ word. statement_by whole copy word.0 text word.1

-- only blanks are left
abbrev pub at_end : Statement → List ℕ → Outcome Statement
at_end statement text = if bytes_left text == 0 then Ok statement else fault_at text

-- the statement that the whole text is, where so many bytes are left from its first fault on
abbrev pub whole_at : List ℕ → List ℕ → Outcome Statement
whole_at text copy = statement_at (length text) copy text >>= λ found. at_end found.0 found.1

-- the place of a fault in a text of n bytes
abbrev pub placed : ℕ → Outcome Statement → Result Statement ℕ
placed n (Ok statement) = Ok statement
placed n (Err left) = Err (n - left)

-- the statement that the whole text is, or the place of its first fault
abbrev pub statement_of : List ℕ → List ℕ → Result Statement ℕ
statement_of text copy = placed (length text) (whole_at text copy)

abbrev pub Refuses : ParseError → Result Statement ℕ → Type 0
Refuses (Syntax at) found = found ≡ Err at
Refuses OutOfMemory found = Unit {0}

-- what was returned is the statement, or the place of the first fault, unless memory ran out
abbrev pub Parses : Result Statement ParseError → Result Statement ℕ → Type 0
Parses (Ok statement) found = found ≡ Ok statement
Parses (Err e) found = Refuses e found

-- a place is at most the text's length
abbrev pub IsWithin : ℕ → ParseError → Type 0
IsWithin n (Syntax at) = at ≤ n
IsWithin n OutOfMemory = Unit {0}
