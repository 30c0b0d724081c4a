-- A statement that was read is one that a text can say.
use Rattle.std.proofs.Common.{◌≡◌, ℕ, ◌^◌, ◌≤◌, suc, Bool, true, false, ◌&&◌, ◌==◌, List, [], length, nat_le, Option, Some, None, Ok, Err, IfOk, IfSome, cond, refl, arith}
use Rattle.std.specs.Prelude.{codes}
use Rattle.std.specs.List.{list_all, prefix_len}
use Rattle.std.proofs.lemmas.Bool.{and_from, lt-ltb, le-leb, leb-true}
use Rattle.dk_values.specs.declared.column.TheConstants.{MAX_COLUMNS}
use Rattle.dk_values.specs.Names.{is_name}
use Rattle.dk_syntax.specs.declared.expression.Expr.{Expr}
use Rattle.dk_syntax.specs.declared.query.Spot.{Spot}
use Rattle.dk_syntax.specs.declared.query.FoldKind.{FoldKind}
use Rattle.dk_syntax.specs.declared.query.Item.{Item}
use Rattle.dk_syntax.specs.declared.query.Item.TheVariants.{CountAll}
use Rattle.dk_syntax.specs.declared.query.Items.{Items}
use Rattle.dk_syntax.specs.declared.query.Items.TheVariants.{All, Listed}
use Rattle.dk_syntax.specs.declared.query.Key.{Key}
use Rattle.dk_syntax.specs.declared.statement.ColumnSpot.{ColumnSpot}
use Rattle.dk_syntax.specs.declared.statement.Set.{Set}
use Rattle.dk_syntax.specs.declared.statement.Tuple.{Tuple}
use Rattle.dk_syntax.specs.declared.statement.Statement.{Statement}
use Rattle.dk_syntax.specs.declared.statement.Statement.TheVariants.{Insert, Begin, Commit, Rollback, Checkpoint}
use Rattle.dk_syntax.specs.LawfulStatements.{is_lawful_expr, is_lawful_filter, is_lawful_item, are_lawful_items, is_lawful_limit, is_lawful_query, is_lawful_value, is_lawful}
use Rattle.dk_sql.specs.declared.lists.TheConstants.{ANY}
use Rattle.dk_sql.specs.declared.expressions.TheConstants.{MAX_NUMBER}
use Rattle.dk_sql.specs.declared.statements.TheConstants.{FURTHER_COLUMNS}
use Rattle.dk_sql.specs.Readers.{Outcome, Reader, ◌>>=◌}
use Rattle.dk_sql.specs.Tokens.{is_digit, unblank, bytes_left, word_at, is_same_word, keyword_after, keyword_at, mark_after, mark_at, number_within, number_in, number_at, fault_at, found_at, place_at}
use Rattle.dk_sql.specs.Lists.{list_at, enclosed_at, spot_at}
use Rattle.dk_sql.specs.Expressions.{literal_at, expr_at}
use Rattle.dk_sql.specs.Queries.{fold_after, star_after, folded_at, aggregate_at, plain_at, item_by, item_at, items_at, filter_at, by_at, key_at, limit_at, query_at}
use Rattle.dk_sql.specs.Statements.{kind_at, column_at, tuple_at, set_at, create_at, insert_query_at, inserted_at, insert_at, copy_at, select_at, update_at, delete_at, single_of, single_at, statement_by, statement_at, at_end, whole_at, placed, statement_of}
use Rattle.dk_sql.proofs.FoundLemmas as found
use Rattle.dk_sql.proofs.FoundLemmas.{after, after_any, of_option, Reads, list_lawful, enclosed_lawful}
use Rattle.dk_sql.proofs.LawfulValueLemmas.{has_name, spot_lawful}
use Rattle.dk_sql.proofs.LawfulExprLemmas.{literal_lawful, expr_lawful}

-- ---- queries

-- a step that finds something lawful, behind anything
any : {A B : Type 0} (P : B → Bool) (o : Outcome A) (f : A → Outcome (B × List ℕ))
    → ((x : A) → IfOk (f x) (λ y. P y.0 ≡ true)) → IfOk (o >>= f) (λ y. P y.0 ≡ true)
any {A} {B} P o f step = after_any {A = A} {B = B × List ℕ} (λ y. P y.0 ≡ true) f step o

-- or behind something lawful
such : {A B : Type 0} (P : A → Bool) (Q : B → Bool) (o : Outcome (A × List ℕ)) (f : A × List ℕ → Outcome (B × List ℕ))
    → IfOk o (λ x. P x.0 ≡ true) → ((x : A × List ℕ) → P x.0 ≡ true → IfOk (f x) (λ y. Q y.0 ≡ true))
    → IfOk (o >>= f) (λ y. Q y.0 ≡ true)
such {A} {B} P Q o f so step =
    after {A = A × List ℕ} {B = B × List ℕ} (λ x. P x.0 ≡ true) (λ y. Q y.0 ≡ true) f step o so

folded_lawful : (whole : ℕ) (kind : FoldKind) (at : ℕ) → Reads is_lawful_item (folded_at whole kind at)
unfolding folded_at
folded_lawful whole kind at text =
    such is_lawful_expr is_lawful_item (expr_at whole text) _ (expr_lawful whole text)
    (λ of so. any is_lawful_item (mark_at 41 of.1) _ (λ rest. so))

aggregate_lawful : (whole : ℕ) (kind : FoldKind) (at : ℕ) → Reads is_lawful_item (aggregate_at whole kind at)
aggregate_lawful whole kind at text =
    any is_lawful_item (mark_at 40 text) _ (λ inside. by_star inside (star_after kind inside))
  where
    by_star : (inside : List ℕ) (star : Option (List ℕ)) → IfOk {T = Item × List ℕ} (elim star [
      | None ↦ folded_at whole kind at inside
      | Some rest ↦ (mark_at 41 rest >>= λ rest. Ok (CountAll at, rest))
    ]) (λ x. is_lawful_item x.0 ≡ true)
    by_star inside None = folded_lawful whole kind at inside
    by_star inside (Some rest) = any is_lawful_item (mark_at 41 rest) _ (λ rest. refl)

plain_lawful : (whole : ℕ) → Reads is_lawful_item (plain_at whole)
plain_lawful whole text =
    such is_lawful_expr is_lawful_item (expr_at whole text) _ (expr_lawful whole text) (λ expr so. so)

item_lawful : (whole : ℕ) → Reads is_lawful_item (item_at whole)
item_lawful whole text = by_word (fold_after text)
  where
    by_word : (fold : Option (FoldKind × List ℕ)) → IfOk (item_by whole text fold) (λ x. is_lawful_item x.0 ≡ true)
    by_word None = plain_lawful whole text
    by_word (Some fold) = aggregate_lawful whole fold.0 (place_at whole text) fold.1

items_lawful : (whole : ℕ) → Reads are_lawful_items (items_at whole)
items_lawful whole text = by_star (mark_after 42 text)
  where
    by_star : (star : Option (List ℕ)) → IfOk {T = Items × List ℕ} (elim star [
      | None ↦ (list_at (item_at whole) ANY text >>= λ items. Ok (Listed items.0, items.1))
      | Some rest ↦ Ok (All (place_at whole text), rest)
    ]) (λ x. are_lawful_items x.0 ≡ true)
    by_star None =
        after {A = List Item × List ℕ} {B = Items × List ℕ} (λ x. found.Listed is_lawful_item (suc ANY) x.0)
        (λ x. are_lawful_items x.0 ≡ true) _ (λ items so. so.lawful)
        (list_at (item_at whole) ANY text) (list_lawful is_lawful_item (item_at whole) (item_lawful whole) ANY text)
    by_star (Some rest) = refl

filter_lawful : (whole : ℕ) → Reads is_lawful_filter (filter_at whole)
filter_lawful whole text = by_word (keyword_after (codes "where") text)
  where
    by_word : (word : Option (List ℕ)) → IfOk {T = Option Expr × List ℕ} (elim word [
      | None ↦ Ok (None, text)
      | Some rest ↦ (expr_at whole rest >>= λ expr. Ok (Some expr.0, expr.1))
    ]) (λ x. is_lawful_filter x.0 ≡ true)
    by_word None = refl
    by_word (Some rest) =
        such is_lawful_expr is_lawful_filter (expr_at whole rest) _ (expr_lawful whole rest) (λ expr so. so)

list_members : {A : Type 0} (P : A → Bool) (item : Reader A) → Reads P item → (further : ℕ)
    → Reads (list_all P) (list_at item further)
list_members {A} P item reads further text = weaken (list_at item further text) (list_lawful P item reads further text)
  where
    weaken : (o : Outcome (List A × List ℕ)) → IfOk o (λ x. found.Listed P (suc further) x.0)
        → IfOk o (λ x. list_all P x.0 ≡ true)
    weaken (Ok x) so = so.lawful
    weaken (Err left) so = tt

by_lawful : {A : Type 0} (P : A → Bool) (item : Reader A) → Reads P item → (word : List ℕ)
    → Reads (list_all P) (by_at word item)
by_lawful {A} P item reads word text = by_word (keyword_after word text)
  where
    by_word : (found : Option (List ℕ)) → IfOk {T = List A × List ℕ} (elim found [
      | None ↦ Ok ([], text)
      | Some rest ↦ (keyword_at (codes "by") rest >>= λ rest. list_at item ANY rest)
    ]) (λ x. list_all P x.0 ≡ true)
    by_word None = refl
    by_word (Some rest) = any (list_all P) (keyword_at (codes "by") rest) _ (list_members P item reads ANY)

abbrev has_key_name : Key → Bool
has_key_name key = is_name key.column.name

key_lawful : (whole : ℕ) → Reads has_key_name (key_at whole)
key_lawful whole text = such has_name has_key_name (spot_at whole text) _ (spot_lawful whole text) (λ column so. so)

-- a number that is not above its limit
number_lawful : (most : ℕ) (text : List ℕ) → IfOk (number_at most text) (λ x. x.0 ≤ most)
number_lawful most text = of_option {A = ℕ × List ℕ} (λ x. x.0 ≤ most) text (number_in most (unblank text)) (within (unblank text))
  where
    by_limit : (n : ℕ) (rest : List ℕ) (t : Bool) → nat_le n most ≡ t
        → IfSome {T = ℕ × List ℕ} (cond t (Some (n, rest)) None) (λ x. x.0 ≤ most)
    by_limit n rest true e = leb-true n most e
    by_limit n rest false e = tt

    by_digits : (n : ℕ) (rest : List ℕ) (t : Bool)
        → IfSome {T = ℕ × List ℕ} (cond t None (number_within most n rest)) (λ x. x.0 ≤ most)
    by_digits n rest true = tt
    by_digits n rest false = by_limit n rest (nat_le n most) refl

    within : (text : List ℕ) → IfSome {T = ℕ × List ℕ} (number_in most text) (λ x. x.0 ≤ most)
    within text = by_digits _ _ (prefix_len is_digit text == 0)

limit_lawful : Reads is_lawful_limit limit_at
limit_lawful text = by_word (keyword_after (codes "limit") text)
  where
    by_word : (word : Option (List ℕ)) → IfOk {T = Option ℕ × List ℕ} (elim word [
      | None ↦ Ok (None, text)
      | Some rest ↦ (number_at MAX_NUMBER rest >>= λ n. Ok (Some n.0, n.1))
    ]) (λ x. is_lawful_limit x.0 ≡ true)
    by_word None = refl
    by_word (Some rest) =
        after {A = ℕ × List ℕ} {B = Option ℕ × List ℕ} (λ x. x.0 ≤ MAX_NUMBER) (λ x. is_lawful_limit x.0 ≡ true) _
        (λ n so. lt-ltb n.0 (2 ^ 63) (omega (arith, so))) (number_at MAX_NUMBER rest) (number_lawful MAX_NUMBER rest)

query_lawful : (whole : ℕ) → Reads is_lawful_query (query_at whole)
unfolding query_at
query_lawful whole text =
    such are_lawful_items is_lawful_query (items_at whole text) _ (items_lawful whole text) (λ items items_so.
    any is_lawful_query (keyword_at (codes "from") items.1) _ (λ rest.
    such has_name is_lawful_query (spot_at whole rest) _ (spot_lawful whole rest) (λ table table_so.
    such is_lawful_filter is_lawful_query (filter_at whole table.1) _ (filter_lawful whole table.1) (λ filter filter_so.
    such (list_all has_name) is_lawful_query (by_at (codes "group") (spot_at whole) filter.1) _
    (by_lawful has_name (spot_at whole) (spot_lawful whole) (codes "group") filter.1) (λ groups groups_so.
    such (list_all has_key_name) is_lawful_query (by_at (codes "order") (key_at whole) groups.1) _
    (by_lawful has_key_name (key_at whole) (key_lawful whole) (codes "order") groups.1) (λ keys keys_so.
    such is_lawful_limit is_lawful_query (limit_at keys.1) _ (limit_lawful keys.1) (λ limit limit_so.
    and_from _ _ (and_from _ _ table_so items_so) (and_from _ _ (and_from _ _ filter_so groups_so)
    (and_from _ _ keys_so limit_so)))))))))

-- ---- statements

abbrev has_column_name : ColumnSpot → Bool
has_column_name column = is_name column.column.name

column_lawful : (whole : ℕ) → Reads has_column_name (column_at whole)
column_lawful whole text =
    such has_name has_column_name (spot_at whole text) _ (spot_lawful whole text)
    (λ column so. any has_column_name (kind_at column.1) _ (λ kind. so))

abbrev is_lawful_tuple : Tuple → Bool
is_lawful_tuple tuple = list_all is_lawful_value tuple.values

tuple_lawful : (whole : ℕ) → Reads is_lawful_tuple (tuple_at whole)
tuple_lawful whole text =
    after {A = List Expr × List ℕ} {B = Tuple × List ℕ} (λ x. found.Listed is_lawful_value (suc ANY) x.0)
    (λ x. is_lawful_tuple x.0 ≡ true) _ (λ values so. so.lawful) (enclosed_at (literal_at whole) ANY text)
    (enclosed_lawful is_lawful_value (literal_at whole) (literal_lawful whole) ANY text)

abbrev is_lawful_set : Set → Bool
is_lawful_set set = is_name set.column.name && is_lawful_expr set.value

set_lawful : (whole : ℕ) → Reads is_lawful_set (set_at whole)
unfolding set_at
set_lawful whole text =
    such has_name is_lawful_set (spot_at whole text) _ (spot_lawful whole text) (λ column column_so.
    any is_lawful_set (mark_at 61 column.1) _ (λ rest.
    such is_lawful_expr is_lawful_set (expr_at whole rest) _ (expr_lawful whole rest) (λ value value_so.
    and_from _ _ column_so value_so)))

create_lawful : (whole : ℕ) → Reads is_lawful (create_at whole)
unfolding create_at
create_lawful whole text =
    any is_lawful (keyword_at (codes "table") text) _ (λ rest.
    such has_name is_lawful (spot_at whole rest) _ (spot_lawful whole rest) (λ table table_so.
    after {A = List ColumnSpot × List ℕ} {B = Statement × List ℕ}
    (λ x. found.Listed has_column_name (suc FURTHER_COLUMNS) x.0) (λ x. is_lawful x.0 ≡ true) _
    (λ columns so. and_from _ _ table_so (and_from _ _ so.lawful
    (and_from _ _ (lt-ltb 0 (length columns.0) so.some) (le-leb (length columns.0) MAX_COLUMNS so.count))))
    (enclosed_at (column_at whole) FURTHER_COLUMNS table.1)
    (enclosed_lawful has_column_name (column_at whole) (column_lawful whole) FURTHER_COLUMNS table.1)))

insert_query_lawful : (whole : ℕ) (table : Spot) → has_name table ≡ true → Reads is_lawful (insert_query_at whole table)
unfolding insert_query_at
insert_query_lawful whole table so text =
    any is_lawful (keyword_at (codes "select") text) _ (λ rest.
    such is_lawful_query is_lawful (query_at whole rest) _ (query_lawful whole rest)
    (λ query query_so. and_from _ _ so query_so))

inserted_lawful : (whole : ℕ) (table : Spot) → has_name table ≡ true → Reads is_lawful (inserted_at whole table)
inserted_lawful whole table so text = by_word (keyword_after (codes "values") text)
  where
    by_word : (word : Option (List ℕ)) → IfOk {T = Statement × List ℕ} (elim word [
      | None ↦ insert_query_at whole table text
      | Some rest ↦ (list_at (tuple_at whole) ANY rest >>= λ tuples. Ok (Insert table tuples.0, tuples.1))
    ]) (λ x. is_lawful x.0 ≡ true)
    by_word None = insert_query_lawful whole table so text
    by_word (Some rest) =
        such (list_all is_lawful_tuple) is_lawful (list_at (tuple_at whole) ANY rest) _
        (list_members is_lawful_tuple (tuple_at whole) (tuple_lawful whole) ANY rest)
        (λ tuples tuples_so. and_from _ _ so tuples_so)

insert_lawful : (whole : ℕ) → Reads is_lawful (insert_at whole)
unfolding insert_at
insert_lawful whole text =
    any is_lawful (keyword_at (codes "into") text) _ (λ rest.
    such has_name is_lawful (spot_at whole rest) _ (spot_lawful whole rest)
    (λ table so. inserted_lawful whole table.0 so table.1))

copy_lawful : (whole : ℕ) (copy : List ℕ) → Reads is_lawful (copy_at whole copy)
unfolding copy_at
copy_lawful whole copy text =
    such has_name is_lawful (spot_at whole text) _ (spot_lawful whole text) (λ table so.
    any is_lawful (keyword_at (codes "from") table.1) _ (λ rest.
    any is_lawful (keyword_at (codes "stdin") rest) _ (λ rest. so)))

select_lawful : (whole : ℕ) → Reads is_lawful (select_at whole)
select_lawful whole text =
    such is_lawful_query is_lawful (query_at whole text) _ (query_lawful whole text) (λ query so. so)

update_lawful : (whole : ℕ) → Reads is_lawful (update_at whole)
unfolding update_at
update_lawful whole text =
    such has_name is_lawful (spot_at whole text) _ (spot_lawful whole text) (λ table table_so.
    any is_lawful (keyword_at (codes "set") table.1) _ (λ rest.
    such (list_all is_lawful_set) is_lawful (list_at (set_at whole) ANY rest) _
    (list_members is_lawful_set (set_at whole) (set_lawful whole) ANY rest) (λ sets sets_so.
    such is_lawful_filter is_lawful (filter_at whole sets.1) _ (filter_lawful whole sets.1) (λ filter filter_so.
    and_from _ _ table_so (and_from _ _ sets_so filter_so)))))

delete_lawful : (whole : ℕ) → Reads is_lawful (delete_at whole)
unfolding delete_at
delete_lawful whole text =
    any is_lawful (keyword_at (codes "from") text) _ (λ rest.
    such has_name is_lawful (spot_at whole rest) _ (spot_lawful whole rest) (λ table table_so.
    such is_lawful_filter is_lawful (filter_at whole table.1) _ (filter_lawful whole table.1)
    (λ filter filter_so. and_from _ _ table_so filter_so)))

single_lawful : (word text rest : List ℕ) → IfOk (single_at word text rest) (λ x. is_lawful x.0 ≡ true)
single_lawful word text rest =
    after {A = Statement} {B = Statement × List ℕ} (λ s. is_lawful s ≡ true) (λ x. is_lawful x.0 ≡ true) _
    (λ statement so. so) (found_at text (single_of word))
    (of_option (λ s. is_lawful s ≡ true) text (single_of word)
    (by_tests (is_same_word word (codes "begin")) (is_same_word word (codes "commit"))
    (is_same_word word (codes "rollback")) (is_same_word word (codes "checkpoint"))))
  where
    by_tests : (b c r k : Bool) → IfSome (cond b (Some Begin) (cond c (Some Commit) (cond r (Some Rollback)
        (cond k (Some Checkpoint) None)))) (λ s. is_lawful s ≡ true)
    by_tests true c r k = refl
    by_tests false true r k = refl
    by_tests false false true k = refl
    by_tests false false false true = refl
    by_tests false false false false = tt

statement_by_lawful : (whole : ℕ) (copy word text rest : List ℕ)
    → IfOk (statement_by whole copy word text rest) (λ x. is_lawful x.0 ≡ true)
statement_by_lawful whole copy word text rest =
    by_words (is_same_word word (codes "create")) (is_same_word word (codes "insert")) (is_same_word word (codes "copy"))
    (is_same_word word (codes "select")) (is_same_word word (codes "update")) (is_same_word word (codes "delete"))
  where
    by_words : (c i k s u d : Bool) → IfOk {T = Statement × List ℕ} (cond c (create_at whole rest)
        (cond i (insert_at whole rest) (cond k (copy_at whole copy rest) (cond s (select_at whole rest)
        (cond u (update_at whole rest) (cond d (delete_at whole rest) (single_at word text rest)))))))
        (λ x. is_lawful x.0 ≡ true)
    by_words true i k s u d = create_lawful whole rest
    by_words false true k s u d = insert_lawful whole rest
    by_words false false true s u d = copy_lawful whole copy rest
    by_words false false false true u d = select_lawful whole rest
    by_words false false false false true d = update_lawful whole rest
    by_words false false false false false true = delete_lawful whole rest
    by_words false false false false false false = single_lawful word text rest

statement_lawful : (whole : ℕ) (copy : List ℕ) → Reads is_lawful (statement_at whole copy)
unfolding statement_at
statement_lawful whole copy text =
    any is_lawful (word_at text) _ (λ word. statement_by_lawful whole copy word.0 text word.1)

end_lawful : (statement : Statement) (text : List ℕ) → is_lawful statement ≡ true
    → IfOk (at_end statement text) (λ s. is_lawful s ≡ true)
end_lawful statement text so = by_test (bytes_left text == 0)
  where
    by_test : (t : Bool) → IfOk {T = Statement} (cond t (Ok statement) (fault_at text)) (λ s. is_lawful s ≡ true)
    by_test true = so
    by_test false = tt

whole_lawful : (text copy : List ℕ) → IfOk (whole_at text copy) (λ s. is_lawful s ≡ true)
whole_lawful text copy =
    after {A = Statement × List ℕ} {B = Statement} (λ x. is_lawful x.0 ≡ true) (λ s. is_lawful s ≡ true) _
    (λ found so. end_lawful found.0 found.1 so) (statement_at (length text) copy text)
    (statement_lawful (length text) copy text)

-- whatever statement a text is, it is lawful
pub lawful_of : (text copy : List ℕ) → IfOk (statement_of text copy) (λ s. is_lawful s ≡ true)
lawful_of text copy = keep (whole_at text copy) (whole_lawful text copy)
  where
    keep : (o : Outcome Statement) → IfOk o (λ s. is_lawful s ≡ true)
        → IfOk (placed (length text) o) (λ s. is_lawful s ≡ true)
    keep (Ok s) so = so
    keep (Err left) so = tt

-- the same, of the statement that was read
pub lawful_when : (text copy : List ℕ) (s : Statement) → whole_at text copy ≡ Ok s → is_lawful s ≡ true
lawful_when text copy s e = rw e at (whole_lawful text copy)
