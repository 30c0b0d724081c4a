-- What a walk over parts has counted and put together at its end.
use Rattle.std.proofs.Common.{◌≡◌, ℕ, ◌+◌, ◌-◌, ◌≤◌, Bool, true, false, List, [], ◌∷◌, ◌++◌, drop, length, map, ap, ◌∙◌, sym, refl, arith}
use Rattle.std.specs.Prelude.{◌==◌, nat_lt, if◌then◌else◌}
use Rattle.std.specs.List.{list_all}
use Rattle.std.proofs.Math.ListN.{drop_of_length-le}
use Rattle.std.proofs.lemmas.List.{append_assoc, append-nil, length-append}
use Rattle.dk_values.specs.declared.value.Value.{Value}
use Rattle.dk_types.specs.declared.net.TableNet.{TableNet}
use Rattle.dk_si.specs.declared.limits.TheConstants.{GROUP_ROWS}
use Rattle.dk_si.specs.Nets.{part_of, new_rows}
use Rattle.dk_core.specs.Commits.{placed_in}
use Rattle.dk_slow_rules.proofs.ListLemmas.{sum_more}
use Rattle.dk_slow_rules.specs.Rows.{with_placed, left_of}

none_left : (count rest all : ℕ) → rest ≡ 0 → count + rest ≡ all → count ≡ all
none_left count rest all none same = grind (arith, none, same)

pub rows_end : (parts : List TableNet) (index count : ℕ) → length parts ≤ index
    → count + new_rows (drop index parts) ≡ new_rows parts
    → count ≡ new_rows parts
rows_end parts index count end same = none_left count _ _ (ap new_rows (drop_of_length-le parts end)) same

rows_add : (count rows rest all : ℕ) → all ≡ rows + rest → count + all ≡ (count + rows) + rest
rows_add count rows rest all is = grind (arith, is)

pub rows_more : (count : ℕ) (part : TableNet) (parts : List TableNet)
    → count + new_rows (part ∷ parts) ≡ (count + length part.rows) + new_rows parts
rows_more count part parts =
    rows_add count (length part.rows) _ _ (sum_more (length part.rows) (map (λ part. length part.rows) parts))

-- ---- rows behind those that are placed

placed_one : (own : Bool) (placed part rows : List (List Value))
    → placed ++ (if own then part ++ rows else rows) ≡ (placed ++ (if own then part else [])) ++ rows
placed_one true placed part rows = sym (append_assoc placed part rows)
placed_one false placed part rows = ap (λ all. all ++ rows) (sym (append-nil placed))

placed_all : (table : ℕ) (made : List TableNet) (rows : List (List Value))
    → with_placed table made rows ≡ placed_in table made ++ rows
placed_all table [] rows = refl
placed_all table (part ∷ made) rows =
    placed_all table made (if part.table == table then part.rows ++ rows else rows)
    ∙ placed_one (part.table == table) (placed_in table made) part.rows rows

pub placed_end : (table index : ℕ) (made : List TableNet) (rows all : List (List Value)) → length made ≤ index
    → with_placed table (drop index made) all ≡ with_placed table made rows
    → all ≡ placed_in table made ++ rows
placed_end table index made rows all end same =
    sym (ap (λ rest. with_placed table rest all) (drop_of_length-le made end)) ∙ (same ∙ placed_all table made rows)

-- ---- how many are left

left_one : (own : Bool) (count : ℕ) (placed part : List (List Value))
    → (if own then count - length part else count) - length placed
    ≡ count - length (placed ++ (if own then part else []))
left_one true count placed part =
    let both : length (placed ++ part) ≡ length placed + length part = length-append placed part in grind (arith, both)
left_one false count placed part = ap (λ all. count - length all) (sym (append-nil placed))

left_all : (table : ℕ) (made : List TableNet) (count : ℕ)
    → left_of table made count ≡ count - length (placed_in table made)
left_all table [] count = omega arith
left_all table (part ∷ made) count =
    left_all table made (if part.table == table then count - length part.rows else count)
    ∙ left_one (part.table == table) count (placed_in table made) part.rows

pub left_end : (table index : ℕ) (made : List TableNet) (count left : ℕ) → length made ≤ index
    → left_of table (drop index made) left ≡ left_of table made count
    → left ≡ count - length (placed_in table made)
left_end table index made count left end same =
    sym (ap (λ rest. left_of table rest left) (drop_of_length-le made end)) ∙ (same ∙ left_all table made count)

pub full_alike : (net others made placed : List TableNet) → net ≡ others → made ≡ placed
    → list_all (λ part. nat_lt (length (part_of net part.table).rows - length (placed_in part.table made)) GROUP_ROWS) net
    ≡ list_all (λ part. nat_lt (length (part_of others part.table).rows - length (placed_in part.table placed)) GROUP_ROWS)
    others
full_alike net others made placed same both =
    ap (λ (own : List TableNet). list_all
    (λ part. nat_lt (length (part_of own part.table).rows - length (placed_in part.table made)) GROUP_ROWS) own) same
    ∙ ap (λ (stand : List TableNet). list_all
    (λ part. nat_lt (length (part_of others part.table).rows - length (placed_in part.table stand)) GROUP_ROWS) others) both
