-- Values that go straight behind others are those of the lines, as many as the limit lets through.
use Rattle.std.proofs.Common.{◌≡◌, ℕ, suc, ◌+◌, ◌-◌, ◌<◌, Bool, true, false, cond, List, [], ◌∷◌, ◌++◌, length, get_or, map, take, drop, Option, Some, None, Result, Ok, Err, option_map, refl, sym, ap, ◌∙◌, append_assoc, arith}
use Rattle.std.proofs.lemmas.List.{append-nil, length-append}
use Rattle.std.proofs.Math.Seq.{take-nil}
use Rattle.std.proofs.lemmas.Bool.{ltb-true, ltb-false}
use Rattle.dk_values.specs.declared.value.Value.{Value}
use Rattle.dk_types.specs.declared.bound.BoundKey.{BoundKey}
use Rattle.dk_types.specs.declared.bound.BoundQuery.{BoundQuery}
use Rattle.dk_query.specs.declared.lines.Line.{Line}
use Rattle.dk_query.specs.Kept.{line_of, with_line, kept_from}
use Rattle.dk_query.specs.Groups.{group_lines}
use Rattle.dk_query.specs.Order.{goes_before, order_keys}
use Rattle.dk_query.specs.Sorted.{put_in, sorted}
use Rattle.dk_query.specs.Selected.{limited, lines_of, rows_of, selected}
use Rattle.dk_query.specs.Direct.{has_room, with_values, room_behind, rows_behind, is_placed, is_direct}
use Rattle.dk_query.proofs.GroupLemmas.{rest_is}

abbrev values_in : List Line → List (List Value)
values_in lines = map (λ line. line.values) lines

-- one row more
room_step : (limit : Option ℕ) (front more : List (List Value)) (values : List Value) (b : Bool) → has_room limit (length front) ≡ b
    → cond b (front ++ values ∷ []) front ++ limited (room_behind limit (length (cond b (front ++ values ∷ []) front))) more
    ≡ front ++ limited (room_behind limit (length front)) (values ∷ more)
room_step None front more values true is = append_assoc front (values ∷ []) more
room_step None front more values false is = absurd cc
room_step (Some most) front more values true is =
    let longer : length (front ++ values ∷ []) ≡ length front + 1 = length-append front (values ∷ []) in
    let below : length front < most = ltb-true (length front) most is in
    let next : most - length front ≡ suc (most - length (front ++ values ∷ [])) = omega (arith, longer, below) in
    append_assoc front (values ∷ []) (take (most - length (front ++ values ∷ [])) more)
    ∙ ap (λ n. front ++ take n (values ∷ more)) (sym next)
room_step (Some most) front more values false is =
    let none : most - length front ≡ 0 = omega (arith, ltb-false (length front) most is) in
    ap (λ n. front ++ take n more) none ∙ ap (λ n. front ++ take n (values ∷ more)) (sym none)

next_line : (limit : Option ℕ) (front new : List (List Value)) (line : Option (Option Line)) (id : ℕ) (others : Result (List Line) ℕ)
    → option_map (with_values limit front) line ≡ Some new
    → rows_behind limit new others ≡ rows_behind limit front (with_line line id others)
next_line limit front new None id others is = absurd cc
next_line limit front new (Some None) id others is =
    let same : new ≡ front = cc in
    ap (λ rows. rows_behind limit rows others) same
next_line limit front new (Some (Some line)) id (Err row) is = refl
next_line limit front new (Some (Some line)) id (Ok lines) is =
    let same : new ≡ with_values limit front (Some line) = cc in
    ap (λ rows. rows_behind limit rows (Ok lines)) same
    ∙ ap Ok (room_step limit front (values_in lines) line.values (has_room limit (length front)) refl)

-- the place of a row, whose values are looked at
pub next_row : (query : BoundQuery) (rows : List (Option (List Value))) (id : ℕ) (place : Option (List Value)) (row : List Value)
    (front new : List (List Value)) → id < length rows → get_or rows id place ≡ place → place ≡ Some row
    → option_map (with_values query.limit front) (line_of query row) ≡ Some new
    → rows_behind query.limit new (kept_from query (id + 1) (drop (id + 1) rows))
    ≡ rows_behind query.limit front (kept_from query id (drop id rows))
next_row query rows id place row front new within is some made =
    next_line query.limit front new (line_of query row) id (kept_from query (id + 1) (drop (id + 1) rows)) made
    ∙ ap (λ p. rows_behind query.limit front (kept_from query id (p ∷ drop (id + 1) rows))) (sym some)
    ∙ ap (λ places. rows_behind query.limit front (kept_from query id places)) (sym (rest_is rows id place within is))

-- the place of no row
pub next_place : (query : BoundQuery) (rows : List (Option (List Value))) (id : ℕ) (place : Option (List Value))
    (front : List (List Value)) → id < length rows → get_or rows id place ≡ place → place ≡ None
    → rows_behind query.limit front (kept_from query (id + 1) (drop (id + 1) rows))
    ≡ rows_behind query.limit front (kept_from query id (drop id rows))
next_place query rows id place front within is none =
    ap (λ p. rows_behind query.limit front (kept_from query id (p ∷ drop (id + 1) rows))) (sym none)
    ∙ ap (λ places. rows_behind query.limit front (kept_from query id places)) (sym (rest_is rows id place within is))

pub at_end : (limit : Option ℕ) (front : List (List Value)) → rows_behind limit front (Ok []) ≡ Ok front
at_end None front = ap Ok (append-nil front)
at_end (Some most) front = ap Ok (ap (λ rows. front ++ rows) (take-nil (most - length front)) ∙ append-nil front)

-- without keys lines stay as they stand
put_first : (line : Line) (lines : List Line) → put_in (goes_before []) line lines ≡ line ∷ lines
put_first line [] = refl
put_first line (first ∷ lines) = refl

sorted_by_none : (lines : List Line) → sorted (goes_before []) lines ≡ lines
sorted_by_none [] = refl
sorted_by_none (line ∷ lines) = ap (put_in (goes_before []) line) (sorted_by_none lines) ∙ put_first line lines

room_before : (limit : Option ℕ) → room_behind limit 0 ≡ limit
room_before None = refl
room_before (Some most) =
    let all : most - 0 ≡ most = omega arith in
    ap Some all

placed : (limit : Option ℕ) (grouped : Bool) (keys : List BoundKey) (lines others : List Line) → is_placed grouped keys ≡ true
    → limited (room_behind limit 0) (values_in lines)
    ≡ limited limit (values_in (sorted (goes_before (order_keys keys)) (cond grouped others lines)))
placed limit false [] lines others is =
    ap (λ room. limited room (values_in lines)) (room_before limit)
    ∙ ap (λ found. limited limit (values_in found)) (sym (sorted_by_none lines))
placed limit true [] lines others is = absurd cc
placed limit grouped (key ∷ keys) lines others is = absurd cc

shown : (query : BoundQuery) (kept : Result (List Line) ℕ) → is_direct query ≡ true
    → rows_behind query.limit [] kept
    ≡ elim kept [ Ok lines ↦ Ok (rows_of query (lines_of query lines)) | Err row ↦ Err row ]
shown query (Ok lines) is =
    ap Ok (placed query.limit query.grouped query.keys lines (group_lines query.groups query.items lines) is)
shown query (Err row) is = refl

-- a query without groups and keys
pub direct_is : (query : BoundQuery) (rows : List (Option (List Value))) → is_direct query ≡ true
    → rows_behind query.limit [] (kept_from query 0 rows) ≡ selected query rows
direct_is query rows is = shown query (kept_from query 0 rows) is
