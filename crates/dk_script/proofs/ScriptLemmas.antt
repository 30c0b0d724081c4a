-- What lines ask, as far as they were read.
use Rattle.std.proofs.Common.{◌≡◌, ℕ, ◌+◌, true, false, List, [], ◌∷◌, ◌++◌, length, Option, Some, cond, refl, sym, ap, ◌∙◌, arith}
use Rattle.std.proofs.lemmas.Bool.{and_parts}
use Rattle.std.proofs.lemmas.List.Sums.{take_while-cons}
use Rattle.std.proofs.lemmas.List.Elements.{filter_map-append}
use Rattle.std.specs.Prelude.{not, filter_map, take_while, ◌&&◌}
use Rattle.std.specs.List.{list_all, cons_option}
use Rattle.dk_script.specs.Script.{Line, request_in, is_good, requests_of, first_bad_from}

pub first_bad_append : (front lines : List Line) (n : ℕ) → list_all is_good front ≡ true
    → first_bad_from n (front ++ lines) ≡ first_bad_from (n + length front) lines
first_bad_append [] lines n good = ap (λ m. first_bad_from m lines) (omega arith)
first_bad_append (line ∷ front) lines n good =
    let both = and_parts (is_good line) (list_all is_good front) good in
    ap (λ b. cond (not b) (Some n) (first_bad_from (n + 1) (front ++ lines))) both.0
    ∙ (first_bad_append front lines (n + 1) both.1 ∙ ap (λ m. first_bad_from m lines) (omega arith))

pub all_append : (front lines : List Line) → list_all is_good front ≡ true
    → list_all is_good (front ++ lines) ≡ list_all is_good lines
all_append [] lines good = refl
all_append (line ∷ front) lines good =
    let both = and_parts (is_good line) (list_all is_good front) good in
    ap (λ b. b && list_all is_good (front ++ lines)) both.0 ∙ all_append front lines both.1

good_front : (lines left : List Line) → list_all is_good lines ≡ true
    → take_while is_good (lines ++ left) ≡ lines ++ take_while is_good left
good_front [] left good = refl
good_front (line ∷ lines) left good =
    let both = and_parts (is_good line) (list_all is_good lines) good in
    take_while-cons is_good line (lines ++ left)
    ∙ (ap (λ b. cond b (line ∷ take_while is_good (lines ++ left)) []) both.0
    ∙ ap (λ xs. line ∷ xs) (good_front lines left both.1))

good_whole : (lines : List Line) → list_all is_good lines ≡ true → take_while is_good lines ≡ lines
good_whole [] good = refl
good_whole (line ∷ lines) good =
    let both = and_parts (is_good line) (list_all is_good lines) good in
    take_while-cons is_good line lines
    ∙ (ap (λ b. cond b (line ∷ take_while is_good lines) []) both.0
    ∙ ap (λ xs. line ∷ xs) (good_whole lines both.1))

-- good lines ask what they ask, and then the others
pub requests_append : (lines left : List Line) → list_all is_good lines ≡ true
    → requests_of (lines ++ left) ≡ requests_of lines ++ requests_of left
requests_append lines left good =
    ap (filter_map request_in) (good_front lines left good)
    ∙ (filter_map-append request_in lines (take_while is_good left)
    ∙ ap (λ xs. xs ++ requests_of left) (sym (ap (filter_map request_in) (good_whole lines good))))

asked_by : (line : Line) (ask : Option (ℕ × List ℕ)) → request_in line ≡ ask → is_good line ≡ true
    → requests_of (line ∷ []) ≡ cons_option ask []
asked_by line ask e good =
    ap (λ b. filter_map request_in b)
    (take_while-cons is_good line [] ∙ ap (λ b. cond b (line ∷ take_while is_good []) []) good)
    ∙ ap (λ o. cons_option o []) e

-- a line that asks something asks that alone
pub one_asked : (line : Line) (ask : ℕ × List ℕ) → request_in line ≡ Some ask → is_good line ≡ true
    → requests_of (line ∷ []) ≡ ask ∷ []
one_asked line ask e good = asked_by line (Some ask) e good

-- behind a bad line nothing is asked
pub requests_bad : (line : Line) (lines : List Line) → is_good line ≡ false → requests_of (line ∷ lines) ≡ []
requests_bad line lines bad =
    ap (λ xs. filter_map request_in xs)
    (take_while-cons is_good line lines ∙ ap (λ b. cond b (line ∷ take_while is_good lines) []) bad)

-- what one good line asks is the first that it and others ask
pub requests_first : (line : Line) (lines : List Line) → is_good line ≡ true
    → requests_of (line ∷ lines) ≡ requests_of (line ∷ []) ++ requests_of lines
requests_first line lines good = requests_append (line ∷ []) lines (ap (λ b. b && true) good)
