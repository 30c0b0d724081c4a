-- Groups that are cut out of sorted lines.
use Rattle.std.proofs.Common.{◌≡◌, ℕ, suc, ◌+◌, ◌-◌, ◌<◌, true, false, List, [], ◌∷◌, ◌++◌, length, get_or, take, drop, refl, ap, ◌∙◌, arith}
use Rattle.std.proofs.Math.Seq.{take-suc, drop-cons}
use Rattle.std.proofs.lemmas.List.{get_or-drop, length-drop, take_all, drop_all}
use Rattle.dk_query.specs.declared.lines.Line.{Line}
use Rattle.dk_query.specs.declared.order.SortKey.{SortKey}
use Rattle.dk_query.specs.Groups.{joins, groups_behind}

-- the lines of the group that has begun
abbrev begun : List Line → ℕ → ℕ → List Line
begun lines start at = take (at - start) (drop start lines)

begun_more : (lines : List Line) (start at : ℕ) (line : Line) → start < at → at < length lines → get_or lines at line ≡ line
    → begun lines start (at + 1) ≡ begun lines start at ++ line ∷ []
begun_more lines start at line below within is =
    let far : at - start < length (drop start lines) = omega (arith, length-drop start lines) in
    let next : at + 1 - start ≡ suc (at - start) = omega arith in
    let place : start + (at - start) ≡ at = omega arith in
    ap (λ n. take n (drop start lines)) next
    ∙ take-suc (drop start lines) (at - start) line far
    ∙ ap (λ x. begun lines start at ++ x ∷ []) (get_or-drop start lines (at - start) line ∙ ap (λ n. get_or lines n line) place ∙ is)

-- what begins at a place
pub rest_is : {T : Type 0} (lines : List T) (at : ℕ) (line : T) → at < length lines → get_or lines at line ≡ line
    → drop at lines ≡ line ∷ drop (at + 1) lines
rest_is lines at line within is =
    let next : suc at ≡ at + 1 = omega arith in
    drop-cons lines at line within ∙ ap (λ x. x ∷ drop (suc at) lines) is ∙ ap (λ n. line ∷ drop n lines) next

begun_new : (lines : List Line) (at : ℕ) (line : Line) → at < length lines → get_or lines at line ≡ line
    → begun lines at (at + 1) ≡ line ∷ []
begun_new lines at line within is =
    let one : at + 1 - at ≡ 1 = omega arith in
    ap (λ n. take n (drop at lines)) one ∙ ap (take 1) (rest_is lines at line within is)

-- a line that joins the group that has begun
pub joined : (keys : List SortKey) (lines : List Line) (start at : ℕ) (line : Line) → start < at → at < length lines
    → get_or lines at line ≡ line → joins keys (begun lines start at) line ≡ true
    → groups_behind keys (begun lines start (at + 1)) (drop (at + 1) lines) ≡ groups_behind keys (begun lines start at) (drop at lines)
joined keys lines start at line below within is same =
    rw (rest_is lines at line within is, same, begun_more lines start at line below within is) refl

-- a line that begins a group
pub begins : (keys : List SortKey) (lines : List Line) (start at : ℕ) (line : Line) → at < length lines
    → get_or lines at line ≡ line → joins keys (begun lines start at) line ≡ false
    → begun lines start at ∷ groups_behind keys (begun lines at (at + 1)) (drop (at + 1) lines) ≡ groups_behind keys (begun lines start at) (drop at lines)
begins keys lines start at line within is other =
    rw (begun_new lines at line within is, rest_is lines at line within is, other) refl

-- the last group
pub ends : (keys : List SortKey) (lines : List Line) (start at : ℕ) → at ≡ length lines
    → groups_behind keys (begun lines start at) (drop at lines) ≡ drop start lines ∷ []
ends keys lines start at last =
    let all : take (at - start) (drop start lines) ≡ drop start lines = take_all (at - start) (drop start lines) (omega (arith, length-drop start lines)) in
    let none : drop at lines ≡ [] = ap (λ n. drop n lines) last ∙ drop_all (length lines) lines (omega arith) in
    rw (all, none) refl
