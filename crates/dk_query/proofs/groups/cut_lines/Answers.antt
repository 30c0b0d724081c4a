use Rattle.std.proofs.Common.{arith, ◌≡◌, ℕ, List, length, ◌∙◌, ◌∷◌, ◌++◌, [], ap, sym, map, take, drop, ◌+◌, ◌-◌, append_assoc}
use Rattle.dk_query.specs.Groups.{group_line, groups_behind}
use Rattle.std.proofs.lemmas.List.{take_all, length-drop}
use Rattle.dk_query.specs.declared.lines.Line.{Line}
use Rattle.dk_query.proofs.GroupLemmas.{joined, begins, ends}
use Rattle.dk_query.proofs.groups.cut_lines.Goals.{then-not-joins+in_ok-push_group, else-not-joins}
use Rattle.dk_query.proofs.groups.cut_lines.Goals as goal

pub lines-preserved : goal.lines-preserved
lines-preserved c =
    let keys = c.args.keys.now in
    let lines = c.args.lines.now in
    let shown = group_line c.args.items.now in
    let found = c.lines.found.items in
    let next : ℕ → List (List Line) = λ start. groups_behind keys (take (c.lines.at + 1 - start) (drop start lines)) (drop (c.lines.at + 1) lines) in
    elim c.if-not-joins.branch [
      | then-not-joins+in_ok-push_group w ↦ rw (w.start-is, w.found-is) (record {
        begun = omega arith;
        within = omega (arith, c.lines-test.true);
        all = ap (λ done. done ++ map shown (next c.lines.at)) w.in_ok-push_group.ensures
            ∙ append_assoc found (shown (take (c.lines.at - c.lines.start) (drop c.lines.start lines)) ∷ []) (map shown (next c.lines.at))
            ∙ ap (λ groups. found ++ map shown groups) (begins keys lines c.lines.start c.lines.at c.index-lines-at.result
            c.lines-test.true (sym c.index-lines-at.is) (sym c.joins.ensures ∙ w.if-not-joins.true))
            ∙ c.lines.invariant.all;
      })
      | else-not-joins w ↦ rw (w.start-is, w.found-is) (record {
        begun = omega (arith, c.lines.invariant.begun);
        within = omega (arith, c.lines-test.true);
        all = ap (λ groups. found ++ map shown groups) (joined keys lines c.lines.start c.lines.at c.index-lines-at.result
            c.lines.invariant.begun c.lines-test.true (sym c.index-lines-at.is) (sym c.joins.ensures ∙ w.if-not-joins.false))
            ∙ c.lines.invariant.all;
      })
    ]

pub returns : goal.returns
returns c =
    let lines = c.args.lines.now in
    let shown = group_line c.args.items.now in
    let found = c.lines.found.items in
    let last : c.lines.at ≡ length lines = omega (arith, c.lines.invariant.within, c.lines-test.false) in
    c.in_ok-push_group-2.ensures
    ∙ ap (λ group. found ++ shown group ∷ []) (take_all (length lines - c.lines.start) (drop c.lines.start lines)
    (omega (arith, length-drop c.lines.start lines)))
    ∙ ap (λ groups. found ++ map shown groups) (sym (ends c.args.keys.now lines c.lines.start c.lines.at last))
    ∙ c.lines.invariant.all
