use Rattle.std.proofs.Common.{◌≡◌, ◌++◌, length, sym, ap, ◌∙◌, subst, arith}
use Rattle.std.specs.Option.{option_to_list}
use Rattle.std.proofs.lemmas.List.{nil_from_length}
use Rattle.dk_turns.proofs.GatherLemmas.{Gathering, gather_first, gather_more, gather_end, next_is}
use Rattle.dk_turns.proofs.LifecycleLemmas.{joins}
use Rattle.dk_turns.proofs.lifecycle.gather.Goals as goal

pub loop-pass-init : goal.loop-pass-init
loop-pass-init g c =
    let items = c.pop.ensures.items ∙ ap (λ o. c.pop.new.self.items ++ option_to_list o) c.in-Some.is in
    let seat = c.into_seat-keeper.ensures in
    let first = gather_first c.args.board.now.table_id c.pop.new.self.items c.args.passes.items c.in-Some.first
    c.into_seat-keeper.result.me items c.requires.idle (sym seat.2) seat.1 in
    subst (λ t. Gathering c.args.board.now.table_id c.args.passes.items c.pop.new.self.items t
    c.into_seat-keeper.result.me) (sym seat.0) first

pub join_seat-requires : goal.join_seat-requires
join_seat-requires g c =
    let items = c.pop-in-loop-pass.ensures.items
    ∙ ap (λ o. c.pop-in-loop-pass.new.self.items ++ option_to_list o) c.in-Some-pop.is in
    let i = c.loop-pass.invariant in
    let next = next_is c.args.board.now.table_id c.loop-pass.keeper.table_id c.pop-in-loop-pass.new.self.items
    c.args.passes.items c.in-Some-pop.pass c.loop-pass.keeper.me
    (subst (λ l. Gathering c.args.board.now.table_id c.args.passes.items l c.loop-pass.keeper.table_id
    c.loop-pass.keeper.me) items i) in
    let seat = c.into_seat.ensures in (
      i.table_is,
      seat.0 ∙ next.0,
      seat.1.0,
      omega (arith, c.requires.board.0),
      joins _ _ (g.S.Shared.holds _) g.S.Shared.lasts c.loop-pass.keeper.id c.loop-pass.keeper.me.0
          c.into_seat.result.id c.into_seat.result.me.0 i.idle.1 seat.1.1 (ap (λ v. v.held) seat.2 ∙ next.1),
    )

pub loop-pass-preserved : goal.loop-pass-preserved
loop-pass-preserved g c =
    let items = c.pop-in-loop-pass.ensures.items
    ∙ ap (λ o. c.pop-in-loop-pass.new.self.items ++ option_to_list o) c.in-Some-pop.is in
    let seat = c.into_seat.ensures in
    let joined = c.join_seat.ensures in
    gather_more c.args.board.now.table_id c.loop-pass.keeper.table_id c.join_seat.new.seat.table_id
    c.pop-in-loop-pass.new.self.items c.loop-pass.passes.items c.args.passes.items c.in-Some-pop.pass
    c.loop-pass.keeper.me c.join_seat.new.seat.me c.into_seat.result.me.0 items c.loop-pass.invariant (sym seat.2)
    joined.0 joined.2

pub returns-clause-last : goal.returns-clause-last
returns-clause-last g c =
    let i = c.loop-pass.invariant in
    let none = rw c.in_default-pop.is at c.pop-in-loop-pass.ensures.cases in
    let empty : length c.loop-pass.passes.items ≡ 0 = omega (arith, none.0, c.loop-pass.passes.ok.0) in (
      i.table_is,
      gather_end c.args.board.now.table_id c.loop-pass.keeper.table_id c.args.passes.items c.loop-pass.keeper.me
          c.requires.whole
          (subst (λ l. Gathering c.args.board.now.table_id c.args.passes.items l c.loop-pass.keeper.table_id
          c.loop-pass.keeper.me) (nil_from_length c.loop-pass.passes.items empty) i),
    )
