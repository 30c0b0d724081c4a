use Rattle.std.proofs.Common.{sym, ◌∙◌}
use Rattle.std.specs.Prelude.{Some}
use Rattle.dk_turns.proofs.LifecycleLemmas.{all_home}
use Rattle.dk_turns.proofs.HistoryLemmas.{history}
use Rattle.dk_turns.proofs.turns.Turns.close.Goals as goal

pub unload-requires-clause-home : goal.unload-requires-clause-home
unload-requires-clause-home g c =
    let end = c.close_with-closed.ensures.values.2 in
    let homes = all_home _ _ _ _ end.0 c.gather-keeper.result.id c.gather-keeper.result.me.0
    c.gather-keeper.ensures.last.1 end.1 in
    (sym end.3 ∙ end.1.0.homes_are, λ k h. let p = homes k h in (p.0, end.4 k (Some p.0) p.1))

pub returns : goal.returns
returns g c =
    let end = c.close_with-closed.ensures.values.2 in
    record {
      history = rw (← c.self.view_is)
          (history _ _ (g.S.Shared.holds c.self.inside.table.shared.key) g.S.Shared.lasts end.0
          c.gather-keeper.result.id c.gather-keeper.result.me.0 c.gather-keeper.ensures.last.1 end.1
          c.args.passes.items c.requires.whole c.gather-keeper.ensures.joined c.unload.new.parts.items _
          c.unload.ensures.parts end.3 end.4);
    }
