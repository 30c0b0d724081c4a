-- The tables behind all commits and one more.
use Rattle.std.proofs.Common.{rules, ◌≡◌, ◌++◌, ap, ◌∙◌, List}
use Rattle.std.specs.Prelude.{option_to_list}
use Rattle.dk_types.specs.declared.net.Commit.{Commit}
use Rattle.dk_si.specs.declared.machine.Transaction.{Transaction}
use Rattle.dk_si.specs.Weight.{cap}
use Rattle.dk_plain_engine.specs.Now.{entered, rows_entered}
use Rattle.dk_plain_engine.specs.Outcomes.{commit_of}
use Rattle.dk_plain_engine.specs.Still.{transaction_of}
use Rattle.dk_plain_engine.proofs.NowLemmas.{entered_all, rows_all}
use Rattle.dk_plain_engine.proofs.engine.Engine.carry.Goals as goal

pub invariant_of-self-in-Ok : goal.invariant_of-self-in-Ok
invariant_of-self-in-Ok c =
    let effect = c.args.outcome.effect in
    let old = c.self.inside in
    let sessions = old.sessions.items in
    let now = c.carry_reserved.new.commits.items in
    let own = c.transaction_of-transaction.result.now in
    let same : own ≡ transaction_of sessions c.args.number = search rules in
    let commit = commit_of (transaction_of sessions c.args.number) effect in
    let is : c.reserve.new.tables.items ≡ entered commit old.tables.items =
    c.in-Ok.ensures.ok ∙ ap (λ (t : Transaction). entered (commit_of t effect) old.tables.items) same in
    let rows : c.effect_rows-rows.result ≡ cap (rows_entered commit) =
    c.effect_rows-rows.ensures ∙ ap (λ (t : Transaction). cap (rows_entered (commit_of t effect))) same in
    let more : now ≡ old.commits.items ++ option_to_list commit =
    c.carry_reserved.ensures.commits ∙ ap (λ (list : List Commit). list ++ option_to_list commit) c.reserve.ensures.commits in (
      search rules,
      search rules,
      (
        entered_all commit old.commits.items now old.tables.items c.reserve.new.tables.items is c.self.invariant.2.0 more,
        rows_all commit old.commits.items now old.rows c.effect_rows-rows.result c.saturating_add-self-inside.result
            c.saturating_add-self-inside.ensures c.self.invariant.2.1 rows more,
      ),
    )
