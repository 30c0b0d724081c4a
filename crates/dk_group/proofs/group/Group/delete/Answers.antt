use Rattle.std.proofs.Common.{◌+◌, ◌*◌, Option, ap, ◌∙◌, sym, subst}
use Rattle.std.specs.Prelude.{IfErr}
use Rattle.dk_stamp.specs.Sees.{sees}
use Rattle.dk_vector.specs.declared.vector.Blocked.{Blocked}
use Rattle.dk_vector.specs.Vectors.{first_blocked, against_in}
use Rattle.dk_group.specs.Groups.{GroupRows, ArePlacedAt, erasing, blocked_in, IsError}
use Rattle.dk_group.proofs.GroupLemmas.{at_view, new_is, tops_view, same_tops, old_is, told_ok, told_refusal}
use Rattle.dk_group.proofs.group.Group.delete.Goals as goal

pub returns-clause-ok : goal.returns-clause-ok
returns-clause-ok c =
    told_ok _ c.erase_vector-done.result c.tell.result c.tell.ensures
    (at_view c.args.at (erasing c.args.snapshot.now.id c.args.rows.now) c.self.inside.first c.self.inside.settled c.self.inside.vectors.items c.index_mut.result.now c.erase_vector-done.new.vector c.args.self.now c.self.view_is c.requires.vector c.index_mut.ensures.value)
    c.erase_vector-done.ensures.ok

pub returns-clause-placed : goal.returns-clause-placed
returns-clause-placed c =
    told_ok _ c.erase_vector-done.result c.tell.result c.tell.ensures
    (subst (ArePlacedAt c.args.rows.now) (sym (new_is c.args.at c.self.inside.first c.self.inside.settled c.self.inside.vectors.items c.erase_vector-done.new.vector c.args.self.now c.self.view_is c.requires.vector)))
    c.erase_vector-done.ensures.placed

pub returns-clause-tops : goal.returns-clause-tops
returns-clause-tops c =
    told_ok _ c.erase_vector-done.result c.tell.result c.tell.ensures
    (λ nodes. tops_view c.args.at c.self.inside.first c.self.inside.settled c.self.inside.vectors.items c.index_mut.result.now c.erase_vector-done.new.vector c.args.self.now c.self.view_is c.requires.vector c.index_mut.ensures.value
    (same_tops c.index_mut.result.now c.erase_vector-done.new.vector nodes))
    c.erase_vector-done.ensures.nodes

pub returns-clause-free : goal.returns-clause-free
returns-clause-free c =
    let seen = sees c.args.snapshot.now in
    let is = old_is c.args.at c.self.inside.first c.self.inside.settled c.self.inside.vectors.items c.index_mut.result.now c.args.self.now c.self.view_is c.requires.vector c.index_mut.ensures.value in
    told_ok _ c.erase_vector-done.result c.tell.result c.tell.ensures (λ none. ap (blocked_in seen c.args.rows.now) is ∙ none) c.erase_vector-done.ensures.free

pub returns-clause-refused : goal.returns-clause-refused
returns-clause-refused c =
    let seen = sees c.args.snapshot.now in
    let old = c.index_mut.result.now in
    let is = old_is c.args.at c.self.inside.first c.self.inside.settled c.self.inside.vectors.items old c.args.self.now c.self.view_is c.requires.vector c.index_mut.ensures.value in
    subst (λ (o : Option Blocked). IfErr c.tell.result (IsError (c.args.self.now.first + 2048 * c.args.at) o)) (sym (ap (blocked_in seen c.args.rows.now) is))
    (subst (λ (g : GroupRows). IfErr c.tell.result (IsError (g.first + 2048 * c.args.at) (first_blocked (against_in seen old) c.args.rows.now))) c.self.view_is
    (told_refusal (c.self.inside.first + 2048 * c.args.at) (first_blocked (against_in seen old) c.args.rows.now) c.erase_vector-done.result c.tell.result c.tell.ensures c.erase_vector-done.ensures.refused))
