use Rattle.std.proofs.Common.{◌+◌, ◌*◌, Option, ap, ◌∙◌, sym, subst}
use Rattle.std.specs.Prelude.{IfErr}
use Rattle.dk_stamp.specs.Sees.{sees}
use Rattle.dk_vector.specs.declared.vector.Blocked.{Blocked}
use Rattle.dk_vector.specs.Vectors.{first_blocked, against_in}
use Rattle.dk_group.specs.Groups.{GroupRows, IsTopAt, same, changing, blocked_in, IsError}
use Rattle.dk_group.proofs.GroupLemmas.{at_view, new_is, old_is, told_ok, told_err, told_refusal}
use Rattle.dk_group.proofs.group.Group.change.Goals as goal

pub returns-clause-ok : goal.returns-clause-ok
returns-clause-ok c =
    told_ok _ c.change_vector-done.result c.tell.result c.tell.ensures
    (at_view c.args.at (changing c.args.snapshot.now.id c.args.rows.now c.args.values.now) c.self.inside.first c.self.inside.settled c.self.inside.vectors.items c.index_mut.result.now c.change_vector-done.new.vector c.args.self.now c.self.view_is c.requires.vector c.index_mut.ensures.value)
    c.change_vector-done.ensures.ok

pub returns-clause-top : goal.returns-clause-top
returns-clause-top c =
    let id = c.args.snapshot.now.id in
    let items = c.self.inside.vectors.items in
    let is = old_is c.args.at c.self.inside.first c.self.inside.settled items c.index_mut.result.now c.args.self.now c.self.view_is c.requires.vector c.index_mut.ensures.value in
    told_ok _ c.change_vector-done.result c.tell.result c.tell.ensures
    (λ top before. subst (IsTopAt id) (sym (new_is c.args.at c.self.inside.first c.self.inside.settled items c.change_vector-done.new.vector c.args.self.now c.self.view_is c.requires.vector))
    (top (subst (IsTopAt id) is before)))
    c.change_vector-done.ensures.top

pub returns-clause-err : goal.returns-clause-err
returns-clause-err c =
    told_err _ c.change_vector-done.result c.tell.result c.tell.ensures
    (at_view c.args.at same c.self.inside.first c.self.inside.settled c.self.inside.vectors.items c.index_mut.result.now c.change_vector-done.new.vector c.args.self.now c.self.view_is c.requires.vector c.index_mut.ensures.value)
    c.change_vector-done.ensures.err

pub returns-clause-free : goal.returns-clause-free
returns-clause-free c =
    let seen = sees c.args.snapshot.now in
    let is = old_is c.args.at c.self.inside.first c.self.inside.settled c.self.inside.vectors.items c.index_mut.result.now c.args.self.now c.self.view_is c.requires.vector c.index_mut.ensures.value in
    told_ok _ c.change_vector-done.result c.tell.result c.tell.ensures (λ none. ap (blocked_in seen c.args.rows.now) is ∙ none) c.change_vector-done.ensures.free

pub returns-clause-refused : goal.returns-clause-refused
returns-clause-refused c =
    let seen = sees c.args.snapshot.now in
    let old = c.index_mut.result.now in
    let is = old_is c.args.at c.self.inside.first c.self.inside.settled c.self.inside.vectors.items old c.args.self.now c.self.view_is c.requires.vector c.index_mut.ensures.value in
    subst (λ (o : Option Blocked). IfErr c.tell.result (IsError (c.args.self.now.first + 2048 * c.args.at) o)) (sym (ap (blocked_in seen c.args.rows.now) is))
    (subst (λ (g : GroupRows). IfErr c.tell.result (IsError (g.first + 2048 * c.args.at) (first_blocked (against_in seen old) c.args.rows.now))) c.self.view_is
    (told_refusal (c.self.inside.first + 2048 * c.args.at) (first_blocked (against_in seen old) c.args.rows.now) c.change_vector-done.result c.tell.result c.tell.ensures c.change_vector-done.ensures.refused))
