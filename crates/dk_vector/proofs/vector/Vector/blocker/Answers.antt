use Rattle.std.proofs.Common.{◌≡◌, ap, ◌∙◌, sym, subst, true}
use Rattle.std.specs.Prelude.{slice_get}
use Rattle.dk_stamp.specs.Sees.{sees}
use Rattle.dk_chain.specs.Nodes.{nodes_at}
use Rattle.dk_vector.specs.Stacks.{blocker, is_there, stamp_against, unseen_deletion, unseen_stamp}
use Rattle.dk_vector.specs.Vectors.{VectorRows, stack_at, base_at}
use Rattle.dk_vector.proofs.ReadLemmas.{blocker_is}
use Rattle.dk_vector.proofs.vector.Vector.blocker.Goals as goal

pub returns : goal.returns
returns c =
    let row = c.args.row in
    let seen = sees c.args.snapshot.now in
    let there = subst (λ (v : VectorRows). is_there seen (stack_at v row) ≡ true) (sym c.self.view_is) c.requires.there in
    let told =
    c.stamp_against.ensures ∙ ap (λ d. stamp_against d c.unseen_stamp.result) c.unseen_delete-deleted.ensures
    ∙ ap (stamp_against (unseen_deletion seen c.get.result.deleted)) (c.unseen_stamp.ensures ∙ ap (unseen_stamp seen) c.newest.ensures) in
    blocker_is seen c.get.result (slice_get c.self.inside.stamps.rows row) (base_at row c.self.inside.base) (nodes_at row c.self.inside.chain) c.stamp_against.result
    c.requires.never c.get.ensures there told
    ∙ ap (λ (v : VectorRows). blocker seen (stack_at v row)) c.self.view_is
