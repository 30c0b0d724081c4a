use Rattle.std.proofs.Common.{◌∙◌, List, ℕ, ap, sym}
use Rattle.std.proofs.lemmas.Result.{IfOk-weaker}
use Rattle.dk_segment.specs.Masked.{flagged}
use Rattle.dk_segment.proofs.MaskedLemmas.{are_flags, are_few, segment_is}
use Rattle.dk_segment.proofs.writing.encode_masked.Goals as goal

pub spell_masked-requires-clause-flags : goal.spell_masked-requires-clause-flags
spell_masked-requires-clause-flags c =
    are_flags c.args.cells.now.kind c.args.cells.now.values _ c.args.numbers.now _ c.requires.column c.requires.numeric c.requires.numbers c.present.ensures (c.deref-2.ensures.value ∙ c.in_ok-flags.ensures)

pub spell_masked-requires-clause-few : goal.spell_masked-requires-clause-few
spell_masked-requires-clause-few c =
    let found = c.deref-3.ensures.value ∙ c.in_ok-found.ensures ∙ ap (λ (fs : List ℕ). flagged fs c.args.numbers.now) (c.deref.ensures.value ∙ sym c.deref-2.ensures.value) in
    rw c.kind.ensures (are_few c.args.cells.now.kind c.args.cells.now.values _ c.args.numbers.now _ c.requires.column c.requires.numeric c.requires.numbers c.present.ensures (c.deref-2.ensures.value ∙ c.in_ok-flags.ensures) _ found)

pub returns : goal.returns
returns c =
    let found = c.deref-3.ensures.value ∙ c.in_ok-found.ensures ∙ ap (λ (fs : List ℕ). flagged fs c.args.numbers.now) (c.deref.ensures.value ∙ sym c.deref-2.ensures.value) in
    IfOk-weaker c.spell_masked.result _ _
    (λ v h. segment_is c.args.cells.now.kind c.args.cells.now.values _ c.args.numbers.now _ c.requires.column c.requires.numeric c.requires.numbers c.present.ensures (c.deref-2.ensures.value ∙ c.in_ok-flags.ensures) _ found v.items h)
    (rw c.kind.ensures at c.spell_masked.ensures)
