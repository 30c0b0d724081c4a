use Rattle.std.proofs.Common.{List, Bool, length, ap, ◌∙◌, arith}
use Rattle.std.specs.Prelude.{slice_set}
use Rattle.dk_columns.proofs.MaskLemmas.{flags_len, same_flags, set_flags, on_err}
use Rattle.dk_columns.proofs.mask.Mask.set.Goals as goal

pub returns-in_err-mark-clause-err : goal.returns-in_err-mark-clause-err
returns-in_err-mark-clause-err c =
    on_err _ (same_flags c.self.inside.len c.self.inside.words.items c.mark.new.words.items (λ j lt. c.in_err-mark.ensures.err j) ∙ c.self.view_is)

pub returns-clause-ok : goal.returns-clause-ok
returns-clause-ok c =
    let e = ap (λ (bs : List Bool). length bs) c.self.view_is in
    set_flags c.self.inside.len c.self.inside.words.items c.mark.new.words.items c.args.i c.args.set (omega (arith, c.requires, e, flags_len c.self.inside.len c.self.inside.words.items)) c.in_ok-mark.ensures.here c.in_ok-mark.ensures.others
    ∙ ap (λ (bs : List Bool). slice_set bs c.args.i c.args.set) c.self.view_is

pub invariant_of-self-2 : goal.invariant_of-self-2
invariant_of-self-2 c i le =
    let e = ap (λ (bs : List Bool). length bs) c.self.view_is in
    c.in_ok-mark.ensures.others i (λ r. omega (arith, r, le, c.requires, e, flags_len c.self.inside.len c.self.inside.words.items)) ∙ c.self.invariant i le
