use Rattle.std.proofs.Common.{arith, sym, ◌∙◌}
use Rattle.std.proofs.lemmas.Bool.{eqb-true}
use Rattle.dk_columns.proofs.MaskLemmas.{whole}
use Rattle.dk_columns.proofs.mask.Mask.is_whole.Goals as goal

pub returns : goal.returns
returns c t =
    let none = eqb-true _ _ (sym c.is_empty.ensures ∙ t) in
    whole c.self.inside.len c.self.inside.words.items c.args.self.now (omega (arith, none, c.self.inside.words.ok.0)) c.self.view_is
