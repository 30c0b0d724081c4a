use Rattle.std.proofs.Common.{ap, ◌∙◌, List, ℕ, not}
use Rattle.dk_seg_text.specs.Dictionary.{is_entry}
use Rattle.dk_seg_text.proofs.TextLemmas.{seen_keys, seen_any}
use Rattle.dk_seg_text.proofs.entries.Entries.add_new.Goals as goal

pub returns-clause-entries : goal.returns-clause-entries
returns-clause-entries c = seen_keys (λ t. t.now) c.self.inside.texts.keys c.insert_full.new.self.keys c.args.text _ c.self.view_is c.in-Ok.ensures.keys

pub returns-clause-fresh : goal.returns-clause-fresh
returns-clause-fresh c =
    c.in-Ok.ensures.added
    ∙ ap not (seen_any (λ t. t.now) c.self.inside.texts.keys c.args.text.now ∙ ap (λ (es : List (List ℕ)). is_entry es c.args.text.now) c.self.view_is)
