use Rattle.std.proofs.Common.{ap, ◌∙◌, List, ℕ}
use Rattle.dk_seg_text.specs.Dictionary.{code_of}
use Rattle.dk_seg_text.proofs.TextLemmas.{seen_keys, seen_code}
use Rattle.dk_seg_text.proofs.entries.Entries.add.Goals as goal

pub returns-clause-entries : goal.returns-clause-entries
returns-clause-entries c = seen_keys (λ t. t.now) c.self.inside.texts.keys c.insert_full.new.self.keys c.args.text _ c.self.view_is c.in-Ok.ensures.keys

pub returns-clause-code : goal.returns-clause-code
returns-clause-code c = c.in-Ok.ensures.index ∙ seen_code (λ t. t.now) c.self.inside.texts.keys c.args.text.now ∙ ap (λ (es : List (List ℕ)). code_of es c.args.text.now) c.self.view_is
