use Rattle.std.proofs.Common.{ap, ◌∙◌, ◌<◌, ◌^◌, take, length, rules}
use Rattle.dk_bytes.proofs.AppendLemmas.{kept_in_front, kept_then}
use Rattle.dk_seg_text.proofs.CodeLemmas.{codes_fit}
use Rattle.dk_seg_text.proofs.dictionary.put_codes.Goals as goal

pub pack-requires-clause-numbers : goal.pack-requires-clause-numbers
pack-requires-clause-numbers c =
    let fits : c.args.entry_count < 2 ^ 64 = search rules in
    codes_fit c.args.entry_count _ _ fits c.code_width-width.ensures.value c.requires

pub returns-clause-kept : goal.returns-clause-kept
returns-clause-kept c =
    kept_then _ c.put_u8.new.out.items _ (ap (take (length c.args.out.now.items)) c.in_ok-put_u8.ensures.ok ∙ kept_in_front _ _) c.pack.ensures.kept
