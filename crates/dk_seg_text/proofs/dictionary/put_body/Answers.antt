use Rattle.std.proofs.Common.{ap, ◌∙◌, take, length, map}
use Rattle.dk_bytes.proofs.AppendLemmas.{kept_in_front, kept_then}
use Rattle.std.proofs.lemmas.Result.{on_ok_weaker}
use Rattle.dk_bytes.specs.PlainValue.{present}
use Rattle.dk_seg_text.specs.Dictionary.{text_of}
use Rattle.dk_seg_text.proofs.CodeLemmas.{all_codes_below}
use Rattle.dk_seg_text.proofs.MeasureLemmas.{body_joined}
use Rattle.dk_seg_text.proofs.RoundTripLemmas.{entries_short}
use Rattle.dk_seg_text.proofs.dictionary.put_body.Goals as goal

pub put_codes-requires : goal.put_codes-requires
put_codes-requires c =
    all_codes_below (map text_of (present c.args.values.now)) c.in_ok-entries.entries c.deref.result.now c.len-2.result c.in_ok-entries.ensures.entries (c.deref.ensures.value ∙ c.in_ok-entries.ensures.codes) c.len-2.ensures

pub returns-clause-ok : goal.returns-clause-ok
returns-clause-ok c =
    on_ok_weaker _
    (body_joined (map text_of (present c.args.values.now)) c.in_ok-entries.entries c.deref.result.now c.len.result c.len-2.result c.args.out.now.items c.put_u16.new.out.items c.put.new.out.items c.put_codes.new.out.items
    c.in_ok-entries.ensures.entries (c.deref.ensures.value ∙ c.in_ok-entries.ensures.codes) c.len.ensures c.len-2.ensures c.in_ok-put_u16.ensures.ok c.in_ok-put.ensures.ok)
    c.put_codes.ensures.ok

pub returns-clause-kept : goal.returns-clause-kept
returns-clause-kept c =
    kept_then _ c.put.new.out.items _
    (kept_then _ c.put_u16.new.out.items _ (ap (take (length c.args.out.now.items)) c.in_ok-put_u16.ensures.ok ∙ kept_in_front _ _) c.put.ensures.kept)
    c.put_codes.ensures.kept

pub put-requires : goal.put-requires
put-requires c = rw c.in_ok-entries.ensures.entries (entries_short (present c.args.values.now) c.requires.plain)

pub returns-in_err-put-clause-kept : goal.returns-in_err-put-clause-kept
returns-in_err-put-clause-kept c =
    kept_then _ c.put_u16.new.out.items _
    (ap (take (length c.args.out.now.items)) c.in_ok-put_u16.ensures.ok ∙ kept_in_front _ _) c.put.ensures.kept
