use Rattle.std.proofs.Common.{arith, ◌+◌, ◌-◌}
use Rattle.dk_seg_text.proofs.TextLemmas.{one_entry}
use Rattle.dk_seg_text.proofs.dictionary.read_entries.Goals as goal

pub entries-preserved : goal.entries-preserved
entries-preserved c = record {
  told = one_entry (c.args.count - c.entries.counter) (c.args.count - (c.entries.counter + 1)) _ _ _ _ _ (omega (arith, c.entries-test.true)) c.in_ok-read_entry.ensures c.entries.invariant.told;
  within = omega arith;
}
