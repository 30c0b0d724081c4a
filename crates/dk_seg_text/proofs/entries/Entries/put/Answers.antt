use Rattle.dk_seg_text.proofs.EntryLemmas.{short_at}
use Rattle.dk_seg_text.proofs.entries.Entries.put.Goals as goal

pub put_entry-requires : goal.put_entry-requires
put_entry-requires c = rw c.get.ensures (short_at c.args.self.now c.texts.code c.requires)
