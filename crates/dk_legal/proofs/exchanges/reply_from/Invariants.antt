-- The other entries decide, from their place on.
use Rattle.std.proofs.Common.{◌≡◌, ◌+◌, drop}
use Rattle.dk_si.specs.Exchanges.{reply_from}
use Rattle.dk_legal.proofs.exchanges.reply_from.Given as goal

abbrev pub invariant-loop-entry : goal.invariant-loop-entry
invariant-loop-entry l = (l.at ≡ l.place + l.entry-index) × (reply_from l.session l.at (drop l.entry-index l.entries)
    ≡ reply_from l.session l.place l.entries)
