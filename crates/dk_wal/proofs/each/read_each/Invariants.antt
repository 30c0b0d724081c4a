use Rattle.std.proofs.Common.{◌≡◌, ◌-◌, ◌≤◌, []}
use Rattle.dk_bytes.specs.Reading.{AllFollow, list_at}
use Rattle.dk_wal.proofs.each.read_each.Given as goal

abbrev pub invariant-things : goal.invariant-things
invariant-things g l = record {
  told : list_at (g.T.Next.read_at l.context) (l.count - l.counter) l.things.items l.cursor ≡ list_at (g.T.Next.read_at l.context) l.count [] l.fn.cursor;
  within : l.counter ≤ l.count;
  follow : AllFollow g.T.Next.fits_behind [] l.things.items;
}
