use Rattle.std.proofs.Common.{take, length, ◌-◌}
use Rattle.dk_vector.specs.Pages.{seen_by, IsPutBack}
use Rattle.dk_vector.proofs.pages.write_back.Given as goal

abbrev pub invariant-nodes : goal.invariant-nodes
invariant-nodes l = IsPutBack (seen_by l.reader) l.chain (take (length l.chain - l.k) l.chain) l.fn.rows l.rows
