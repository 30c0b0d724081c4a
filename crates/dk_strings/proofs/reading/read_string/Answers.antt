-- The reading is that of the grammar.
use Rattle.dk_device.specs.declared.device.FileId.TheVariants.{Main}
use Rattle.dk_strings.proofs.ReadingLemmas.{string_found, string_only}
use Rattle.dk_strings.proofs.reading.read_string.Goals as goal

pub returns-clause-found : goal.returns-clause-found
returns-clause-found g c = string_found (g.D.Disk.content c.args.disk.now Main) c.args.string c.args.man.now.used
    c.read_chain.result c.read_chain.ensures.exact

pub returns-clause-only : goal.returns-clause-only
returns-clause-only g c = string_only (g.D.Disk.content c.args.disk.now Main) c.args.string c.args.man.now.used
    c.read_chain.result c.read_chain.ensures.exact
