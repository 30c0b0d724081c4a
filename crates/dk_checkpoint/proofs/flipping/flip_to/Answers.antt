-- The flip ends where the first of its calls fails.
use Rattle.dk_checkpoint.proofs.FlipLemmas.{unclosed, unwritten, unopened, flipped}
use Rattle.dk_checkpoint.proofs.flipping.flip_to.Goals as goal

pub returns-in-Err-clause-flips : goal.returns-in-Err-clause-flips
returns-in-Err-clause-flips g c =
    unclosed g.D.Disk c.args.twin c.requires.twin c.args.was_open
    (record { iteration = c.args.iteration; root = c.args.root; blocks = c.args.blocks })
    (record { iteration = c.ranges.iteration.fits; root = c.ranges.root.fits; blocks = c.ranges.blocks.fits })
    c.args.disk.now c.flip_close.new.disk c.requires.headers c.in-Err.field-0 c.in-Err.ensures.closes

pub returns-in-Err-flip_body-clause-flips : goal.returns-in-Err-flip_body-clause-flips
returns-in-Err-flip_body-clause-flips g c =
    unwritten g.D.Disk c.args.twin c.requires.twin c.args.was_open
    (record { iteration = c.args.iteration; root = c.args.root; blocks = c.args.blocks })
    (record { iteration = c.ranges.iteration.fits; root = c.ranges.root.fits; blocks = c.ranges.blocks.fits })
    c.args.disk.now c.flip_close.new.disk c.requires.headers c.flip_body.new.disk c.in-Ok.ensures.closes
    c.in-Err-flip_body.field-0 c.in-Err-flip_body.ensures.writes

pub returns-in-Err-flip_open-clause-flips : goal.returns-in-Err-flip_open-clause-flips
returns-in-Err-flip_open-clause-flips g c =
    unopened g.D.Disk c.args.twin c.requires.twin c.args.was_open
    (record { iteration = c.args.iteration; root = c.args.root; blocks = c.args.blocks })
    (record { iteration = c.ranges.iteration.fits; root = c.ranges.root.fits; blocks = c.ranges.blocks.fits })
    c.args.disk.now c.flip_close.new.disk c.requires.headers c.flip_body.new.disk c.in-Ok.ensures.closes
    c.flip_open.new.disk c.in-Ok-flip_body.ensures.writes c.in-Err-flip_open.field-0
    c.in-Err-flip_open.ensures.opens

pub returns-in-Ok-flip_open-clause-flips : goal.returns-in-Ok-flip_open-clause-flips
returns-in-Ok-flip_open-clause-flips g c =
    flipped g.D.Disk c.args.twin c.requires.twin c.args.was_open
    (record { iteration = c.args.iteration; root = c.args.root; blocks = c.args.blocks })
    (record { iteration = c.ranges.iteration.fits; root = c.ranges.root.fits; blocks = c.ranges.blocks.fits })
    c.args.disk.now c.flip_close.new.disk c.requires.headers c.flip_body.new.disk c.in-Ok.ensures.closes
    c.flip_open.new.disk c.in-Ok-flip_body.ensures.writes c.in-Ok-flip_open.ensures.opens
