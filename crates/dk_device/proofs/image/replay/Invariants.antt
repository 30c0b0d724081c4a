-- The calls that are left make of what was replayed what all make of the start.
use Rattle.std.proofs.Common.{◌≡◌, drop, nat_lt}
use Rattle.std.specs.List.{filter}
use Rattle.dk_device.specs.Image.{image_after}
use Rattle.dk_device.proofs.image.replay.Given as goal

abbrev pub invariant-calls : goal.invariant-calls
invariant-calls l =
    image_after l.crash.choice l.crash.file l.replayed.bytes.items l.replayed.image.items
    (filter (λ call. nat_lt call.moment l.crash.moment) (drop l.call-index l.calls))
    ≡ image_after l.crash.choice l.crash.file l.start l.start
    (filter (λ call. nat_lt call.moment l.crash.moment) l.calls)
