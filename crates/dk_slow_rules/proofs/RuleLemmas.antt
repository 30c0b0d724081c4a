-- The rule of an event is its two parts.
use Rattle.std.proofs.Common.{◌≡◌, refl}
use Rattle.std.proofs.Math.Bool.{and-true}
use Rattle.std.specs.Prelude.{◌&&◌}
use Rattle.dk_core.specs.declared.event.Event.{Event}
use Rattle.dk_core.specs.declared.event.Event.TheVariants as event
use Rattle.dk_core.specs.Allows.{allows_locally}
use Rattle.dk_core.specs.Core.{Core}
use Rattle.dk_slow_rules.specs.Rules.{suits_session, suits_others}

pub locally : (core : Core) (event : Event)
    → (suits_session core event && suits_others core event) ≡ allows_locally core event
locally core (event.Call number asked) = and-true _
locally core (event.Begin number) = and-true _
locally core (event.Change number at part) = and-true _
locally core (event.Append number table group first rows) = refl
locally core (event.Adopt number table group first rows) = refl
locally core (event.Point number done moment) = refl
locally core (event.Stamp number) = and-true _
locally core (event.Finish number) = and-true _
locally core (event.Undo number) = and-true _
locally core (event.Drop at bound) = refl
locally core (event.Settle table group root) = refl
locally core (event.Reply number reply) = and-true _
locally core (event.Mark number) = and-true _
locally core (event.Leave number) = and-true _
