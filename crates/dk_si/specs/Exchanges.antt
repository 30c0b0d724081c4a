-- The calls of a history with their replies, each at its place.
use Rattle.std.specs.Prelude.{ℕ, ◌+◌, List, [], ◌∷◌, Option, Some, None, ◌==◌, if◌then◌else◌, Bool, true, false, ◌&&◌, is_none, ◌++◌, map}
use Rattle.dk_types.specs.declared.reply.Reply.{Reply}
use Rattle.dk_si.specs.declared.exchange.Exchange.{Exchange}
use Rattle.dk_si.specs.declared.exchange.Replied.{Replied}
use Rattle.dk_si.specs.declared.history.Entry.{Entry}
use Rattle.dk_si.specs.declared.history.Entry.TheVariants as entry
use Rattle.dk_si.specs.declared.kind.Kind.{Kind}
use Rattle.dk_si.specs.declared.kind.Kind.TheVariants as kind
use Rattle.dk_si.specs.Machine.{asks_for}

-- the first reply to the session in these entries, the first of which has that place
abbrev pub reply_from : ℕ → ℕ → List Entry → Option Replied
reply_from session place [] = None
reply_from session place (entry.Call caller asked ∷ entries) = reply_from session (place + 1) entries
reply_from session place (entry.Begun caller number start ∷ entries) = reply_from session (place + 1) entries
reply_from session place (entry.Reply caller reply ∷ entries) =
    if caller == session then Some (record { place = place; reply = reply }) else reply_from session (place + 1) entries

abbrev pub is_checkpoint : Kind → Bool
is_checkpoint kind.Checkpoint = true
is_checkpoint other = false

abbrev pub exchanges_from : ℕ → List Entry → List Exchange
exchanges_from place [] = []
exchanges_from place (entry.Call session asked ∷ entries) =
    record { session = session; place = place; checkpoint = asks_for is_checkpoint (Some asked); replied = reply_from session (place + 1) entries }
    ∷ exchanges_from (place + 1) entries
exchanges_from place (entry.Begun session number start ∷ entries) = exchanges_from (place + 1) entries
exchanges_from place (entry.Reply session reply ∷ entries) = exchanges_from (place + 1) entries

abbrev pub exchanges : List Entry → List Exchange
exchanges entries = exchanges_from 0 entries

-- an exchange after a reply to that session, at that place
abbrev pub with_reply : ℕ → ℕ → Reply → Exchange → Exchange
with_reply session place reply exchange =
    if session == exchange.session && is_none exchange.replied then record exchange { replied = Some (record { place = place; reply = reply }) }
    else exchange

-- the exchanges after one more entry, at that place
abbrev pub exchanges_and : List Exchange → ℕ → Entry → List Exchange
exchanges_and all place (entry.Call session asked) =
    all ++ record { session = session; place = place; checkpoint = asks_for is_checkpoint (Some asked); replied = None } ∷ []
exchanges_and all place (entry.Begun session number start) = all
exchanges_and all place (entry.Reply session reply) = map (with_reply session place reply) all
