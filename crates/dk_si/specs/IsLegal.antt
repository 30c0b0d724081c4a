-- Legal histories: each entry is a step of the machine, and two conditions hold over the whole list.
use Rattle.std.specs.List.{list_all, list_any}
use Rattle.std.specs.Prelude.{Bool, false, Some, None, ℕ, ◌&&◌, ◌||◌, not, is_some, nat_lt, true, List, Option, if◌then◌else◌, ◌==◌, ◌-◌, []}
use Rattle.dk_si.specs.declared.database.Table.{Table}
use Rattle.dk_si.specs.declared.exchange.Exchange.{Exchange}
use Rattle.dk_si.specs.declared.exchange.Replied.{Replied}
use Rattle.dk_si.specs.declared.history.Entry.{Entry}
use Rattle.dk_si.specs.declared.limits.TheConstants.{MAX_ITERATION}
use Rattle.dk_si.specs.Exchanges.{exchanges}
use Rattle.dk_si.specs.IsStep.{are_steps}
use Rattle.dk_si.specs.Machine.{first_state}
use Rattle.dk_si.specs.ReplyTests.{is_commit, iteration_of, is_refused, is_disk_stop, is_stopped_refusal, is_stop, is_iteration, has_no_iteration}

abbrev pub has_reply : (Replied → Bool) → Exchange → Bool
has_reply test exchange = elim exchange.replied [ None ↦ false | Some replied ↦ test replied ]

-- after that place this exchange commits nothing, and no checkpoint that it calls for is made
abbrev pub keeps_stop : ℕ → Exchange → Bool
keeps_stop place exchange =
    not (has_reply (λ replied. (nat_lt place replied.place && is_commit replied.reply)
    || (nat_lt place exchange.place && is_some (iteration_of replied.reply))) exchange)

-- a call before that place that may have stopped the engine: it has no reply, or its reply says so
abbrev pub may_have_stopped : ℕ → Exchange → Bool
may_have_stopped place exchange =
    nat_lt exchange.place place && elim exchange.replied [ None ↦ true | Some replied ↦ is_refused is_disk_stop replied.reply ]

-- after a stop nothing is committed, and a Stopped has a call before it that stopped the engine
abbrev pub stop_at : List Exchange → Replied → Bool
stop_at all replied =
    (not (is_stop replied.reply) || list_all (keeps_stop replied.place) all)
    && (not (is_refused is_stopped_refusal replied.reply) || list_any (may_have_stopped replied.place) all)

abbrev pub all_replies : (Replied → Bool) → List Exchange → Bool
all_replies test list = list_all (λ exchange. elim exchange.replied [ None ↦ true | Some replied ↦ test replied ]) list

-- the iteration that a CHECKPOINT is answered
abbrev pub iteration_in : Exchange → Option ℕ
iteration_in exchange = elim exchange.replied [
  | None ↦ None
  | Some replied ↦ if exchange.checkpoint then iteration_of replied.reply else None
]

-- a CHECKPOINT that is called before that place, and has no reply or is answered this iteration
abbrev pub may_have_reached : ℕ → ℕ → Exchange → Bool
may_have_reached place iteration exchange =
    nat_lt exchange.place place
    && elim exchange.replied [ None ↦ exchange.checkpoint | Some replied ↦ exchange.checkpoint && is_iteration iteration replied.reply ]

-- an iteration is the opened one, or a CHECKPOINT that is called before that place reached it, or may have
abbrev pub is_reached : ℕ → List Exchange → ℕ → ℕ → Bool
is_reached opened all place iteration = iteration == opened || list_any (may_have_reached place iteration) all

-- the reply of one stands before the call of the other
abbrev pub stands_before : Exchange → Exchange → Bool
stands_before first second = has_reply (λ replied. nat_lt replied.place second.place) first

-- two checkpoints have different iterations, the smaller one where the reply stands before the other's call
abbrev pub are_in_order : Exchange → Exchange → Bool
are_in_order first second = elim (iteration_in first) [
  | None ↦ true
  | Some a ↦ elim (iteration_in second) [
    | None ↦ true
    | Some b ↦ (first.place == second.place || not (a == b)) && (not (stands_before first second) || nat_lt a b)
  ]
]

-- an iteration is above the opened one, and the one below it was reached by a call before the reply
abbrev pub follows_at : ℕ → List Exchange → Replied → Bool
follows_at opened all replied = elim (iteration_of replied.reply) [
  | None ↦ true
  | Some iteration ↦ nat_lt opened iteration && is_reached opened all replied.place (iteration - 1)
]

-- where no iteration is left, the last one was reached by a call before the reply
abbrev pub spent_at : ℕ → List Exchange → Replied → Bool
spent_at opened all replied =
    not (is_refused has_no_iteration replied.reply) || is_reached opened all replied.place MAX_ITERATION

-- the iteration of an exchange stands in order with all others
abbrev pub stands_in_order : List Exchange → Exchange → Bool
stands_in_order all exchange = list_all (are_in_order exchange) all

-- no commit follows a stop
abbrev pub stops_well : List Exchange → Bool
stops_well all = all_replies (stop_at all) all

-- what the reply to a CHECKPOINT asks of the iterations before it
abbrev pub iterates_at : ℕ → List Exchange → Exchange → Bool
iterates_at opened all exchange = elim exchange.replied [
  | None ↦ true
  | Some replied ↦ not exchange.checkpoint || (follows_at opened all replied && spent_at opened all replied)
]

-- checkpoints write one iteration after the other
abbrev pub iterates_well : ℕ → List Exchange → Bool
iterates_well opened all = list_all (stands_in_order all) all && list_all (iterates_at opened all) all

-- a list of entries is a legal history from a database and an iteration
abbrev pub is_legal : List Table → ℕ → List Entry → Bool
is_legal opened iteration entries =
    are_steps opened [] first_state entries && (stops_well (exchanges entries) && iterates_well iteration (exchanges entries))
