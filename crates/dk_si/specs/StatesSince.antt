-- The states since a session's call.
use Rattle.std.specs.List.{list_any}
use Rattle.std.specs.Prelude.{ℕ, Bool, false, ◌==◌, List, [], ◌∷◌, ◌++◌, if◌then◌else◌, ◌&&◌, ◌||◌, not}
use Rattle.dk_si.specs.declared.database.Table.{Table}
use Rattle.dk_si.specs.declared.history.Entry.{Entry}
use Rattle.dk_si.specs.declared.history.Entry.TheVariants as entry
use Rattle.dk_si.specs.declared.machine.Machine.{Machine}
use Rattle.dk_si.specs.Machine.{next, first_state}

-- a call of the session
abbrev pub is_call_of : ℕ → Entry → Bool
is_call_of session (entry.Call caller asked) = caller == session
is_call_of session (entry.Begun caller number at) = false
is_call_of session (entry.Reply caller reply) = false

-- the states that these entries make, behind others since the session's last call: a call forgets those before it
abbrev pub states_from : List Table → ℕ → Machine → List Machine → List Entry → List Machine
states_from opened session machine states [] = states
states_from opened session machine states (entry ∷ entries) =
    let now = next opened machine entry in
    states_from opened session now ((if is_call_of session entry then [] else states) ++ now ∷ []) entries

-- the states after the session's call in flight and before now
abbrev pub states_since : List Table → ℕ → List Entry → List Machine
states_since opened session before = states_from opened session first_state [] before

abbrev pub was_since_call : (Machine → Bool) → List Table → ℕ → List Entry → Bool
was_since_call test opened session before = list_any test (states_since opened session before)

-- the same with each entry in turn, where it was so already or not
abbrev pub was_so : (Machine → Bool) → List Table → ℕ → Machine → Bool → List Entry → Bool
was_so test opened session machine so [] = so
was_so test opened session machine so (entry ∷ entries) =
    was_so test opened session (next opened machine entry)
    ((so && not (is_call_of session entry)) || test (next opened machine entry)) entries
