-- The bodies of segments whose values are gathered in runs.
use Rattle.std.specs.Prelude.{ℕ, zero, suc, ◌+◌, ◌-◌, ◌<◌, ◌^◌, Bool, false, List, [], ◌∷◌, ◌++◌, length, not, ◌||◌, Option, Some, None, Result, Ok, Err, replicate, ◌==◌, if◌then◌else◌, slice_get, option_map}
use Rattle.std.specs.List.{flat_map, AllByRecursion}
use Rattle.std.specs.Int.{w16, w32, to_le_bytes}
use Rattle.dk_values.specs.declared.value.ColType.{ColType}
use Rattle.dk_values.specs.declared.value.Value.{Value}
use Rattle.dk_seg_run.specs.declared.run_length.Run.{Run}
use Rattle.dk_bytes.specs.Fields.{Place, number_at}
use Rattle.dk_bytes.specs.PlainValue.{IsPlain, plain_bytes, is_present, same, value_at}
use Rattle.dk_bytes.specs.Reading.{◌>>=◌, start}
use Rattle.dk_seg_body.specs.Grammar.{Grammar}

abbrev pub run_values : Run → List Value
run_values run = replicate run.count run.value

-- the values that runs stand for
abbrev pub expanded : List Run → List Value
expanded runs = flat_map run_values runs

-- null, or the value
abbrev pub passes : Value → Value → Bool
passes value other = not (is_present other) || same value other

abbrev pub run_of : Value → ℕ → Run
run_of value count = record { value = value; count = count }

-- the runs of a value and the values after it, of which these are the runs
abbrev pub with_value : Value → List Run → List Run
with_value value [] = run_of value 1 ∷ []
with_value value (run ∷ runs) = if same value run.value then run_of run.value (run.count + 1) ∷ runs
    else run_of value 1 ∷ run ∷ runs

-- equal neighbours, gathered
abbrev pub runs_of : List Value → List Run
runs_of [] = []
runs_of (value ∷ values) = with_value value (runs_of values)

-- a run whose value the type has and whose length fits its field
pub record IsRun (kind : ColType) (run : Run) : Type 0 where
  pub plain : IsPlain kind run.value
  pub some : 0 < run.count
  pub fits : run.count < 2 ^ 16

-- at least one value, in runs that fit
pub record HasRuns (kind : ColType) (values : List Value) : Type 0 where
  pub some : 0 < length values
  pub runs : AllByRecursion (IsRun kind) (runs_of values)
  pub count : length (runs_of values) < 2 ^ 32

abbrev pub run_bytes : Run → List ℕ
run_bytes run = plain_bytes run.value ++ to_le_bytes w16 run.count

-- how many runs, and the runs
abbrev pub run_length_bytes : List Value → List ℕ
run_length_bytes values = to_le_bytes w32 (length (runs_of values)) ++ flat_map run_bytes (runs_of values)

-- the value of the last run
abbrev pub last_of : List Run → Option Value
last_of runs = option_map (λ run. run.value) (slice_get runs (length runs - 1))

-- whether the value is that of the run before it
abbrev pub repeats : Option Value → Value → Bool
repeats None value = false
repeats (Some last) value = same last value

abbrev pub counted : Value → ℕ × Place → ℕ → Result (Run × Place) ℕ
counted value count at = if count.0 == 0 then Err at else Ok (run_of value count.0, count.1)

-- the run that stands next, or the first fault: an equal neighbour is charged to the value, a length 0 to the length
unfoldable pub run_at : ColType → Option Value → Place → Result (Run × Place) ℕ
run_at kind last place = do
  value ← value_at kind place
  fresh ← if repeats last value.0 then Err place.at else Ok value
  count ← number_at w16 fresh.1
  counted fresh.0 count fresh.1.at

-- so many runs, behind one with this value
abbrev pub runs_at : ColType → Option Value → ℕ → Place → Result (List Run × Place) ℕ
runs_at kind last zero place = Ok ([], place)
runs_at kind last (suc n) place = do
  run ← run_at kind last place
  others ← runs_at kind (Some run.0.value) n run.1
  Ok (run.0 ∷ others.0, others.1)

-- that the runs stand for so many values is charged to the last length, which has two bytes
abbrev pub closed : ℕ → List Run × Place → Result (List Value) ℕ
closed count runs =
    if length (expanded runs.0) == count
    then (if length runs.1.rest == 0 then Ok (expanded runs.0) else Err runs.1.at)
    else Err (runs.1.at - 2)

-- so many values that a body stands for, or its first fault; no body has no runs
unfoldable pub run_length_at : ColType → ℕ → List ℕ → Result (List Value) ℕ
run_length_at kind count bytes = do
  n ← number_at w32 (start bytes)
  some ← if n.0 == 0 then Err 0 else Ok n
  runs ← runs_at kind None some.0 some.1
  closed count runs

abbrev pub run_length_grammar : Grammar
run_length_grammar = record { Is = HasRuns; spell = run_length_bytes; at = run_length_at }
