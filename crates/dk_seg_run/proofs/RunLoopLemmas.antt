-- The loops over runs.
use Rattle.std.specs.Prelude.{slice_get}
use Rattle.std.proofs.lemmas.List.{length-append}
use Rattle.std.proofs.Common.{◌≡◌, ℕ, suc, ◌-◌, List, [], ◌∷◌, ◌++◌, length, Some, Result, Ok, Err, refl, sym, subst, ◌∙◌, arith}
use Rattle.dk_values.specs.declared.value.ColType.{ColType}
use Rattle.dk_seg_run.specs.declared.run_length.Run.{Run}
use Rattle.dk_bytes.specs.Fields.{Place}
use Rattle.dk_bytes.specs.Reading.{◌>>=◌}
use Rattle.dk_seg_run.specs.RunLength.{run_at, runs_at, last_of}
use Rattle.dk_bytes.proofs.FrontLemmas.{with_front, front_snoc}

last : (runs : List Run) (run : Run) → slice_get (runs ++ run ∷ []) (length runs) ≡ Some run
last [] run = refl
last (r ∷ runs) run = last runs run

last_of-append : (runs : List Run) (run : Run) → last_of (runs ++ run ∷ []) ≡ Some run.value
last_of-append runs run =
    let n : length (runs ++ run ∷ []) - 1 ≡ length runs = omega (arith, length-append runs (run ∷ [])) in
    rw (n, last runs run) refl

-- one more run is read
pub one_run : (kind : ColType) (runs : List Run) (run : Run) (m n : ℕ) (p q : Place) (all : Result (List Run × Place) ℕ) → m ≡ suc n → run_at kind (last_of runs) p ≡ Ok (run, q) → with_front runs (runs_at kind (last_of runs) m p) ≡ all → with_front (runs ++ run ∷ []) (runs_at kind (last_of (runs ++ run ∷ [])) n q) ≡ all
one_run kind runs run m n p q all e r h =
    let next : with_front runs (runs_at kind (last_of runs) (suc n) p) ≡ all = subst (λ (k : ℕ). with_front runs (runs_at kind (last_of runs) k p) ≡ all) e h in
    let read : with_front runs (runs_at kind (Some run.value) n q >>= λ others. Ok (run ∷ others.0, others.1)) ≡ all
    = subst (λ (s : Result (Run × Place) ℕ). with_front runs (s >>= λ x. runs_at kind (Some x.0.value) n x.1 >>= λ others. Ok (x.0 ∷ others.0, others.1)) ≡ all) r next in
    rw (last_of-append runs run) (front_snoc runs run (runs_at kind (Some run.value) n q) ∙ read)

-- a run that is not read ends the reading
pub failed_run : (kind : ColType) (runs : List Run) (m n : ℕ) (p : Place) (all : Result (List Run × Place) ℕ) → m ≡ suc n → with_front runs (runs_at kind (last_of runs) m p) ≡ all → (at : ℕ) → run_at kind (last_of runs) p ≡ Err at → all ≡ Err at
failed_run kind runs m n p all e h at r =
    let next : with_front runs (runs_at kind (last_of runs) (suc n) p) ≡ all = subst (λ (k : ℕ). with_front runs (runs_at kind (last_of runs) k p) ≡ all) e h in
    sym (subst (λ (s : Result (Run × Place) ℕ). with_front runs (s >>= λ x. runs_at kind (Some x.0.value) n x.1 >>= λ others. Ok (x.0 ∷ others.0, others.1)) ≡ all) r next)
