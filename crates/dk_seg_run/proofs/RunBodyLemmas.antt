-- Runs that are read are the runs that were written, and what was written is read again.
use Rattle.std.proofs.Common.{◌≡◌, ℕ, zero, suc, ◌+◌, ◌-◌, ◌^◌, ◌<◌, Bool, true, false, cond, eqb, List, [], ◌∷◌, ◌++◌, length, Option, Some, None, Result, Ok, Err, refl, sym, ap, subst, ◌∙◌, append_assoc, arith, replicate}
use Rattle.std.proofs.lemmas.Bool.Decides.{Decides-eqb}
use Rattle.std.proofs.lemmas.List.{length-append, length-replicate, append-nil, nil_from_length}
use Rattle.std.specs.List.{flat_map, All, AllByRecursion}
use Rattle.std.proofs.lemmas.List.Elements.{All-from_recursion}
use Rattle.dk_columns.specs.Columns.{IsOfKind}
use Rattle.dk_seg_body.proofs.KindLemmas.{plain_of_kind}
use Rattle.std.specs.Int.{w16, w32, to_le_bytes}
use Rattle.dk_values.specs.declared.value.ColType.{ColType}
use Rattle.dk_values.specs.declared.value.Value.{Value}
use Rattle.dk_seg_run.specs.declared.run_length.Run.{Run}
use Rattle.dk_bytes.specs.Fields.{IsBytes, Place, number_at}
use Rattle.dk_bytes.specs.Reading.{◌>>=◌, start, IsBody}
use Rattle.dk_bytes.specs.PlainValue.{plain_bytes, value_at}
use Rattle.dk_bytes.specs.Bodies.{IsCodec}
use Rattle.dk_bytes.proofs.NumberLemmas.{Takes, Takes-then, bind_ok, guard_ok, chosen_ok, wide16, wide32, number_takes, number_again, ok_is}
use Rattle.dk_bytes.proofs.PlainValueLemmas.{value_takes, value_again, after}
use Rattle.dk_seg_run.specs.RunLength.{run_of, runs_of, expanded, IsRun, HasRuns, run_bytes, run_length_bytes, repeats, counted, run_at, runs_at, closed, run_length_at}
use Rattle.dk_seg_run.proofs.RunLemmas.{AreRuns, AreRuns-All, All-AreRuns, apart-runs_of, runs_of-expanded, expanded-runs_of}

positive : (n : ℕ) → eqb n 0 ≡ false → 0 < n
positive zero e = absurd cc
positive (suc n) e = omega arith

nonzero : (n : ℕ) → 0 < n → eqb n 0 ≡ false
nonzero n h = unless (eqb n 0) (λ e. let z : n ≡ 0 = (Decides-eqb n 0).0 e in omega arith)
  where
    unless : (b : Bool) → (b ≡ true → ⊥) → b ≡ false
    unless true k = absurd (k refl)
    unless false k = refl

-- what reading took from the front is this run
pub record IsRead (kind : ColType) (last : Option Value) (old new : Place) (run : Run) : Type 0 where
  pub fits : IsRun kind run
  pub apart : repeats last run.value ≡ false
  pub takes : Takes old new (run_bytes run)

pub run_takes : (kind : ColType) (last : Option Value) (p : Place) (x : Run × Place) → IsBytes p.rest → run_at kind last p ≡ Ok x → IsRead kind last p x.1 x.0
unfolding run_at
run_takes kind last p x fits e =
    let b = bind_ok (value_at kind p) (λ value. cond (repeats last value.0) (Err p.at) (Ok value) >>= λ fresh. number_at w16 fresh.1 >>= λ count. counted fresh.0 count fresh.1.at) x e in
    let v = b.0 in
    let t = value_takes kind p v fits b.1 in
    let d = bind_ok (cond (repeats last v.0) (Err p.at) (Ok v)) (λ fresh. number_at w16 fresh.1 >>= λ count. counted fresh.0 count fresh.1.at) x b.2 in
    let g = guard_ok (repeats last v.0) p.at v d.0 d.1 in
    let same : (number_at w16 v.1 >>= λ count. counted v.0 count v.1.at) ≡ Ok x = subst (λ (w : Value × Place). (number_at w16 w.1 >>= λ count. counted w.0 count w.1.at) ≡ Ok x) (sym g.1) d.2 in
    let f = bind_ok (number_at w16 v.1) (λ count. counted v.0 count v.1.at) x same in
    let n = f.0 in
    let u = number_takes w16 wide16 v.1 n t.takes.left f.1 in
    let k = guard_ok (eqb n.0 0) v.1.at (run_of v.0 n.0, n.1) x f.2 in
    subst (λ (y : Run × Place). IsRead kind last p y.1 y.0) k.1 (record {
      fits = record { plain = t.plain; some = positive n.0 k.0; fits = u.1 };
      apart = g.0;
      takes = Takes-then p v.1 n.1 (plain_bytes v.0) (to_le_bytes w16 n.0) t.takes u.0;
    })

-- what reading took from the front is these runs
pub record AreRead (kind : ColType) (last : Option Value) (n : ℕ) (old new : Place) (runs : List Run) : Type 0 where
  pub fits : AreRuns kind last runs
  pub count : length runs ≡ n
  pub takes : Takes old new (flat_map run_bytes runs)

pub runs_takes : (kind : ColType) (last : Option Value) (n : ℕ) (p : Place) (x : List Run × Place) → IsBytes p.rest → runs_at kind last n p ≡ Ok x → AreRead kind last n p x.1 x.0
runs_takes kind last zero p x fits e =
    subst (λ (y : List Run × Place). AreRead kind last 0 p y.1 y.0) (ok_is ([], p) x e)
    (record { fits = tt; count = refl; takes = record { passes = record { rest = refl; at = omega arith }; left = fits } })
runs_takes kind last (suc n) p x fits e =
    let b = bind_ok (run_at kind last p) (λ run. runs_at kind (Some run.0.value) n run.1 >>= λ others. Ok (run.0 ∷ others.0, others.1)) x e in
    let run = b.0 in
    let t = run_takes kind last p run fits b.1 in
    let d = bind_ok (runs_at kind (Some run.0.value) n run.1) (λ others. Ok (run.0 ∷ others.0, others.1)) x b.2 in
    let u = runs_takes kind (Some run.0.value) n run.1 d.0 t.takes.left d.1 in
    subst (λ (y : List Run × Place). AreRead kind last (suc n) p y.1 y.0) (ok_is (run.0 ∷ d.0.0, d.0.1) x d.2)
    (record {
      fits = (t.fits, t.apart, u.fits);
      count = ap suc u.count;
      takes = Takes-then p run.1 d.0.1 (run_bytes run.0) (flat_map run_bytes d.0.0) t.takes u.takes;
    })

kinds_of_runs : (kind : ColType) (last : Option Value) (runs : List Run) → AreRuns kind last runs → AllByRecursion (λ run. IsOfKind kind run.value) runs
kinds_of_runs kind last [] h = tt
kinds_of_runs kind last (run ∷ runs) h = (plain_of_kind kind run.value h.0.plain, kinds_of_runs kind (Some run.value) runs h.2)

-- the values of runs that are read are of the type
pub all_of_kind : (kind : ColType) (last : Option Value) (n : ℕ) (p q : Place) (runs : List Run) → IsBytes p.rest → runs_at kind last n p ≡ Ok (runs, q) → All (λ run. IsOfKind kind run.value) runs
all_of_kind kind last n p q runs fits e =
    All-from_recursion (λ run. IsOfKind kind run.value) runs (kinds_of_runs kind last runs (runs_takes kind last n p (runs, q) fits e).fits)

abbrev ok_run : Run × Place → Result (Run × Place) ℕ
ok_run x = Ok x

abbrev ok_runs : List Run × Place → Result (List Run × Place) ℕ
ok_runs x = Ok x

-- a run's bytes are read as that run, whatever follows
pub run_again : (kind : ColType) (last : Option Value) (run : Run) (rest : List ℕ) (at : ℕ) → IsRun kind run → repeats last run.value ≡ false → run_at kind last (record { at = at; rest = run_bytes run ++ rest }) ≡ Ok (run, after at (run_bytes run) rest)
unfolding run_at
run_again kind last run rest at fits apart =
    let text = plain_bytes run.value in
    let count = to_le_bytes w16 run.count in
    let regrouped : run_bytes run ++ rest ≡ text ++ (count ++ rest) = append_assoc text count rest in
    let place : at + length text + 2 ≡ at + length (run_bytes run) = omega (arith, length-append text count) in
    ap (λ (l : List ℕ). run_at kind last (record { at = at; rest = l })) regrouped
    ∙ rw (value_again kind run.value (count ++ rest) at fits.plain, apart, number_again w16 wide16 run.count rest (at + length text) fits.fits, nonzero run.count fits.some)
    (ap (λ (m : ℕ). ok_run (run, record { at = m; rest = rest })) place)

pub runs_again : (kind : ColType) (last : Option Value) (runs : List Run) (rest : List ℕ) (at : ℕ) → AreRuns kind last runs → runs_at kind last (length runs) (record { at = at; rest = flat_map run_bytes runs ++ rest }) ≡ Ok (runs, after at (flat_map run_bytes runs) rest)
runs_again kind last [] rest at h = ap (λ (m : ℕ). ok_runs ([], record { at = m; rest = rest })) (omega arith)
runs_again kind last (run ∷ runs) rest at h =
    let first = run_bytes run in
    let others = flat_map run_bytes runs in
    let regrouped : (first ++ others) ++ rest ≡ first ++ (others ++ rest) = append_assoc first others rest in
    let place : at + length first + length others ≡ at + length (first ++ others) = omega (arith, length-append first others) in
    ap (λ (l : List ℕ). runs_at kind last (suc (length runs)) (record { at = at; rest = l })) regrouped
    ∙ rw (run_again kind last run (others ++ rest) at h.0 h.1, runs_again kind (Some run.value) runs rest (at + length first) h.2)
    (ap (λ (m : ℕ). ok_runs (run ∷ runs, record { at = m; rest = rest })) place)

-- ---- the whole body

eqb-true : (m n : ℕ) → eqb m n ≡ true → m ≡ n
eqb-true m n e = (Decides-eqb m n).0 e

pub record IsClosed (count : ℕ) (runs : List Run × Place) (values : List Value) : Type 0 where
  pub total : length (expanded runs.0) ≡ count
  pub used : runs.1.rest ≡ []
  pub told : expanded runs.0 ≡ values

closed_ok : (count : ℕ) (runs : List Run × Place) (values : List Value) → closed count runs ≡ Ok values → IsClosed count runs values
closed_ok count runs values e =
    let g = chosen (eqb (length (expanded runs.0)) count) (runs.1.at - 2) (cond (eqb (length runs.1.rest) 0) (Ok (expanded runs.0)) (Err runs.1.at)) values e in
    let h = chosen_ok (eqb (length runs.1.rest) 0) runs.1.at (expanded runs.0) values g.1 in
    record { total = eqb-true _ _ g.0; used = nil_from_length runs.1.rest (eqb-true _ _ h.0); told = h.1 }
  where
    chosen : (b : Bool) (d : ℕ) (r : Result (List Value) ℕ) (y : List Value) → cond b r (Err d) ≡ Ok y → (b ≡ true) × (r ≡ Ok y)
    chosen true d r y e = (refl, e)
    chosen false d r y e = absurd cc

expanded-some : (kind : ColType) (last : Option Value) (runs : List Run) → AreRuns kind last runs → 0 < length runs → 0 < length (expanded runs)
expanded-some kind last [] h lt = absurd (omega arith)
expanded-some kind last (run ∷ runs) h lt = omega (arith, h.0.some, length-append (replicate run.count run.value) (expanded runs), length-replicate run.count run.value)

body_taken : (kind : ColType) (count : ℕ) (bytes : List ℕ) (values : List Value) → IsBytes bytes → run_length_at kind count bytes ≡ Ok values
    → IsBody (HasRuns kind) run_length_bytes count bytes values
unfolding run_length_at
body_taken kind count bytes values fits e =
    let b = bind_ok (number_at w32 (start bytes)) (λ n. cond (eqb n.0 0) (Err 0) (Ok n) >>= λ some. runs_at kind None some.0 some.1 >>= λ runs. closed count runs) values e in
    let n = b.0 in
    let t = number_takes w32 wide32 (start bytes) n fits b.1 in
    let d = bind_ok (cond (eqb n.0 0) (Err 0) (Ok n)) (λ some. runs_at kind None some.0 some.1 >>= λ runs. closed count runs) values b.2 in
    let g = guard_ok (eqb n.0 0) 0 n d.0 d.1 in
    let same : (runs_at kind None n.0 n.1 >>= λ runs. closed count runs) ≡ Ok values = subst (λ (m : ℕ × Place). (runs_at kind None m.0 m.1 >>= λ runs. closed count runs) ≡ Ok values) (sym g.1) d.2 in
    let f = bind_ok (runs_at kind None n.0 n.1) (λ runs. closed count runs) values same in
    let u = runs_takes kind None n.0 n.1 f.0 t.0.left f.1 in
    let c = closed_ok count f.0 values f.2 in
    body_of kind count bytes n.0 f.0.0 (positive n.0 g.0) t.1 u.fits u.count c.total
    ((Takes-then (start bytes) n.1 f.0.1 (to_le_bytes w32 n.0) (flat_map run_bytes f.0.0) t.0 u.takes).passes.rest ∙ ap (λ (l : List ℕ). (to_le_bytes w32 n.0 ++ flat_map run_bytes f.0.0) ++ l) c.used ∙ append-nil _)
    values c.told
  where
    body_of : (kind : ColType) (count : ℕ) (bytes : List ℕ) (n : ℕ) (runs : List Run) → 0 < n → n < 2 ^ 32 → AreRuns kind None runs → length runs ≡ n → length (expanded runs) ≡ count → bytes ≡ to_le_bytes w32 n ++ flat_map run_bytes runs → (values : List Value) → expanded runs ≡ values → IsBody (HasRuns kind) run_length_bytes count bytes values
    body_of kind count bytes n runs some lt fits len total e values v =
        let back : runs_of (expanded runs) ≡ runs = runs_of-expanded kind None runs fits in
        let whole : IsBody (HasRuns kind) run_length_bytes count bytes (expanded runs) = record {
          total = total;
          lawful = record {
            some = expanded-some kind None runs fits (omega arith);
            runs = subst (λ (rs : List Run). AllByRecursion (IsRun kind) rs) (sym back) (AreRuns-All kind None runs fits);
            count = subst (λ (rs : List Run). length rs < 2 ^ 32) (sym back) (omega arith);
          };
          spelled = subst (λ (rs : List Run). bytes ≡ to_le_bytes w32 (length rs) ++ flat_map run_bytes rs) (sym back) (subst (λ (m : ℕ). bytes ≡ to_le_bytes w32 m ++ flat_map run_bytes runs) (sym len) e);
        } in
        subst (λ (vs : List Value). IsBody (HasRuns kind) run_length_bytes count bytes vs) v whole

some-runs : (runs : List Run) → 0 < length (expanded runs) → 0 < length runs
some-runs [] h = h
some-runs (run ∷ runs) h = omega arith

eqb-self : (n : ℕ) → eqb n n ≡ true
eqb-self n = (Decides-eqb n n).1 refl

abbrev ok_values : List Value → Result (List Value) ℕ
ok_values x = Ok x

closed_at : (runs : List Run) (values : List Value) (at : ℕ) → expanded runs ≡ values → closed (length values) (runs, record { at = at; rest = [] }) ≡ Ok values
closed_at runs values at e = rw (e, eqb-self (length values)) refl

pub body_read : (kind : ColType) (values : List Value) → HasRuns kind values → run_length_at kind (length values) (run_length_bytes values) ≡ Ok values
unfolding run_length_at
body_read kind values h =
    let runs = runs_of values in
    let text = flat_map run_bytes (runs_of values) in
    let fits : AreRuns kind None (runs_of values) = All-AreRuns kind None (runs_of values) h.runs (apart-runs_of values) in
    let some : 0 < length (runs_of values) = some-runs (runs_of values) (subst (λ (vs : List Value). 0 < length vs) (sym (expanded-runs_of values)) h.some) in
    let read : runs_at kind None (length (runs_of values)) (record { at = 0 + 4; rest = text }) ≡ Ok (runs, after (0 + 4) text [])
    = subst (λ (l : List ℕ). runs_at kind None (length (runs_of values)) (record { at = 0 + 4; rest = l }) ≡ Ok (runs, after (0 + 4) text [])) (append-nil text) (runs_again kind None (runs_of values) [] (0 + 4) fits) in
    rw (number_again w32 wide32 (length (runs_of values)) text 0 h.count, nonzero (length (runs_of values)) some, read) (closed_at (runs_of values) values (0 + 4 + length text) (expanded-runs_of values))

pub run_length_codec : (kind : ColType) → IsCodec (run_length_at kind) (HasRuns kind) run_length_bytes
run_length_codec kind = record { takes = λ count bytes values fits small e. body_taken kind count bytes values fits e; again = body_read kind }
