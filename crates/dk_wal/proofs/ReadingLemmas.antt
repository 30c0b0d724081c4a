-- The reading of records that share a front.
use Rattle.std.proofs.Common.{◌≡◌, ℕ, zero, suc, ◌+◌, ◌-◌, ◌≤◌, ◌⊎◌, List, [], ◌++◌, length, take, drop, Option, None, Some, Result, Ok, Err, true, false, option_map, refl, sym, ap, subst, ◌∙◌, arith, inl, inr}
use Rattle.std.proofs.lemmas.List.{length-take, length-drop, length-append, drop-append-le, nil_from_length}
use Rattle.dk_pages.specs.declared.log.LogCommit.{LogCommit}
use Rattle.dk_wal.specs.declared.limits.TheConstants.{FRAME_BYTES}
use Rattle.dk_wal.specs.declared.log_scan.LogReader.{LogReader}
use Rattle.dk_wal.specs.Payload.{payload_read}
use Rattle.dk_wal.specs.Records.{payload_at}
use Rattle.dk_wal.specs.Steps.{Follows}
use Rattle.dk_wal.specs.LogReading.{record_len, record_at, with_commit, marked_bad, go_on, read_on}
use Rattle.dk_wal.proofs.FrontLemmas.{drop_front, len_front, record_none, record_same, record_few, record_within, record_before}

-- what stands there: the end, a fault, or a commit
pub read_cases : (o : Option (Result LogCommit ℕ))
    → (o ≡ None) ⊎ (((at : ℕ) × (o ≡ Some (Err at))) ⊎ ((commit : LogCommit) × (o ≡ Some (Ok commit))))
read_cases None = inl refl
read_cases (Some (Err at)) = inr (inl (at, refl))
read_cases (Some (Ok commit)) = inr (inr (commit, refl))

abbrev pub some_read : Result LogCommit ℕ → Option (Result LogCommit ℕ)
some_read read = Some read

abbrev behind : ℕ → LogReader → List ℕ → LogCommit → LogReader
behind n r x commit = read_on n (with_commit commit (record_len x) r) (drop (record_len x) x)

pub ends_there : (n : ℕ) (r : LogReader) (x : List ℕ) → record_at r.tables x ≡ None → read_on n r x ≡ r
ends_there zero r x none = refl
ends_there (suc n) r x none = ap (λ (o : Option (Result LogCommit ℕ)). go_on (behind n r x) r o) none

pub bad_there : (n : ℕ) (r : LogReader) (x : List ℕ) (at : ℕ) → record_at r.tables x ≡ Some (Err at)
    → read_on (suc n) r x ≡ marked_bad r
bad_there n r x at bad = ap (λ (o : Option (Result LogCommit ℕ)). go_on (behind n r x) r o) bad

pub goes_on : (n : ℕ) (r : LogReader) (x : List ℕ) (commit : LogCommit)
    → record_at r.tables x ≡ Some (Ok commit)
    → read_on (suc n) r x ≡ read_on n (with_commit commit (record_len x) r) (drop (record_len x) x)
goes_on n r x commit is = ap (λ (o : Option (Result LogCommit ℕ)). go_on (behind n r x) r o) is

-- more turns than bytes are as good as any
pub enough : (n m : ℕ) (r : LogReader) (x : List ℕ) → length x ≤ n → length x ≤ m → read_on n r x ≡ read_on m r x
enough zero m r x few fits = sym (ends_there m r x (record_few r.tables x (omega (arith, few))))
enough (suc n) zero r x fits few = ends_there (suc n) r x (record_few r.tables x (omega (arith, few)))
enough (suc n) (suc m) r x fits fits' = elim (read_cases (record_at r.tables x)) [
  | inl none ↦ ends_there (suc n) r x none ∙ sym (ends_there (suc m) r x none)
  | inr more ↦ elim more [
    | inl bad ↦ bad_there n r x bad.0 bad.1 ∙ sym (bad_there m r x bad.0 bad.1)
    | inr good ↦
        let within = record_within r.tables x (Ok good.0) good.1 in
        goes_on n r x good.0 good.1
        ∙ enough n m (with_commit good.0 (record_len x) r) (drop (record_len x) x)
        (omega (arith, fits, within, length-drop (record_len x) x))
        (omega (arith, fits', within, length-drop (record_len x) x))
        ∙ sym (goes_on m r x good.0 good.1)
  ]
]

-- what each record and each mark keeps holds behind all of them
pub along : (P : LogReader → Type 0)
    → ((r : LogReader) (commit : LogCommit) (len : ℕ) → P r → P (with_commit commit len r))
    → ((r : LogReader) → P r → P (marked_bad r)) → (n : ℕ) (r : LogReader) (x : List ℕ) → P r → P (read_on n r x)
along P one bad zero r x p = p
along P one bad (suc n) r x p = elim (read_cases (record_at r.tables x)) [
  | inl none ↦ subst P (sym (ends_there (suc n) r x none)) p
  | inr more ↦ elim more [
    | inl fault ↦ subst P (sym (bad_there n r x fault.0 fault.1)) (bad r p)
    | inr good ↦
        subst P (sym (goes_on n r x good.0 good.1))
        (along P one bad n (with_commit good.0 (record_len x) r) (drop (record_len x) x)
        (one r good.0 (record_len x) p))
  ]
]

-- the end does not fall
pub end_later : (n : ℕ) (r : LogReader) (x : List ℕ) → r.scan.end ≤ (read_on n r x).scan.end
end_later n r x = along (λ s. r.scan.end ≤ s.scan.end) (λ s commit len p. omega (arith, p)) (λ s p. p) n r x
    (omega arith)

-- records alone are not stale
pub stale_not : (n : ℕ) (r : LogReader) (x : List ℕ) → r.scan.stale ≡ false → (read_on n r x).scan.stale ≡ false
stale_not n r x fresh = along (λ s. s.scan.stale ≡ false) (λ s commit len p. p) (λ s p. p) n r x fresh

no_bad : (r s : LogReader) → s ≡ marked_bad r → s.scan.bad ≡ None → ⊥
no_bad r s is none =
    let no : Some r.scan.end ≡ None = sym (ap (λ (t : LogReader). t.scan.bad) is) ∙ none in absurd cc

nil_if : (x : List ℕ) → length x ≤ 0 → x ≡ []
nil_if x few = nil_from_length x (omega (arith, few))

-- what holds where no record stands whole, and with one more record before, holds of a reading that finds nothing bad
pub by_records : (P : LogReader → List ℕ → LogReader → Type 0)
    → ((r : LogReader) (x : List ℕ) → record_at r.tables x ≡ None → P r x r)
    → ((r s : LogReader) (x : List ℕ) (commit : LogCommit) → record_at r.tables x ≡ Some (Ok commit)
    → record_len x ≤ length x → P (with_commit commit (record_len x) r) (drop (record_len x) x) s → P r x s)
    → (n : ℕ) (r : LogReader) (x : List ℕ) → length x ≤ n → (read_on n r x).scan.bad ≡ None → P r x (read_on n r x)
by_records P stop one zero r x few good = stop r x (record_few r.tables x (omega (arith, few)))
by_records P stop one (suc n) r x few good = elim (read_cases (record_at r.tables x)) [
  | inl none ↦ subst (λ (s : LogReader). P r x s) (sym (ends_there (suc n) r x none)) (stop r x none)
  | inr more ↦ elim more [
    | inl bad ↦ absurd (no_bad r (read_on (suc n) r x) (bad_there n r x bad.0 bad.1) good)
    | inr found ↦
        let within = record_within r.tables x (Ok found.0) found.1 in
        let here = goes_on n r x found.0 found.1 in
        subst (λ (s : LogReader). P r x s) (sym here)
        (one r (read_on n (with_commit found.0 (record_len x) r) (drop (record_len x) x)) x found.0 found.1 within
        (by_records P stop one n (with_commit found.0 (record_len x) r) (drop (record_len x) x)
        (omega (arith, few, within, length-drop (record_len x) x))
        (sym (ap (λ (s : LogReader). s.scan.bad) here) ∙ good)))
  ]
]

-- behind records that fill their bytes, what follows is read on
module _ (t : List ℕ) where
  abbrev ReadsOn : LogReader → List ℕ → LogReader → Type 0
  ReadsOn r x s = s.scan.end ≡ r.scan.end + length x → (m k : ℕ) → length (x ++ t) ≤ m → length t ≤ k
      → read_on m r (x ++ t) ≡ read_on k s t

  on_none : (r : LogReader) (x : List ℕ) → record_at r.tables x ≡ None → ReadsOn r x r
  on_none r x none end m k fits fits' =
      let is = nil_if x (omega (arith, end)) in
      subst (λ (y : List ℕ). read_on m r (y ++ t) ≡ read_on k r t) (sym is)
      (enough m k r t (omega (arith, fits, length-append x t)) fits')

  on_one : (r s : LogReader) (x : List ℕ) (commit : LogCommit) → record_at r.tables x ≡ Some (Ok commit)
      → record_len x ≤ length x → ReadsOn (with_commit commit (record_len x) r) (drop (record_len x) x) s
      → ReadsOn r x s
  on_one r s x commit is within rest end m k fits fits' =
      let x' : List ℕ = drop (record_len x) x in
      let whole = record_before r.tables x t (Ok commit) is in
      let behind : drop (record_len (x ++ t)) (x ++ t) ≡ x' ++ t =
      ap (λ (j : ℕ). drop j (x ++ t)) whole.1 ∙ drop-append-le (record_len x) x t within in
      enough m (suc m) r (x ++ t) fits (omega (arith, fits))
      ∙ goes_on m r (x ++ t) commit whole.0
      ∙ ap (λ (j : ℕ). read_on m (with_commit commit j r) (drop (record_len (x ++ t)) (x ++ t))) whole.1
      ∙ ap (λ (l : List ℕ). read_on m (with_commit commit (record_len x) r) l) behind
      ∙ rest (omega (arith, end, within, length-drop (record_len x) x)) m k
      (omega (arith, fits, within, length-append x t, length-append x' t, length-drop (record_len x) x)) fits'

  pub read_behind : (n m k : ℕ) (r : LogReader) (x : List ℕ) → length x ≤ n → length (x ++ t) ≤ m → length t ≤ k
      → (read_on n r x).scan.bad ≡ None → (read_on n r x).scan.end ≡ r.scan.end + length x
      → read_on m r (x ++ t) ≡ read_on k (read_on n r x) t
  read_behind n m k r x few fits fits' good end = by_records ReadsOn on_none on_one n r x few good end m k fits fits'

-- a front that reaches to the end reads the same
abbrev FrontReads : LogReader → List ℕ → LogReader → Type 0
FrontReads r x s = (r.scan.end ≤ s.scan.end) × ((m k : ℕ) → length (take k x) ≤ m → s.scan.end ≤ r.scan.end + k
    → read_on m r (take k x) ≡ s)

front_none : (r : LogReader) (x : List ℕ) → record_at r.tables x ≡ None → FrontReads r x r
front_none r x none = (omega arith, λ m k fits end. ends_there m r (take k x) (record_none r.tables k x none))

front_one : (r s : LogReader) (x : List ℕ) (commit : LogCommit) → record_at r.tables x ≡ Some (Ok commit)
    → record_len x ≤ length x → FrontReads (with_commit commit (record_len x) r) (drop (record_len x) x) s
    → FrontReads r x s
front_one r s x commit is within (later, rest) = (omega (arith, later), front)
  where
    front : (m k : ℕ) → length (take k x) ≤ m → s.scan.end ≤ r.scan.end + k → read_on m r (take k x) ≡ s
    front m k fits end =
        let x' : List ℕ = drop (record_len x) x in
        let reaches : record_len x ≤ k = omega (arith, end, later) in
        let len : record_len (take k x) ≡ record_len x =
        ap (λ (j : ℕ). FRAME_BYTES + j) (len_front k x (omega (arith, reaches))) in
        let behind : drop (record_len (take k x)) (take k x) ≡ take (k - record_len x) x' =
        ap (λ (j : ℕ). drop j (take k x)) len ∙ drop_front (record_len x) k x reaches in
        enough m (suc m) r (take k x) fits (omega (arith, fits))
        ∙ goes_on m r (take k x) commit (record_same r.tables k x reaches ∙ is)
        ∙ ap (λ (j : ℕ). read_on m (with_commit commit j r) (drop (record_len (take k x)) (take k x))) len
        ∙ ap (λ (l : List ℕ). read_on m (with_commit commit (record_len x) r) l) behind
        ∙ rest m (k - record_len x)
        (omega (
          arith,
          fits,
          within,
          reaches,
          length-take k x,
          length-take (k - record_len x) x',
          length-drop (record_len x) x,
        )) (omega (arith, end, reaches))

pub read_front : (n m k : ℕ) (r : LogReader) (x : List ℕ) → length x ≤ n → length (take k x) ≤ m
    → (read_on n r x).scan.bad ≡ None → (read_on n r x).scan.end ≤ r.scan.end + k
    → read_on m r (take k x) ≡ read_on n r x
read_front n m k r x few fits good end = (by_records FrontReads front_none front_one n r x few good).1 m k fits end

-- ---- record by record

module _ (r s : LogReader) (x p : List ℕ) (here : payload_at x ≡ Some p) where
  read_here : (read : Result LogCommit ℕ) → payload_read r.tables p ≡ read → record_at r.tables x ≡ Some read
  read_here read is =
      ap (λ (o : Option (List ℕ)). option_map (payload_read r.tables) o) here
      ∙ ap (λ (q : Result LogCommit ℕ). some_read q) is

  turns : read_on (length x) r x ≡ read_on (suc (length x)) r x
  turns = enough (length x) (suc (length x)) r x (omega arith) (omega arith)

  -- a record was read
  pub one_read : (n : ℕ) → n ≡ record_len x → Follows (payload_read r.tables p) n true r s
      → read_on (length (drop n x)) s (drop n x) ≡ read_on (length x) r x
  one_read n len (commit, is, new) =
      let next = goes_on (length x) r x commit (read_here (Ok commit) is) in
      ap (λ (t : LogReader). read_on (length (drop n x)) t (drop n x)) new
      ∙ enough (length (drop n x)) (length x) (with_commit commit n r) (drop n x) (omega arith)
      (omega (arith, length-drop n x))
      ∙ ap (λ (j : ℕ). read_on (length x) (with_commit commit j r) (drop j x)) len
      ∙ sym (turns ∙ next)

  -- one that is not in the grammar
  pub bad_read : (n : ℕ) → Follows (payload_read r.tables p) n false r s → s ≡ read_on (length x) r x
  bad_read n (at, is, new) = new ∙ sym (turns ∙ bad_there (length x) r x at (read_here (Err at) is))

-- none stands there
pub none_read : (r : LogReader) (x : List ℕ) → payload_at x ≡ None → r ≡ read_on (length x) r x
none_read r x none =
    sym (ends_there (length x) r x (ap (λ (o : Option (List ℕ)). option_map (payload_read r.tables) o) none))

-- a record moves the end by its length
pub read_place : (r s : LogReader) (p : List ℕ) (n : ℕ) → Follows (payload_read r.tables p) n true r s
    → s.scan.end ≡ r.scan.end + n
read_place r s p n (commit, is, new) = ap (λ (t : LogReader). t.scan.end) new
