-- What is read of a log is in its grammar, and what is in the grammar is read.
use Rattle.std.proofs.Common.{◌≡◌, ◌⊎◌, ℕ, zero, suc, ◌+◌, ◌<◌, ◌≤◌, Bool, false, List, [], ◌∷◌, ◌++◌, length, take, drop, Option, None, Some, Result, Ok, Err, option_map, refl, sym, ap, subst, ◌∙◌, arith, append_assoc, append-nil, inl, inr}
use Rattle.std.specs.Prelude.{IfOk}
use Rattle.std.specs.Int.{w32, w64, to_le_bytes}
use Rattle.std.proofs.lemmas.List.{take-append-drop, length-take, length-drop, length-append, drop-drop, drop_at}
use Rattle.std.proofs.Math.Seq.{take-add}
use Rattle.dk_bytes.specs.Checksum.{checksum_of}
use Rattle.dk_bytes.specs.Fields.{IsBytes}
use Rattle.dk_bytes.proofs.NumberLemmas.{IsBytes-drop, IsBytes-take, wide32, wide64}
use Rattle.dk_header.specs.declared.log.TheConstants.{LOG_HEADER_BYTES}
use Rattle.dk_pages.specs.declared.log.LogCommit.{LogCommit}
use Rattle.dk_pages.specs.declared.tree.TableEntry.{TableEntry}
use Rattle.dk_wal.specs.declared.limits.TheConstants.{FRAME_BYTES, MOST_PAYLOAD}
use Rattle.dk_types.specs.declared.damage.Damage.{Damage}
use Rattle.dk_wal.specs.declared.log_scan.LogError.{LogError}
use Rattle.dk_wal.specs.declared.log_scan.Scan.{Scan}
use Rattle.dk_wal.specs.declared.log_scan.LogReader.{LogReader}
use Rattle.dk_wal.specs.Payload.{payload_bytes, payload_read, IsPayload}
use Rattle.dk_wal.specs.Records.{framed, record_bytes, stored_len, stored_payload, payload_at}
use Rattle.dk_wal.specs.LogReading.{Scans, header_read, record_len, record_at, with_commit, marked_bad, read_on, reader_of, records_in, log_read}
use Rattle.dk_wal.specs.Logs.{tables_behind, IsLogged, AreLogged, records_bytes, places_from, Ends, IsScanned, IsLog}
use Rattle.dk_wal.proofs.FrontLemmas.{first_four, word_front, within_of, payload_is, sum_is, small_is, record_before, record_within, record_few, framed_whole, framed_len, framed_length, some_of}
use Rattle.dk_wal.proofs.ReadingLemmas.{some_read, read_cases, ends_there, bad_there, goes_on, enough}
use Rattle.dk_wal.proofs.LogLemmas.{scan_is, good_scan, read_good}
use Rattle.dk_wal.proofs.PayloadLemmas.{payload_takes, payload_again}

-- ---- one record

-- the bytes of a record that stands whole, and those behind it
pub framed_there : (x p : List ℕ) → IsBytes x → payload_at x ≡ Some p → x ≡ framed p ++ drop (record_len x) x
framed_there x p fits whole = sym (take-append-drop (record_len x) x)
    ∙ ap (λ (l : List ℕ). l ++ drop (record_len x) x) (sym front)
  where
    within : record_len x ≤ length x
    within = within_of x p whole

    payload : p ≡ stored_payload x
    payload = payload_is x p whole

    len : length p ≡ stored_len x
    len = omega (
      arith,
      ap (λ (l : List ℕ). length l) payload,
      length-take (stored_len x) (drop FRAME_BYTES x),
      length-drop FRAME_BYTES x,
      within,
    )

    first : to_le_bytes w32 (length p) ≡ take 4 x
    first =
        ap (λ (n : ℕ). to_le_bytes w32 n) (len ∙ sym (first_four x))
        ∙ wide32.back (take 4 x) (omega (arith, length-take 4 x, within)) (IsBytes-take 4 x fits)

    second : to_le_bytes w64 (checksum_of p) ≡ take 8 (drop 4 x)
    second =
        ap (λ (n : ℕ). to_le_bytes w64 n) (sym (sum_is x p whole) ∙ sym (word_front 8 (drop 4 x) (omega arith)))
        ∙ wide64.back (take 8 (drop 4 x)) (omega (arith, length-take 8 (drop 4 x), length-drop 4 x, within))
        (IsBytes-take 8 (drop 4 x) (IsBytes-drop 4 x fits))

    two : to_le_bytes w64 (checksum_of p) ++ p ≡ take (8 + stored_len x) (drop 4 x)
    two =
        ap (λ (l : List ℕ). l ++ p) second
        ∙ ap (λ (l : List ℕ). take 8 (drop 4 x) ++ l) (payload ∙ ap (λ (l : List ℕ). take (stored_len x) l)
        (sym (drop-drop 8 4 x)))
        ∙ sym (take-add 8 (stored_len x) (drop 4 x))

    frame : 4 + (8 + stored_len x) ≡ record_len x
    frame = omega arith

    front : framed p ≡ take (record_len x) x
    front =
        ap (λ (l : List ℕ). l ++ (to_le_bytes w64 (checksum_of p) ++ p)) first
        ∙ ap (λ (l : List ℕ). take 4 x ++ l) two
        ∙ sym (take-add 4 (8 + stored_len x) x)
        ∙ ap (λ (n : ℕ). take n x) frame

-- a payload that is in no commit's grammar
no_commit : (tables : List TableEntry) (p : List ℕ) (at : ℕ) → payload_read tables p ≡ Err at
    → (commit : LogCommit) → IsPayload tables p commit → ⊥
no_commit tables p at bad commit is =
    let no : Err at ≡ Ok commit = sym bad ∙ payload_again tables p commit is in absurd cc

-- ---- many records

-- a reader behind these commits
abbrev with_commits : List LogCommit → LogReader → LogReader
with_commits [] r = r
with_commits (commit ∷ commits) r = with_commits commits (with_commit commit (length (record_bytes commit)) r)

commits_of : (commits : List LogCommit) (r : LogReader)
    → (with_commits commits r).scan.commits ≡ r.scan.commits ++ commits
commits_of [] r = sym (append-nil r.scan.commits)
commits_of (commit ∷ commits) r = commits_of commits (with_commit commit (length (record_bytes commit)) r)
    ∙ append_assoc r.scan.commits (commit ∷ []) commits

places_of : (commits : List LogCommit) (r : LogReader)
    → (with_commits commits r).scan.places ≡ r.scan.places ++ places_from r.scan.end commits
places_of [] r = sym (append-nil r.scan.places)
places_of (commit ∷ commits) r = places_of commits (with_commit commit (length (record_bytes commit)) r)
    ∙ append_assoc r.scan.places (r.scan.end ∷ []) (places_from (r.scan.end + length (record_bytes commit)) commits)

end_of : (commits : List LogCommit) (r : LogReader)
    → (with_commits commits r).scan.end ≡ r.scan.end + length (records_bytes commits)
end_of [] r = omega arith
end_of (commit ∷ commits) r =
    let rest = end_of commits (with_commit commit (length (record_bytes commit)) r) in
    omega (arith, rest, length-append (record_bytes commit) (records_bytes commits))

tables_of : (commits : List LogCommit) (r : LogReader)
    → (with_commits commits r).tables ≡ tables_behind r.tables commits
tables_of [] r = refl
tables_of (commit ∷ commits) r = tables_of commits (with_commit commit (length (record_bytes commit)) r)

stale_of : (commits : List LogCommit) (r : LogReader) → (with_commits commits r).scan.stale ≡ r.scan.stale
stale_of [] r = refl
stale_of (commit ∷ commits) r = stale_of commits (with_commit commit (length (record_bytes commit)) r)

bad_of : (commits : List LogCommit) (r : LogReader) → (with_commits commits r).scan.bad ≡ r.scan.bad
bad_of [] r = refl
bad_of (commit ∷ commits) r = bad_of commits (with_commit commit (length (record_bytes commit)) r)

-- how a reading ends in these bytes
abbrev EndsIn : LogReader → List ℕ → LogReader → Type 0
EndsIn r rest s = ((payload_at rest ≡ None) × (s ≡ r))
    ⊎ ((payload : List ℕ) × (payload_at rest ≡ Some payload)
    × ((commit : LogCommit) → IsPayload r.tables payload commit → ⊥) × (s ≡ marked_bad r))

record Reads (r : LogReader) (x : List ℕ) (s : LogReader) : Type 0 where
  commits : List LogCommit
  rest : List ℕ
  lawful : AreLogged r.tables commits
  spelled : x ≡ records_bytes commits ++ rest
  ends : EndsIn (with_commits commits r) rest s

none_of : {A B : Type 0} (f : A → B) (o : Option A) → option_map f o ≡ None → o ≡ None
none_of f None e = refl
none_of f (Some a) e = absurd cc

record_is : (p : List ℕ) (commit : LogCommit) → p ≡ payload_bytes commit → framed p ≡ record_bytes commit
record_is p commit is = ap (λ (l : List ℕ). framed l) is

stops_here : (n : ℕ) (r : LogReader) (x : List ℕ) → record_at r.tables x ≡ None → Reads r x (read_on n r x)
stops_here n r x stop = record {
  commits = [];
  rest = x;
  lawful = tt;
  spelled = refl;
  ends = inl (none_of (payload_read r.tables) (payload_at x) stop, ends_there n r x stop);
}

bad_here : (n : ℕ) (r : LogReader) (x : List ℕ) (at : ℕ) → record_at r.tables x ≡ Some (Err at)
    → Reads r x (read_on (suc n) r x)
bad_here n r x at bad =
    let p = some_of (payload_read r.tables) (payload_at x) (Err at) bad in
    record {
      commits = [];
      rest = x;
      lawful = tt;
      spelled = refl;
      ends = inr (p.0, p.1, no_commit r.tables p.0 at p.2, bad_there n r x at bad);
    }

-- a record at the front: its commit, and its length
record_read : (tables : List TableEntry) (x : List ℕ) (commit : LogCommit) → IsBytes x
    → record_at tables x ≡ Some (Ok commit)
    → IsLogged tables commit × (x ≡ record_bytes commit ++ drop (record_len x) x)
    × (record_len x ≡ length (record_bytes commit))
record_read tables x commit fits is =
    let p = some_of (payload_read tables) (payload_at x) (Ok commit) is in
    let read = payload_takes tables p.0 commit
    (subst (λ (l : List ℕ). IsBytes l) (sym (payload_is x p.0 p.1))
    (IsBytes-take (stored_len x) (drop FRAME_BYTES x) (IsBytes-drop FRAME_BYTES x fits))) p.2 in
    let here : framed p.0 ≡ record_bytes commit = record_is p.0 commit read.spelled in
    let whole = framed_there x p.0 fits p.1 in
    let within = within_of x p.0 p.1 in (
      record {
        lawful = read.lawful;
        small = subst (λ (l : List ℕ). length l ≤ MOST_PAYLOAD) read.spelled (small_is x p.0 p.1);
      },
      whole ∙ ap (λ (l : List ℕ). l ++ drop (record_len x) x) here,
      omega (
        arith,
        ap (λ (l : List ℕ). length l) whole,
        ap (λ (l : List ℕ). length l) here,
        length-append (framed p.0) (drop (record_len x) x),
        length-drop (record_len x) x,
        within,
      ),
    )

one_read : (n : ℕ) (r : LogReader) (x : List ℕ) (commit : LogCommit) → record_at r.tables x ≡ Some (Ok commit)
    → IsLogged r.tables commit × (x ≡ record_bytes commit ++ drop (record_len x) x)
    × (record_len x ≡ length (record_bytes commit))
    → Reads (with_commit commit (length (record_bytes commit)) r) (drop (record_len x) x)
    (read_on n (with_commit commit (length (record_bytes commit)) r) (drop (record_len x) x))
    → Reads r x (read_on (suc n) r x)
one_read n r x commit is (lawful, whole, len) rest = record {
  commits = commit ∷ rest.commits;
  rest = rest.rest;
  lawful = (lawful, rest.lawful);
  spelled =
      whole
      ∙ ap (λ (l : List ℕ). record_bytes commit ++ l) rest.spelled
      ∙ sym (append_assoc (record_bytes commit) (records_bytes rest.commits) rest.rest);
  ends =
      subst (λ (s : LogReader). EndsIn (with_commits rest.commits
      (with_commit commit (length (record_bytes commit)) r)) rest.rest s)
      (sym (goes_on n r x commit is
      ∙ ap (λ (k : ℕ). read_on n (with_commit commit k r) (drop (record_len x) x)) len)) rest.ends;
}

all_read : (n : ℕ) (r : LogReader) (x : List ℕ) → IsBytes x → length x ≤ n → Reads r x (read_on n r x)
all_read zero r x fits few = stops_here zero r x (record_few r.tables x (omega (arith, few)))
all_read (suc n) r x fits few = elim (read_cases (record_at r.tables x)) [
  | inl stop ↦ stops_here (suc n) r x stop
  | inr more ↦ elim more [
    | inl bad ↦ bad_here n r x bad.0 bad.1
    | inr good ↦
        one_read n r x good.0 good.1 (record_read r.tables x good.0 fits good.1)
        (all_read n (with_commit good.0 (length (record_bytes good.0)) r) (drop (record_len x) x)
        (IsBytes-drop (record_len x) x fits)
        (omega (arith, few, length-drop (record_len x) x, record_within r.tables x (Ok good.0) good.1)))
  ]
]

-- ---- what is read is in the grammar

module _ (tables : List TableEntry) (x : List ℕ) where
  scanned_of : (s : Scan) (commits : List LogCommit) (rest : List ℕ) → s.commits ≡ commits
      → s.places ≡ places_from LOG_HEADER_BYTES commits → s.end ≡ LOG_HEADER_BYTES + length (records_bytes commits)
      → s.stale ≡ false → AreLogged tables commits → x ≡ records_bytes commits ++ rest
      → Ends (tables_behind tables commits) rest s.end s.bad → IsScanned tables x s
  scanned_of s commits rest is places end fresh lawful spelled ends = record {
    rest = rest;
    lawful = subst (λ (cs : List LogCommit). AreLogged tables cs) (sym is) lawful;
    spelled = spelled ∙ ap (λ (cs : List LogCommit). records_bytes cs ++ rest) (sym is);
    places = places ∙ ap (λ (cs : List LogCommit). places_from LOG_HEADER_BYTES cs) (sym is);
    end = end ∙ ap (λ (cs : List LogCommit). LOG_HEADER_BYTES + length (records_bytes cs)) (sym is);
    ends = subst (λ (cs : List LogCommit). Ends (tables_behind tables cs) rest s.end s.bad) (sym is) ends;
    fresh = fresh;
  }

  module _ (fits : IsBytes x) where
    abbrev read : Reads (reader_of tables) x (read_on (length x) (reader_of tables) x)
    read = all_read (length x) (reader_of tables) x fits (omega arith)

    abbrev all : LogReader
    all = with_commits read.commits (reader_of tables)

    found : (s : Scan) → s.commits ≡ all.scan.commits → s.places ≡ all.scan.places → s.end ≡ all.scan.end
        → s.stale ≡ all.scan.stale → Ends (tables_behind tables read.commits) read.rest s.end s.bad
        → IsScanned tables x s
    found s commits places end fresh ends =
        scanned_of s read.commits read.rest (commits ∙ commits_of read.commits (reader_of tables))
        (places ∙ places_of read.commits (reader_of tables)) (end ∙ end_of read.commits (reader_of tables))
        (fresh ∙ stale_of read.commits (reader_of tables)) read.lawful read.spelled ends

    by_end : EndsIn all read.rest (read_on (length x) (reader_of tables) x) → IsScanned tables x (records_in tables x)
    by_end (inl (none, is)) =
        subst (λ (r : LogReader). IsScanned tables x r.scan) (sym is)
        (found all.scan refl refl refl refl
        (subst (λ (b : Option ℕ). Ends (tables_behind tables read.commits) read.rest all.scan.end b)
        (sym (bad_of read.commits (reader_of tables))) none))
    by_end (inr (payload, whole, none, is)) =
        subst (λ (r : LogReader). IsScanned tables x r.scan) (sym is)
        (found (marked_bad all).scan refl refl refl refl (
          refl,
          payload,
          whole,
          subst (λ (ts : List TableEntry). (commit : LogCommit)
              → IsPayload ts payload commit → ⊥) (tables_of read.commits (reader_of tables)) none,
        ))

    pub scan_found : IsScanned tables x (records_in tables x)
    scan_found = by_end read.ends

-- ---- what is in the grammar is read

record_there : (tables : List TableEntry) (commit : LogCommit) → IsLogged tables commit
    → (record_at tables (record_bytes commit) ≡ Some (Ok commit))
    × (record_len (record_bytes commit) ≡ length (record_bytes commit))
record_there tables commit fits = (
  ap (λ (o : Option (List ℕ)). option_map (payload_read tables) o) (framed_whole (payload_bytes commit) fits.small)
      ∙ ap (λ (r : Result LogCommit ℕ). some_read r) (payload_again tables (payload_bytes commit) commit
      (record { lawful = fits.lawful; spelled = refl })),
  ap (λ (n : ℕ). FRAME_BYTES + n) (framed_len (payload_bytes commit) fits.small)
      ∙ sym (framed_length (payload_bytes commit)),
)

again : (commits : List LogCommit) (n k : ℕ) (r : LogReader) (rest : List ℕ) → AreLogged r.tables commits
    → length (records_bytes commits ++ rest) ≤ n → length rest ≤ k
    → read_on n r (records_bytes commits ++ rest) ≡ read_on k (with_commits commits r) rest
again [] n k r rest lawful few fits = enough n k r rest few fits
again (commit ∷ commits) n k r rest lawful few fits =
    let text : List ℕ = record_bytes commit in
    let t : List ℕ = records_bytes commits ++ rest in
    let joined : (text ++ records_bytes commits) ++ rest ≡ text ++ t
    = append_assoc text (records_bytes commits) rest in
    let here = record_there r.tables commit lawful.0 in
    let whole = record_before r.tables text t (Ok commit) here.0 in
    let len : record_len (text ++ t) ≡ length text = whole.1 ∙ here.1 in
    let r' : LogReader = with_commit commit (length text) r in
    ap (λ (l : List ℕ). read_on n r l) joined
    ∙ enough n (suc n) r (text ++ t) (omega (arith, few, ap (λ (l : List ℕ). length l) joined))
    (omega (arith, few, ap (λ (l : List ℕ). length l) joined))
    ∙ goes_on n r (text ++ t) commit whole.0
    ∙ ap (λ (j : ℕ). read_on n (with_commit commit j r) (drop j (text ++ t))) len
    ∙ ap (λ (l : List ℕ). read_on n r' l) (drop_at text t (length text) refl)
    ∙ again commits n k r' rest lawful.1
    (omega (arith, few, ap (λ (l : List ℕ). length l) joined, length-append text t)) fits

scan_same : (a b : Scan) → a.commits ≡ b.commits → a.places ≡ b.places → a.end ≡ b.end → a.stale ≡ b.stale
    → a.bad ≡ b.bad → a ≡ b
scan_same a b commits places end stale bad =
    ap (λ (c : List LogCommit). record a { commits = c }) commits
    ∙ ap (λ (p : List ℕ). record a { commits = b.commits; places = p }) places
    ∙ ap (λ (e : ℕ). record a { commits = b.commits; places = b.places; end = e }) end
    ∙ ap (λ (s : Bool). record b { stale = s; bad = a.bad }) stale
    ∙ ap (λ (o : Option ℕ). record b { bad = o }) bad

faulty : (tables : List TableEntry) (p : List ℕ) (read : Result LogCommit ℕ) → payload_read tables p ≡ read
    → IsBytes p → ((commit : LogCommit) → IsPayload tables p commit → ⊥) → (at : ℕ) × (payload_read tables p ≡ Err at)
faulty tables p (Ok commit) is fits none = absurd (none commit (payload_takes tables p commit fits is))
faulty tables p (Err at) is fits none = (at, is)

module _ (tables : List TableEntry) (x : List ℕ) (s : Scan) (fits : IsBytes x) (scanned : IsScanned tables x s) where
  abbrev behind : LogReader
  behind = with_commits s.commits (reader_of tables)

  reads : read_on (length x) (reader_of tables) x ≡ read_on (length scanned.rest) behind scanned.rest
  reads =
      ap (λ (l : List ℕ). read_on (length l) (reader_of tables) l) scanned.spelled
      ∙ again s.commits (length (records_bytes s.commits ++ scanned.rest)) (length scanned.rest) (reader_of tables)
      scanned.rest scanned.lawful (omega arith) (omega arith)

  rest_fits : IsBytes scanned.rest
  rest_fits =
      subst (λ (l : List ℕ). IsBytes l)
      (ap (λ (l : List ℕ). drop (length (records_bytes s.commits)) l) scanned.spelled
      ∙ drop_at (records_bytes s.commits) scanned.rest (length (records_bytes s.commits)) refl)
      (IsBytes-drop (length (records_bytes s.commits)) x fits)

  same : (t : Scan) → t.commits ≡ behind.scan.commits → t.places ≡ behind.scan.places → t.end ≡ behind.scan.end
      → t.stale ≡ behind.scan.stale → t.bad ≡ s.bad → t ≡ s
  same t commits places end stale bad =
      scan_same t s (commits ∙ commits_of s.commits (reader_of tables))
      (places ∙ places_of s.commits (reader_of tables) ∙ sym scanned.places)
      (end ∙ end_of s.commits (reader_of tables) ∙ sym scanned.end)
      (stale ∙ stale_of s.commits (reader_of tables) ∙ sym scanned.fresh) bad

  by_bad : (bad : Option ℕ) → s.bad ≡ bad → Ends (tables_behind tables s.commits) scanned.rest s.end bad
      → records_in tables x ≡ s
  by_bad None is none =
      ap (λ (r : LogReader). r.scan)
      (reads ∙ ends_there (length scanned.rest) behind scanned.rest
      (ap (λ (o : Option (List ℕ)). option_map (payload_read behind.tables) o) none))
      ∙ same behind.scan refl refl refl refl (bad_of s.commits (reader_of tables) ∙ sym is)
  by_bad (Some bad) is (place, p, whole, none) =
      let r = payload_read behind.tables p in
      let no = subst (λ (ts : List TableEntry). (commit : LogCommit) → IsPayload ts p commit → ⊥)
      (sym (tables_of s.commits (reader_of tables))) none in
      let p_fits = subst (λ (l : List ℕ). IsBytes l) (sym (payload_is scanned.rest p whole))
      (IsBytes-take (stored_len scanned.rest) (drop FRAME_BYTES scanned.rest)
      (IsBytes-drop FRAME_BYTES scanned.rest rest_fits)) in
      let fault = faulty behind.tables p r refl p_fits no in
      ap (λ (r : LogReader). r.scan)
      (reads
      ∙ enough (length scanned.rest) (suc (length scanned.rest)) behind scanned.rest (omega arith) (omega arith)
      ∙ bad_there (length scanned.rest) behind scanned.rest fault.0
      (ap (λ (o : Option (List ℕ)). option_map (payload_read behind.tables) o) whole
      ∙ ap (λ (q : Result LogCommit ℕ). some_read q) fault.1))
      ∙ same (marked_bad behind).scan refl refl refl refl
      (ap (λ (e : ℕ). Some e) (end_of s.commits (reader_of tables) ∙ sym scanned.end ∙ sym place) ∙ sym is)

  pub scan_only : records_in tables x ≡ s
  scan_only = by_bad s.bad refl scanned.ends

-- ---- whole logs

module _ (tables : List TableEntry) (iteration : ℕ) (log : List ℕ) (fits : IsBytes log) where
  pub log_found : (s : Scan) → LOG_HEADER_BYTES < length log → header_read iteration log ≡ Ok false
      → log_read tables iteration log ≡ Ok s → IsLog tables iteration log s
  log_found s long header reads = record {
    long = long;
    header = header;
    records =
        subst (λ (t : Scan). IsScanned tables (drop LOG_HEADER_BYTES log) t)
        (scan_is (records_in tables (drop LOG_HEADER_BYTES log)) s
        (sym (read_good tables iteration log header) ∙ reads))
        (scan_found tables (drop LOG_HEADER_BYTES log) (IsBytes-drop LOG_HEADER_BYTES log fits));
  }

  pub log_only : (s : Scan) → IsLog tables iteration log s → log_read tables iteration log ≡ Ok s
  log_only s is =
      read_good tables iteration log is.header
      ∙ ap (λ (t : Scan). good_scan t)
      (scan_only tables (drop LOG_HEADER_BYTES log) s (IsBytes-drop LOG_HEADER_BYTES log fits) is.records)

-- what a call answered
module _ (tables : List TableEntry) (iteration : ℕ) (log : List ℕ) (fits : IsBytes log) where
  pub call_found : (result : Result Scan LogError) → Scans result (log_read tables iteration log)
      → IfOk result (λ s. LOG_HEADER_BYTES < length log → header_read iteration log ≡ Ok false
      → IsLog tables iteration log s)
  call_found (Ok s) is = λ long header. log_found tables iteration log fits s long header is
  call_found (Err e) is = tt

  pub call_only : (result : Result Scan LogError) → Scans result (log_read tables iteration log) → (s : Scan)
      → IsLog tables iteration log s → Scans result (Ok s)
  call_only result is s lawful =
      subst (λ (r : Result Scan Damage). Scans result r) (log_only tables iteration log fits s lawful) is
