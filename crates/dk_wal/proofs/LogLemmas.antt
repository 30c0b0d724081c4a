-- Logs that share a front, and a log with one more record.
use Rattle.std.proofs.Common.{◌≡◌, ℕ, ◌+◌, ◌-◌, ◌<◌, ◌≤◌, ◌&&◌, ◌⊎◌, Bool, true, false, cond, ltb, eqb, List, [], ◌∷◌, ◌++◌, length, take, drop, None, Some, Result, Ok, Err, refl, sym, ap, subst, ◌∙◌, arith, inl, inr}
use Rattle.std.specs.Int.{w64, from_le_bytes}
use Rattle.std.proofs.lemmas.Bool.{cases_lt, le-leb, lt-leb}
use Rattle.std.proofs.lemmas.List.{take-take, length-take, length-drop, length-append, drop-append-le, drop_all}
use Rattle.std.proofs.Math.Seq.{take-append_seam}
use Rattle.dk_bytes.specs.Checksum.{checksum_of}
use Rattle.dk_types.specs.declared.damage.Damage.{Damage}
use Rattle.dk_types.specs.declared.damage.Damage.TheVariants.{LogHeader, LogAhead}
use Rattle.dk_header.specs.declared.log.TheConstants.{LOG_MAGIC, LOG_HEADER_BYTES}
use Rattle.dk_pages.specs.declared.log.LogCommit.{LogCommit}
use Rattle.dk_pages.specs.declared.tree.TableEntry.{TableEntry}
use Rattle.dk_wal.specs.declared.limits.TheConstants.{FRAME_BYTES, ITERATION_PLACE, HEADER_SUM_PLACE}
use Rattle.dk_wal.specs.declared.log_scan.Scan.{Scan}
use Rattle.dk_wal.specs.declared.log_scan.LogReader.{LogReader}
use Rattle.dk_wal.specs.Payload.{payload_bytes, payload_read, tables_after, IsCommit}
use Rattle.dk_wal.specs.Records.{payload_at}
use Rattle.dk_wal.specs.LogReading.{stored_magic, stored_iteration, stored_header_sum, header_sum, header_read, record_len, nothing, with_record, with_commit, read_on, reader_of, records_in, scan_by, log_read}
use Rattle.dk_wal.specs.Logs.{tables_behind, IsFilled, IsRecord, HoldsNothing}
use Rattle.dk_wal.proofs.FrontLemmas.{word_front, drop_front, none_in_few, framed_whole, framed_len, framed_length}
use Rattle.dk_wal.proofs.ReadingLemmas.{along, end_later, stale_not, read_behind, read_front, one_read, none_read}
use Rattle.dk_wal.proofs.PayloadLemmas.{payload_again}

-- ---- the header

abbrev pub header_by : ℕ → ℕ → ℕ → ℕ → ℕ → Result Bool Damage
header_by iteration magic stored sum computed =
    cond (eqb magic LOG_MAGIC && eqb sum computed)
    (cond (ltb iteration stored) (Err (LogAhead stored iteration)) (Ok (ltb stored iteration)))
    (Err (LogHeader sum computed))

-- a front that has all of it
pub header_front : (iteration k : ℕ) (log : List ℕ) → LOG_HEADER_BYTES ≤ k
    → header_read iteration (take k log) ≡ header_read iteration log
header_front iteration k log long =
    let magic = word_front k log (omega (arith, long)) in
    let stored : stored_iteration (take k log) ≡ stored_iteration log =
    ap (λ (l : List ℕ). from_le_bytes w64 l) (drop_front ITERATION_PLACE k log (omega (arith, long)))
    ∙ word_front (k - ITERATION_PLACE) (drop ITERATION_PLACE log) (omega (arith, long)) in
    let sum : stored_header_sum (take k log) ≡ stored_header_sum log =
    ap (λ (l : List ℕ). from_le_bytes w64 l) (drop_front HEADER_SUM_PLACE k log (omega (arith, long)))
    ∙ word_front (k - HEADER_SUM_PLACE) (drop HEADER_SUM_PLACE log) (omega (arith, long)) in
    let computed : header_sum (take k log) ≡ header_sum log =
    ap (λ (l : List ℕ). checksum_of l) (take-take HEADER_SUM_PLACE k log (omega (arith, long))) in
    ap (λ (n : ℕ). header_by iteration n (stored_iteration (take k log)) (stored_header_sum (take k log))
    (header_sum (take k log))) magic
    ∙ ap (λ (n : ℕ). header_by iteration (stored_magic log) n (stored_header_sum (take k log))
    (header_sum (take k log))) stored
    ∙ ap (λ (n : ℕ). header_by iteration (stored_magic log) (stored_iteration log) n (header_sum (take k log))) sum
    ∙ ap (λ (n : ℕ). header_by iteration (stored_magic log) (stored_iteration log) (stored_header_sum log) n) computed

pub header_before : (iteration : ℕ) (log t : List ℕ) → LOG_HEADER_BYTES ≤ length log
    → header_read iteration (log ++ t) ≡ header_read iteration log
header_before iteration log t long =
    sym (header_front iteration (length log) (log ++ t) long)
    ∙ ap (λ (l : List ℕ). header_read iteration l) (take-append_seam log t)

-- ---- the whole log

-- no more than a header
pub read_short : (tables : List TableEntry) (iteration : ℕ) (log : List ℕ) → length log ≤ LOG_HEADER_BYTES
    → log_read tables iteration log ≡ Ok (nothing false)
read_short tables iteration log short = rw (le-leb (length log) LOG_HEADER_BYTES short) refl

pub read_long : (tables : List TableEntry) (iteration : ℕ) (log : List ℕ) → LOG_HEADER_BYTES < length log
    → log_read tables iteration log ≡ scan_by (header_read iteration log) tables log
read_long tables iteration log long = rw (lt-leb (length log) LOG_HEADER_BYTES long) refl

abbrev pub all_of : List TableEntry → List ℕ → LogReader
all_of tables log = read_on (length (drop LOG_HEADER_BYTES log)) (reader_of tables) (drop LOG_HEADER_BYTES log)

abbrev header_of : Bool → Result Bool Damage
header_of stale = Ok stale

abbrev pub good_scan : Scan → Result Scan Damage
good_scan scan = Ok scan

-- a log whose header is in order says what its records say
pub read_good : (tables : List TableEntry) (iteration : ℕ) (log : List ℕ) → header_read iteration log ≡ Ok false
    → log_read tables iteration log ≡ Ok (records_in tables (drop LOG_HEADER_BYTES log))
read_good tables iteration log header = elim (cases_lt LOG_HEADER_BYTES (length log)) [
  | inl long ↦ read_long tables iteration log long
      ∙ ap (λ (r : Result Bool Damage). scan_by r tables log) header
  | inr short ↦
      read_short tables iteration log short
      ∙ ap (λ (l : List ℕ). good_scan (records_in tables l)) (sym (drop_all LOG_HEADER_BYTES log short))
]

-- the same, as a call finds it
pub good_log : (tables : List TableEntry) (iteration : ℕ) (log : List ℕ) (stale : Bool) (scan : Scan)
    → Ok stale ≡ header_read iteration log → stale ≡ false → scan ≡ records_in tables (drop LOG_HEADER_BYTES log)
    → log_read tables iteration log ≡ Ok scan
good_log tables iteration log stale scan header fresh is =
    read_good tables iteration log (sym header ∙ ap (λ (b : Bool). header_of b) fresh)
    ∙ ap (λ (s : Scan). good_scan s) (sym is)

-- ---- the tables behind the records

tables_more : (tables : List TableEntry) (commits : List LogCommit) (commit : LogCommit)
    → tables_behind tables (commits ++ commit ∷ []) ≡ tables_after (tables_behind tables commits) commit
tables_more tables [] commit = refl
tables_more tables (first ∷ commits) commit = tables_more (tables_after tables first) commits commit

-- those of a reader are the ones behind its records
tables_follow : (n : ℕ) (r : LogReader) (x : List ℕ) (tables : List TableEntry)
    → r.tables ≡ tables_behind tables r.scan.commits
    → (read_on n r x).tables ≡ tables_behind tables (read_on n r x).scan.commits
tables_follow n r x tables is = along (λ s. s.tables ≡ tables_behind tables s.scan.commits)
    (λ s commit len p. ap (λ (t : List TableEntry). tables_after t commit) p
    ∙ sym (tables_more tables s.scan.commits commit)) (λ s p. p) n r x is

-- ---- a log that its records fill, and what stands behind it

pub scan_is : (a b : Scan) → good_scan a ≡ good_scan b → a ≡ b
scan_is a b e = cc

module _ (tables : List TableEntry) (iteration : ℕ) (scan : Scan) (log : List ℕ)
    (filled : IsFilled tables iteration scan log) where
  abbrev start : LogReader
  start = reader_of tables

  abbrev records : List ℕ
  records = drop LOG_HEADER_BYTES log

  pub reader_same : (all_of tables log).scan ≡ scan
  reader_same = scan_is (all_of tables log).scan scan
      (sym (read_good tables iteration log filled.header) ∙ filled.reads)

  reader_tables : (all_of tables log).tables ≡ tables_behind tables scan.commits
  reader_tables = tables_follow (length records) start records tables refl
      ∙ ap (λ (s : Scan). tables_behind tables s.commits) reader_same

  pub reader_end : (all_of tables log).scan.end ≡ LOG_HEADER_BYTES + length records
  reader_end = omega (
    arith,
    ap (λ (s : Scan). s.end) reader_same,
    filled.end,
    filled.long,
    length-drop LOG_HEADER_BYTES log,
  )

  -- what stands behind it is read on
  read_tail : (t : List ℕ)
      → log_read tables iteration (log ++ t) ≡ Ok (read_on (length t) (all_of tables log) t).scan
  read_tail t =
      let all : drop LOG_HEADER_BYTES (log ++ t) ≡ records ++ t = drop-append-le LOG_HEADER_BYTES log t filled.long in
      read_good tables iteration (log ++ t) (header_before iteration log t filled.long ∙ filled.header)
      ∙ ap (λ (l : List ℕ). good_scan (read_on (length l) start l).scan) all
      ∙ ap (λ (r : LogReader). good_scan r.scan)
      (read_behind t (length records) (length (records ++ t)) (length t) start records (omega arith) (omega arith)
      (omega arith) (ap (λ (s : Scan). s.bad) reader_same ∙ filled.good) reader_end)

  -- no whole record
  pub none_more : (t : List ℕ) → payload_at t ≡ None → log_read tables iteration (log ++ t) ≡ Ok scan
  none_more t none =
      read_tail t
      ∙ ap (λ (r : LogReader). good_scan r.scan)
      (sym (none_read (all_of tables log) t none))
      ∙ ap (λ (s : Scan). good_scan s) reader_same

  module _ (commit : LogCommit) (t : List ℕ) (fits : IsRecord (tables_behind tables scan.commits) commit t) where
    payload_here : payload_at t ≡ Some (payload_bytes commit)
    payload_here = ap (λ (l : List ℕ). payload_at l) fits.spelled ∙ framed_whole (payload_bytes commit) fits.small

    pub record_fills : record_len t ≡ length t
    record_fills =
        ap (λ (l : List ℕ). record_len l) fits.spelled
        ∙ ap (λ (n : ℕ). FRAME_BYTES + n) (framed_len (payload_bytes commit) fits.small)
        ∙ sym (framed_length (payload_bytes commit))
        ∙ ap (λ (l : List ℕ). length l) (sym fits.spelled)

    payload_good : payload_read (all_of tables log).tables (payload_bytes commit) ≡ Ok commit
    payload_good = payload_again (all_of tables log).tables (payload_bytes commit) commit record {
      lawful = subst (λ (ts : List TableEntry). IsCommit ts commit) (sym reader_tables) fits.lawful;
      spelled = refl;
    }

    -- the record of a commit
    pub one_more : log_read tables iteration (log ++ t) ≡ Ok (with_record commit (length t) scan)
    one_more =
        let all = all_of tables log in
        let next = with_commit commit (length t) all in
        read_tail t
        ∙ ap (λ (r : LogReader). good_scan r.scan)
        (sym (one_read all next t (payload_bytes commit) payload_here (length t) (sym record_fills)
        (commit, payload_good, refl))
        ∙ sym (none_read next (drop (length t) t)
        (none_in_few (drop (length t) t) (omega (arith, length-drop (length t) t)))))
        ∙ ap (λ (s : Scan). good_scan (with_record commit (length t) s)) reader_same

    pub one_more_fills : IsFilled tables iteration (with_record commit (length t) scan) (log ++ t)
    one_more_fills = record {
      long = omega (arith, filled.long, length-append log t);
      header = header_before iteration log t filled.long ∙ filled.header;
      reads = one_more;
      good = filled.good;
      end = omega (arith, filled.end, length-append log t);
    }

-- ---- fronts of a log

-- what a header may be
abbrev HeaderCases : Result Bool Damage → Type 0
HeaderCases r = ((damage : Damage) × (r ≡ Err damage)) ⊎ ((r ≡ Ok true) ⊎ (r ≡ Ok false))

header_cases : (r : Result Bool Damage) → HeaderCases r
header_cases (Err damage) = inl (damage, refl)
header_cases (Ok true) = inr (inl refl)
header_cases (Ok false) = inr (inr refl)

damage_no_scan : (damage : Damage) (scan : Scan) → Err damage ≡ good_scan scan → ⊥
damage_no_scan damage scan e = absurd cc

pub true_not_false : true ≡ false → ⊥
true_not_false e = absurd cc

-- a log that says that it is stale has the header of one
stale_header : (r : Result Bool Damage) (tables : List TableEntry) (log : List ℕ)
    → scan_by r tables log ≡ Ok (nothing true) → r ≡ Ok true
stale_header (Err damage) tables log e = absurd (damage_no_scan damage (nothing true) e)
stale_header (Ok true) tables log e = refl
stale_header (Ok false) tables log e = absurd (true_not_false (sym (ap (λ (s : Scan). s.stale)
    (scan_is (records_in tables (drop LOG_HEADER_BYTES log)) (nothing true) e))
    ∙ stale_not (length (drop LOG_HEADER_BYTES log)) (reader_of tables) (drop LOG_HEADER_BYTES log) refl))

module _ (tables : List TableEntry) (iteration k : ℕ) (log : List ℕ) where
  front_good : (stale : Bool) → LOG_HEADER_BYTES < length log → LOG_HEADER_BYTES < length (take k log)
      → header_read iteration log ≡ Ok stale → header_read iteration (take k log) ≡ Ok stale
  front_good stale long part is =
      header_front iteration k log (omega (arith, part, length-take k log)) ∙ is

  -- of a log that is not stale and that is whole up to the cut
  pub front_reads : (scan : Scan) → log_read tables iteration log ≡ Ok scan → scan.stale ≡ false → scan.bad ≡ None
      → scan.end ≤ k → log_read tables iteration (take k log) ≡ Ok scan
  front_reads scan reads fresh good within = elim (cases_lt LOG_HEADER_BYTES (length log)) [
    | inr short ↦
        read_short tables iteration (take k log) (omega (arith, short, length-take k log))
        ∙ sym (read_short tables iteration log short) ∙ reads
    | inl long ↦ by_header (header_cases (header_read iteration log)) long
  ]
    where
      front_of_good : header_read iteration log ≡ Ok false → log_read tables iteration (take k log) ≡ Ok scan
      front_of_good is =
          let x = drop LOG_HEADER_BYTES log in
          let all = all_of tables log in
          let same : all.scan ≡ scan = scan_is all.scan scan (sym (read_good tables iteration log is) ∙ reads) in
          let later = end_later (length x) (reader_of tables) x in
          let j : LOG_HEADER_BYTES ≤ k = omega (arith, later, ap (λ (s : Scan). s.end) same, within) in
          let rest : drop LOG_HEADER_BYTES (take k log) ≡ take (k - LOG_HEADER_BYTES) x
          = drop_front LOG_HEADER_BYTES k log j in
          read_good tables iteration (take k log) (header_front iteration k log j ∙ is)
          ∙ ap (λ (l : List ℕ). good_scan (records_in tables l)) rest
          ∙ ap (λ (r : LogReader). good_scan r.scan)
          (read_front (length x) (length (take (k - LOG_HEADER_BYTES) x)) (k - LOG_HEADER_BYTES) (reader_of tables) x
          (omega arith) (omega arith) (ap (λ (s : Scan). s.bad) same ∙ good)
          (omega (arith, ap (λ (s : Scan). s.end) same, within, j)))
          ∙ ap (λ (s : Scan). good_scan s) same

      by_header : HeaderCases (header_read iteration log) → LOG_HEADER_BYTES < length log
          → log_read tables iteration (take k log) ≡ Ok scan
      by_header (inl (damage, is)) long =
          absurd (damage_no_scan damage scan
          (sym (ap (λ (r : Result Bool Damage). scan_by r tables log) is) ∙ sym (read_long tables iteration log long)
          ∙ reads))
      by_header (inr (inl is)) long =
          let same = scan_is (nothing true) scan
          (sym (ap (λ (r : Result Bool Damage). scan_by r tables log) is) ∙ sym (read_long tables iteration log long)
          ∙ reads) in
          absurd (true_not_false (ap (λ (s : Scan). s.stale) same ∙ fresh))
      by_header (inr (inr is)) long = front_of_good is

  -- of a log that holds nothing
  pub front_nothing : HoldsNothing tables iteration log → HoldsNothing tables iteration (take k log)
  front_nothing (true, reads) = elim (cases_lt LOG_HEADER_BYTES (length (take k log))) [
    | inr short ↦ (false, read_short tables iteration (take k log) short)
    | inl part ↦
        let long : LOG_HEADER_BYTES < length log = omega (arith, part, length-take k log) in
        (true, read_long tables iteration (take k log) part ∙ stale_front part long)
  ]
    where
      stale_front : LOG_HEADER_BYTES < length (take k log) → LOG_HEADER_BYTES < length log
          → scan_by (header_read iteration (take k log)) tables (take k log) ≡ Ok (nothing true)
      stale_front part long =
          ap (λ (r : Result Bool Damage). scan_by r tables (take k log))
          (header_front iteration k log (omega (arith, part, length-take k log))
          ∙ stale_header (header_read iteration log) tables log
          (sym (read_long tables iteration log long) ∙ reads))
  front_nothing (false, reads) = elim (cases_lt LOG_HEADER_BYTES k) [
    | inr short ↦ (false, read_short tables iteration (take k log) (omega (arith, short, length-take k log)))
    | inl part ↦ (false, front_reads (nothing false) reads refl refl (omega (arith, part)))
  ]

-- ---- what a log of this iteration says

module _ (tables : List TableEntry) (iteration : ℕ) (log : List ℕ) (scan : Scan)
    (header : header_read iteration log ≡ Ok false) (reads : log_read tables iteration log ≡ Ok scan) where
  said : (all_of tables log).scan ≡ scan
  said = scan_is (all_of tables log).scan scan (sym (read_good tables iteration log header) ∙ reads)

  -- it ends behind the header
  pub good_end : LOG_HEADER_BYTES ≤ scan.end
  good_end = omega (
    arith,
    end_later (length (drop LOG_HEADER_BYTES log)) (reader_of tables) (drop LOG_HEADER_BYTES log),
    ap (λ (s : Scan). s.end) said,
  )

  -- and it is not stale
  pub good_fresh : scan.stale ≡ false
  good_fresh = sym (ap (λ (s : Scan). s.stale) said)
      ∙ stale_not (length (drop LOG_HEADER_BYTES log)) (reader_of tables) (drop LOG_HEADER_BYTES log) refl
