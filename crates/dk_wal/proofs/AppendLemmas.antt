-- A record that is appended: what a crash leaves of the log.
use Rattle.std.proofs.Common.{◌≡◌, ◌⊎◌, ℕ, suc, ◌+◌, ◌-◌, ◌<◌, ◌≤◌, false, List, ◌++◌, length, take, drop, Option, None, Some, Result, Ok, option_map, get_or, refl, sym, ap, subst, ◌∙◌, arith, inl, inr}
use Rattle.std.specs.Prelude.{IfSome, min, slice_get, bytes_eq}
use Rattle.std.specs.Int.{w32, from_le_bytes}
use Rattle.std.proofs.lemmas.Bool.{cases_Bool}
use Rattle.std.proofs.lemmas.Slice.Eq.{bytes_eq-Decides}
use Rattle.std.proofs.lemmas.List.{take_all, take-append-drop, length-take, length-drop, drop-append-le, drop-drop, drop_all, append-nil, get_or-take, ext_get_or}
use Rattle.std.proofs.lemmas.Option.{get_or_from_slice_get, slice_get-get_or}
use Rattle.dk_device.specs.declared.device.Disk.{Ghosts}
use Rattle.dk_device.specs.declared.device.FileId.TheVariants.{Wal}
use Rattle.dk_device.specs.declared.calls.DiskCall.{DiskCall}
use Rattle.dk_device.specs.Calls.{Makes, synced_write}
use Rattle.dk_device.specs.Changes.{images_of, IsSynced, Changes}
use Rattle.dk_device.specs.Disk.{TornWrite, Follows, overlay}
use Rattle.dk_device.proofs.ChangeLemmas.{changes_less}
use Rattle.dk_header.specs.declared.log.TheConstants.{LOG_HEADER_BYTES}
use Rattle.dk_pages.specs.declared.log.LogCommit.{LogCommit}
use Rattle.dk_pages.specs.declared.tree.TableEntry.{TableEntry}
use Rattle.dk_wal.specs.declared.limits.TheConstants.{FRAME_BYTES}
use Rattle.dk_wal.specs.declared.log_scan.Scan.{Scan}
use Rattle.dk_wal.specs.declared.log_scan.LogReader.{LogReader}
use Rattle.dk_device.proofs.ReplacementLemmas.{known}
use Rattle.dk_wal.specs.Payload.{payload_read}
use Rattle.dk_wal.specs.Records.{payload_at}
use Rattle.dk_wal.specs.LogReading.{record_len, record_at, with_record, with_commit, read_on, reader_of, log_read}
use Rattle.dk_wal.specs.Logs.{tables_behind, IsFilled, IsRecord}
use Rattle.dk_wal.specs.Chance.{StandsAt, record_in, Lead, IsTaken, WalWrite, is_handed, IsByChance, HasNoOther, unsynced_writes}
use Rattle.dk_wal.specs.Crashes.{SaysOneMoreAtMost, SaysOneMore, AppendCrash}
use Rattle.dk_wal.proofs.FrontLemmas.{first_four, len_front, within_of, record_before, some_of}
use Rattle.dk_wal.proofs.ReadingLemmas.{by_records}
use Rattle.dk_wal.proofs.LogLemmas.{true_not_false, reader_same, reader_end, none_more, one_more, one_more_fills, record_fills}
use Rattle.dk_wal.proofs.CutLemmas.{known_length}
use Rattle.dk_wal.proofs.ChanceLemmas.{AreThis, this_alone, handed_is}

some_is : (a b : List ℕ) → Some a ≡ Some b → a ≡ b
some_is a b e = cc

-- ---- records that fill a log lead to its end

abbrev LeadsToEnd : LogReader → List ℕ → LogReader → Type 0
LeadsToEnd r x s = s.scan.end ≡ r.scan.end + length x → (t image : List ℕ) (from : ℕ) → drop from image ≡ x ++ t
    → (m : ℕ) × Lead m image from (from + length x)

lead_none : (r : LogReader) (x : List ℕ) → record_at r.tables x ≡ None → LeadsToEnd r x r
lead_none r x none end t image from is = (0, omega (arith, end))

lead_one : (r s : LogReader) (x : List ℕ) (commit : LogCommit) → record_at r.tables x ≡ Some (Ok commit)
    → record_len x ≤ length x → LeadsToEnd (with_commit commit (record_len x) r) (drop (record_len x) x) s
    → LeadsToEnd r x s
lead_one r s x commit found within rest end t image from is =
    let x' : List ℕ = drop (record_len x) x in
    let whole = record_before r.tables x t (Ok commit) found in
    let p = some_of (payload_read r.tables) (payload_at (x ++ t)) (Ok commit) whole.0 in
    let len : record_len (drop from image) ≡ record_len x = ap (λ (l : List ℕ). record_len l) is ∙ whole.1 in
    let behind : drop (from + record_len x) image ≡ x' ++ t =
    sym (drop-drop (record_len x) from image)
    ∙ ap (λ (l : List ℕ). drop (record_len x) l) is ∙ drop-append-le (record_len x) x t within in
    let last = rest (omega (arith, end, within, length-drop (record_len x) x)) t image (from + record_len x) behind in
    let place : from + record_len x + length x' ≡ from + length x
    = omega (arith, within, length-drop (record_len x) x) in (
      suc last.0,
      (
        (p.0, ap (λ (l : List ℕ). payload_at l) is ∙ p.1),
        subst (λ (a : ℕ). Lead last.0 image (from + a) (from + length x)) (sym len)
            (subst (λ (b : ℕ). Lead last.0 image (from + record_len x) b) place last.1),
      ),
    )

lead_to_end : (r : LogReader) (x t image : List ℕ) (from : ℕ) → drop from image ≡ x ++ t
    → (read_on (length x) r x).scan.bad ≡ None → (read_on (length x) r x).scan.end ≡ r.scan.end + length x
    → (m : ℕ) × Lead m image from (from + length x)
lead_to_end r x t image from is good end =
    by_records LeadsToEnd lead_none lead_one (length x) r x (omega arith) good end t image from is

-- ---- the bytes behind the old end

none_or_one : (o : Option (List ℕ)) → (o ≡ None) ⊎ ((p : List ℕ) × (o ≡ Some p))
none_or_one None = inl refl
none_or_one (Some p) = inr (p, refl)

-- a write at the end of a file leaves its bytes, and then no more than it has
torn_end : (end n : ℕ) (old new : List ℕ) → length old ≡ end → TornWrite end n end old new
    → (new ≡ old ++ drop end new) × (length (drop end new) ≤ n)
torn_end end n old new len torn =
    let is : min end (length old) ≡ end = omega (arith, len) in
    let front : take end new ≡ old =
    subst (λ (j : ℕ). take j new ≡ take end old) is torn.before ∙ take_all end old (omega (arith, len)) in (
      sym (take-append-drop end new) ∙ ap (λ (l : List ℕ). l ++ drop end new) front,
      omega (arith, length-drop end new, torn.no_longer, len),
    )

-- a record there that is as long as what was written is all that stands there
all_there : (t bytes : List ℕ) → take (record_len t) t ≡ bytes → length t ≤ length bytes → t ≡ bytes
all_there t bytes is few =
    let len = ap (λ (l : List ℕ). length l) is in
    sym (take_all (record_len t) t (omega (arith, len, few, length-take (record_len t) t))) ∙ is

-- a record of whose bytes each is that of another record is this other one
same_record : (t p bytes : List ℕ) → payload_at t ≡ Some p → record_len bytes ≡ length bytes
    → ((i : ℕ) → i < length (take (record_len t) t) → slice_get bytes i ≡ Some
    (get_or (take (record_len t) t) i 0)) → take (record_len t) t ≡ bytes
same_record t p bytes whole fills each = ext_get_or 0 found bytes (omega (arith, found_len, same_len, fills)) every
  where
    found : List ℕ
    found = take (record_len t) t

    found_len : length found ≡ record_len t
    found_len = omega (arith, length-take (record_len t) t, within_of t p whole)

    every : (i : ℕ) → i < length found → get_or found i 0 ≡ get_or bytes i 0
    every i lt = sym (get_or_from_slice_get bytes i (get_or found i 0) 0 (each i lt))

    four : (i : ℕ) → i < length (take 4 found) → get_or (take 4 found) i 0 ≡ get_or (take 4 bytes) i 0
    four i lt =
        let low : i < 4 = omega (arith, lt, length-take 4 found) in
        get_or-take 4 found i 0 low ∙ every i (omega (arith, low, found_len)) ∙ sym (get_or-take 4 bytes i 0 low)

    four_same : take 4 found ≡ take 4 bytes
    four_same = ext_get_or 0 (take 4 found) (take 4 bytes)
        (omega (arith, length-take 4 found, length-take 4 bytes, found_len, fills)) four

    same_len : record_len t ≡ record_len bytes
    same_len =
        ap (λ (n : ℕ). FRAME_BYTES + n)
        (sym (len_front (record_len t) t (omega arith))
        ∙ sym (first_four found)
        ∙ ap (λ (l : List ℕ). from_le_bytes w32 l) four_same
        ∙ first_four bytes)

-- ---- the log with the record, or without

module _ (end : ℕ) (bytes old new : List ℕ) (tables : List TableEntry) (iteration : ℕ) (scan : Scan)
    (commit : LogCommit) (filled : IsFilled tables iteration scan old) (at_end : scan.end ≡ end)
    (fits : IsRecord (tables_behind tables scan.commits) commit bytes)
    (torn : TornWrite end (length bytes) end old new) where
  abbrev tail : List ℕ
  tail = drop end new

  joined : (new ≡ old ++ tail) × (length tail ≤ length bytes)
  joined = torn_end end (length bytes) old new (omega (arith, filled.end, at_end)) torn

  abbrev Says : List ℕ → Type 0
  Says log = (log_read tables iteration log ≡ Ok scan)
      ⊎ (log_read tables iteration log ≡ Ok (with_record commit (length bytes) scan))

  pub says_at_most : HasNoOther end bytes new → Says new
  says_at_most alone = subst Says (sym joined.0) (elim (none_or_one (payload_at tail)) [
    | inl none ↦ inl (none_more tables iteration scan old filled tail none)
    | inr some ↦
        let is : tail ≡ bytes = all_there tail bytes (alone some) joined.1 in
        inr (subst (λ (l : List ℕ). log_read tables iteration (old ++ l)
        ≡ Ok (with_record commit (length bytes) scan)) (sym is)
        (one_more tables iteration scan old filled commit bytes fits))
  ])

  taken : StandsAt new end → IsTaken new end
  taken stands =
      let records : List ℕ = drop LOG_HEADER_BYTES old in
      let rest : drop LOG_HEADER_BYTES new ≡ records ++ tail =
      ap (λ (l : List ℕ). drop LOG_HEADER_BYTES l) joined.0
      ∙ drop-append-le LOG_HEADER_BYTES old tail filled.long in
      let lead = lead_to_end (reader_of tables) records tail new LOG_HEADER_BYTES rest
      (ap (λ (s : Scan). s.bad) (reader_same tables iteration scan old filled) ∙ filled.good)
      (reader_end tables iteration scan old filled) in
      let place : LOG_HEADER_BYTES + length records ≡ end =
      omega (arith, filled.end, filled.long, at_end, length-drop LOG_HEADER_BYTES old) in
      record {
        records = lead.0;
        lead = subst (λ (b : ℕ). Lead lead.0 new LOG_HEADER_BYTES b) place lead.1;
        stands = stands;
      }

  -- where this write alone counts, what stands there is this record or stands there by chance
  pub no_chance : (writes : List WalWrite) → AreThis end bytes writes
      → (IsByChance end (Some bytes) writes new → ⊥) → HasNoOther end bytes new
  no_chance writes alone none stands = elim (cases_Bool (bytes_eq found bytes)) [
    | inl same ↦ (bytes_eq-Decides found bytes).0 same
    | inr differs ↦
        same_record tail stands.0 bytes stands.1
        (record_fills tables iteration scan old filled commit bytes fits) (each differs)
  ]
    where
      found : List ℕ
      found = record_in end new

      each : bytes_eq found bytes ≡ false → (i : ℕ) → i < length found
          → slice_get bytes i ≡ Some (get_or found i 0)
      each differs i lt = elim (cases_Bool (is_handed writes (end + i) (get_or found i 0))) [
        | inl handed ↦
            let is = handed_is end bytes writes (end + i) (get_or found i 0) alone handed in
            let place : end + i - end ≡ i = omega arith in
            subst (λ (j : ℕ). slice_get bytes j ≡ Some (get_or found i 0)) place is.1
        | inr strange ↦ absurd (none record {
          place = end;
          behind = omega arith;
          taken = taken stands;
          other = λ here is. other_bytes differs is;
          at = i;
          byte = get_or found i 0;
          is = slice_get-get_or found i 0 lt;
          unknown = strange;
        })
      ]
        where
          other_bytes : bytes_eq found bytes ≡ false → Some found ≡ Some bytes → ⊥
          other_bytes no_eq is =
              let same : found ≡ bytes = some_is found bytes is in
              let yes = (bytes_eq-Decides found bytes).1 same in
              absurd (true_not_false (sym yes ∙ no_eq))

-- ---- at each moment

module _ {D : Type 0} (g : Ghosts D) (end : ℕ) (bytes : List ℕ) (a b : D)
    (changes : Changes g (TornWrite end (length bytes) end) Wal a b) where
  pub append_crash : {T E : Type 0} (r : Result T E) → Makes g (synced_write Wal end bytes) a b r
      → AppendCrash g end bytes a b
  append_crash r makes = record {
    images =
        changes_less g (TornWrite end (length bytes) end)
        (λ d c. HasNoOther end bytes c → SaysOneMoreAtMost end bytes d c) Wal a b
        (λ d c left torn alone tables iteration scan commit filled is fits.
        says_at_most end bytes d c tables iteration scan commit filled is fits torn alone) changes;
    by_calls = λ synced k c from upto left.
        if_told (g.calls b) (unsynced_writes k) (AreThis end bytes)
        (λ writes. (IsByChance end (Some bytes) writes c → ⊥) → (d : List ℕ) × images_of g a Wal d
        × SaysOneMoreAtMost end bytes d c)
        (λ writes alone none. let start = changes.inside k c from upto left in (
          start.0,
          start.1,
          λ tables iteration scan commit filled is fits.
              says_at_most end bytes start.0 c tables iteration scan commit filled is fits start.2
              (no_chance end bytes start.0 c tables iteration scan commit filled is fits start.2 writes alone none),
        ))
        (this_alone end bytes g a b r makes synced k from);
  }
    where
      if_told : (told : Option (List DiskCall)) (f : List DiskCall → List WalWrite) (P Q : List WalWrite → Type 0)
          → ((writes : List WalWrite) → P writes → Q writes) → IfSome told (λ calls. P (f calls))
          → IfSome told (λ calls. Q (f calls))
      if_told None f P Q k p = tt
      if_told (Some calls) f P Q k p = k (f calls) p

-- ---- behind the sync

-- written at its end, a file has the bytes behind it
written_end : (end : ℕ) (bytes m : List ℕ) → length m ≡ end → overlay end bytes m ≡ m ++ bytes
written_end end bytes m len =
    ap (λ (l : List ℕ). take end m ++ bytes ++ l) (drop_all (end + length bytes) m (omega (arith, len)))
    ∙ append-nil (take end m ++ bytes)
    ∙ ap (λ (l : List ℕ). l ++ bytes) (take_all end m (omega (arith, len)))

pub append_done : {D : Type 0} (g : Ghosts D) (end : ℕ) (bytes : List ℕ) (a b : D)
    → g.content b Wal ≡ option_map (overlay end bytes) (g.content a Wal) → IsSynced g b Wal
    → IfSome (g.content a Wal) (λ (m : List ℕ). length m ≡ g.extent a Wal)
    → ((m : List ℕ) → g.content a Wal ≡ Some m → images_of g a Wal m) → g.extent a Wal ≡ end
    → Follows (SaysOneMore end bytes) (images_of g a Wal) (images_of g b Wal)
append_done g end bytes a b written synced told left extent c now =
    let old = known (overlay end bytes) (g.content a Wal) (g.content b Wal) c written (synced c now) in
    let len = known_length (g.content a Wal) old.0 (g.extent a Wal) old.1 told in
    let is : c ≡ old.0 ++ bytes = old.2 ∙ written_end end bytes old.0 (omega (arith, len, extent)) in (
      old.0,
      left old.0 old.1,
      λ tables iteration scan commit filled at_end fits.
          subst (λ (l : List ℕ). IsFilled tables iteration (with_record commit (length bytes) scan) l) (sym is)
          (one_more_fills tables iteration scan old.0 filled commit bytes fits),
    )
