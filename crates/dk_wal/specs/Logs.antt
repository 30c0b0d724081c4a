-- Logs that their records fill, and records that fit behind them.
use Rattle.std.specs.Prelude.{◌≡◌, ℕ, ◌+◌, ◌<◌, ◌≤◌, Bool, false, List, [], ◌∷◌, ◌++◌, length, drop, Option, None, Some, Ok}
use Rattle.std.specs.List.{flat_map}
use Rattle.dk_header.specs.declared.log.TheConstants.{LOG_HEADER_BYTES}
use Rattle.dk_pages.specs.declared.log.LogCommit.{LogCommit}
use Rattle.dk_pages.specs.declared.tree.TableEntry.{TableEntry}
use Rattle.dk_wal.specs.declared.limits.TheConstants.{MOST_PAYLOAD}
use Rattle.dk_wal.specs.declared.log_scan.Scan.{Scan}
use Rattle.dk_wal.specs.Payload.{payload_bytes, tables_after, IsCommit, IsPayload}
use Rattle.dk_wal.specs.Records.{record_bytes, payload_at}
use Rattle.dk_wal.specs.LogReading.{header_read, log_read, nothing}

-- the tables behind these commits
abbrev pub tables_behind : List TableEntry → List LogCommit → List TableEntry
tables_behind tables [] = tables
tables_behind tables (commit ∷ commits) = tables_behind (tables_after tables commit) commits

-- ---- the grammar

-- a commit that is in the grammar with these tables, no longer than a record may be
pub record IsLogged (tables : List TableEntry) (commit : LogCommit) : Type 0 where
  pub lawful : IsCommit tables commit
  pub small : length (payload_bytes commit) ≤ MOST_PAYLOAD

-- commits one behind the other, each with the tables that those before it leave
abbrev pub AreLogged : List TableEntry → List LogCommit → Type 0
AreLogged tables [] = Unit {0}
AreLogged tables (commit ∷ commits) = IsLogged tables commit × AreLogged (tables_after tables commit) commits

-- their records, one behind the other, and the places of these
abbrev pub records_bytes : List LogCommit → List ℕ
records_bytes commits = flat_map record_bytes commits

abbrev pub places_from : ℕ → List LogCommit → List ℕ
places_from place [] = []
places_from place (commit ∷ commits) = place ∷ places_from (place + length (record_bytes commit)) commits

-- what stands behind the records: no whole record, or one whose payload is that of no commit, at its place
abbrev pub Ends : List TableEntry → List ℕ → ℕ → Option ℕ → Type 0
Ends tables rest end None = payload_at rest ≡ None
Ends tables rest end (Some bad) = (bad ≡ end) × (payload : List ℕ) × (payload_at rest ≡ Some payload)
    × ((commit : LogCommit) → IsPayload tables payload commit → ⊥)

-- the bytes behind a header are the records of a scan's commits, up to its end
pub record IsScanned (tables : List TableEntry) (bytes : List ℕ) (scan : Scan) : Type 0 where
  pub rest : List ℕ
  pub lawful : AreLogged tables scan.commits
  pub spelled : bytes ≡ records_bytes scan.commits ++ rest
  pub places : scan.places ≡ places_from LOG_HEADER_BYTES scan.commits
  pub end : scan.end ≡ LOG_HEADER_BYTES + length (records_bytes scan.commits)
  pub ends : Ends (tables_behind tables scan.commits) rest scan.end scan.bad
  pub fresh : scan.stale ≡ false

-- a log that has more than a header, which is of this iteration, with these records
pub record IsLog (tables : List TableEntry) (iteration : ℕ) (log : List ℕ) (scan : Scan) : Type 0 where
  pub long : LOG_HEADER_BYTES < length log
  pub header : header_read iteration log ≡ Ok false
  pub records : IsScanned tables (drop LOG_HEADER_BYTES log) scan

-- ---- logs that may be appended to, and logs that hold nothing

-- a log of this iteration that says this, and has no byte behind its records
pub record IsFilled (tables : List TableEntry) (iteration : ℕ) (scan : Scan) (log : List ℕ) : Type 0 where
  pub long : LOG_HEADER_BYTES ≤ length log
  pub header : header_read iteration log ≡ Ok false
  pub reads : log_read tables iteration log ≡ Ok scan
  pub good : scan.bad ≡ None
  pub end : scan.end ≡ length log

-- the record of a commit that is in the grammar with these tables
pub record IsRecord (tables : List TableEntry) (commit : LogCommit) (bytes : List ℕ) : Type 0 where
  pub lawful : IsCommit tables commit
  pub small : length (payload_bytes commit) ≤ MOST_PAYLOAD
  pub spelled : bytes ≡ record_bytes commit

-- an empty or a stale log: it holds no record, and nothing that is damaged
abbrev pub HoldsNothing : List TableEntry → ℕ → List ℕ → Type 0
HoldsNothing tables iteration log = (stale : Bool) × (log_read tables iteration log ≡ Ok (nothing stale))
