-- The reading of a log: its header, and the records behind it up to the first that does not stand whole.
use Rattle.std.specs.Prelude.{◌≡◌, ℕ, zero, suc, ◌+◌, Bool, true, false, ◌&&◌, List, [], ◌∷◌, ◌++◌, length, take, drop, Option, Some, None, Result, Ok, Err, nat_lt, nat_le, ◌==◌, if◌then◌else◌}
use Rattle.std.proofs.Common.{option_map}
use Rattle.std.specs.Int.{w64, from_le_bytes}
use Rattle.dk_bytes.specs.Checksum.{checksum_of}
use Rattle.dk_types.specs.declared.damage.Damage.{Damage}
use Rattle.dk_types.specs.declared.damage.Damage.TheVariants.{LogHeader, LogAhead}
use Rattle.dk_pages.specs.declared.log.LogCommit.{LogCommit}
use Rattle.dk_pages.specs.declared.tree.TableEntry.{TableEntry}
use Rattle.dk_header.specs.declared.log.TheConstants.{LOG_MAGIC, LOG_HEADER_BYTES}
use Rattle.dk_wal.specs.Payload.{payload_read, tables_after}
use Rattle.dk_wal.specs.Records.{stored_len, payload_at}
use Rattle.dk_wal.specs.declared.limits.TheConstants.{FRAME_BYTES, ITERATION_PLACE, HEADER_SUM_PLACE}
use Rattle.dk_wal.specs.declared.log_scan.Scan.{Scan}
use Rattle.dk_wal.specs.declared.log_scan.LogReader.{LogReader}
use Rattle.dk_wal.specs.declared.log_scan.LogError.{LogError}
use Rattle.dk_wal.specs.declared.log_scan.LogError.TheVariants.{Damaged, OutOfMemory}

-- ---- the header

abbrev pub stored_magic : List ℕ → ℕ
stored_magic log = from_le_bytes w64 log

abbrev pub stored_iteration : List ℕ → ℕ
stored_iteration log = from_le_bytes w64 (drop ITERATION_PLACE log)

-- the checksum in the header, and that of the bytes before it
abbrev pub stored_header_sum : List ℕ → ℕ
stored_header_sum log = from_le_bytes w64 (drop HEADER_SUM_PLACE log)

abbrev pub header_sum : List ℕ → ℕ
header_sum log = checksum_of (take HEADER_SUM_PLACE log)

-- the magic of a log, and its checksum behind the iteration
abbrev pub is_header : List ℕ → Bool
is_header log = (stored_magic log == LOG_MAGIC) && (stored_header_sum log == header_sum log)

-- whether the log is of an earlier iteration than the current one, or what is wrong with its header
abbrev pub header_read : ℕ → List ℕ → Result Bool Damage
header_read iteration log =
    if is_header log
    then (if nat_lt iteration (stored_iteration log) then Err (LogAhead (stored_iteration log) iteration)
    else Ok (nat_lt (stored_iteration log) iteration))
    else Err (LogHeader (stored_header_sum log) (header_sum log))

-- ---- the records

-- how many bytes the record at the front has
abbrev pub record_len : List ℕ → ℕ
record_len bytes = FRAME_BYTES + stored_len bytes

-- the commit of the record that stands whole at the front, or the fault of its payload; none where the log ends here
abbrev pub record_at : List TableEntry → List ℕ → Option (Result LogCommit ℕ)
record_at tables bytes = option_map (payload_read tables) (payload_at bytes)

-- no records
abbrev pub nothing : Bool → Scan
nothing stale = record { commits = []; places = []; end = LOG_HEADER_BYTES; stale = stale; bad = None }

-- one more record, of so many bytes, at the end
abbrev pub with_record : LogCommit → ℕ → Scan → Scan
with_record commit bytes scan = record scan {
  commits = scan.commits ++ commit ∷ [];
  places = scan.places ++ scan.end ∷ [];
  end = scan.end + bytes;
}

-- one more record, and the tables behind it
abbrev pub with_commit : LogCommit → ℕ → LogReader → LogReader
with_commit commit bytes reader =
    record { tables = tables_after reader.tables commit; scan = with_record commit bytes reader.scan }

-- what stands at the end is not in the grammar
abbrev pub marked_bad : LogReader → LogReader
marked_bad reader = record reader { scan = record reader.scan { bad = Some reader.scan.end } }

-- what a reading comes to at what stands there: the end, a fault of the payload, or a commit, behind which it goes on
abbrev pub go_on : (LogCommit → LogReader) → LogReader → Option (Result LogCommit ℕ) → LogReader
go_on behind reader None = reader
go_on behind reader (Some (Err at)) = marked_bad reader
go_on behind reader (Some (Ok commit)) = behind commit

-- what was read before, and then at most so many records
abbrev pub read_on : ℕ → LogReader → List ℕ → LogReader
read_on zero reader bytes = reader
read_on (suc n) reader bytes = go_on
    (λ commit. read_on n (with_commit commit (record_len bytes) reader) (drop (record_len bytes) bytes)) reader
    (record_at reader.tables bytes)

-- nothing is read yet, with these tables
abbrev pub reader_of : List TableEntry → LogReader
reader_of tables = record { tables = tables; scan = nothing false }

-- all records from these bytes on: no more than there are bytes
abbrev pub records_in : List TableEntry → List ℕ → Scan
records_in tables bytes = (read_on (length bytes) (reader_of tables) bytes).scan

-- what a log says behind a header of this kind
abbrev pub scan_by : Result Bool Damage → List TableEntry → List ℕ → Result Scan Damage
scan_by (Err damage) tables log = Err damage
scan_by (Ok true) tables log = Ok (nothing true)
scan_by (Ok false) tables log = Ok (records_in tables (drop LOG_HEADER_BYTES log))

-- what a log says at an iteration, read with the tables of the tree: no more than a header is no records, whatever
-- its bytes are
abbrev pub log_read : List TableEntry → ℕ → List ℕ → Result Scan Damage
log_read tables iteration log =
    if nat_le (length log) LOG_HEADER_BYTES then Ok (nothing false)
    else scan_by (header_read iteration log) tables log

-- what a call answered is what a log says, unless memory ran out
abbrev pub Scans : Result Scan LogError → Result Scan Damage → Type 0
Scans (Ok scan) read = read ≡ Ok scan
Scans (Err (Damaged damage)) read = read ≡ Err damage
Scans (Err OutOfMemory) read = Unit {0}
