-- One record of a log, read.
use Rattle.std.specs.Prelude.{◌≡◌, ℕ, Bool, true, false, Result, Ok, Err}
use Rattle.dk_pages.specs.declared.log.LogCommit.{LogCommit}
use Rattle.dk_wal.specs.LogReading.{with_commit, marked_bad}
use Rattle.dk_wal.specs.declared.log_scan.LogReader.{LogReader}

-- the commit of a payload is added, or its place is marked
abbrev pub Follows : Result LogCommit ℕ → ℕ → Bool → LogReader → LogReader → Type 0
Follows read bytes true old new = (commit : LogCommit) × (read ≡ Ok commit) × (new ≡ with_commit commit bytes old)
Follows read bytes false old new = (at : ℕ) × (read ≡ Err at) × (new ≡ marked_bad old)
