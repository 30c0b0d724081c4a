-- What a run keeps between its lines.
use Rattle.std.specs.Prelude.{◌≡◌, ◌≤◌, ℕ, true, List, [], length, Option}
use Rattle.dk_io.specs.NextLine.{IsReadOut}
use Rattle.dk_io.specs.ReaderState.{ReaderState, fresh_reader}
use Rattle.dk_script.specs.declared.line.TheConstants.{MAX_LINE}
use Rattle.dk_script.specs.declared.run.TheConstants.{MAX_SCRIPT}

-- a reader of a script that has read nothing
abbrev pub start : ReaderState
start = fresh_reader MAX_LINE MAX_SCRIPT

-- the limits are the script's and kept, the page is empty, and the end of the input is the source's
pub record IsReady (reading : ReaderState) (page : List ℕ) (left : Option (List ℕ)) : Type 0 where
  pub limit : reading.limit ≡ MAX_LINE
  pub total : reading.total ≡ MAX_SCRIPT
  pub taken : reading.taken ≤ reading.total
  pub empty : page ≡ []
  pub ended : reading.ended ≡ true → IsReadOut reading left

-- a line was read, and may be answered
pub record IsToAnswer (reading : ReaderState) (page : List ℕ) : Type 0 where
  pub short : length reading.line ≤ MAX_LINE
  pub empty : page ≡ []
