-- The exit status of each way that a run ends.
use Rattle.std.specs.Prelude.{ℕ}
use Rattle.dk_types.specs.declared.status.Status.{Status}
use Rattle.dk_types.specs.declared.status.Status.TheVariants.{Done, Usage, BadLine, ReadFault, WriteFault, DiskFault, NotADatabase, VersionUnknown, Damaged, OutOfMemory, ScriptTooLong}

abbrev pub code_of : Status → ℕ
code_of Done = 0
code_of Usage = 2
code_of (BadLine line) = 3
code_of ReadFault = 4
code_of WriteFault = 5
code_of DiskFault = 6
code_of NotADatabase = 7
code_of (VersionUnknown found) = 8
code_of (Damaged damage) = 9
code_of OutOfMemory = 10
code_of ScriptTooLong = 12
