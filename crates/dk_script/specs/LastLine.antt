-- The last line of a run, by its status.
use Rattle.std.specs.Prelude.{ℕ, List, [], ◌++◌, codes, decimal, Option, Some, None}
use Rattle.dk_types.specs.declared.status.Status.{Status}
use Rattle.dk_types.specs.declared.status.Status.TheVariants.{Done, Usage, BadLine, ReadFault, WriteFault, DiskFault, NotADatabase, VersionUnknown, Damaged, OutOfMemory, ScriptTooLong}

abbrev pub bad_line_text : ℕ → List ℕ
bad_line_text line = codes "bad line " ++ decimal line ++ codes "\n"

-- the last line of a script, by its first bad line
abbrev pub end_text : Option ℕ → List ℕ
end_text None = []
end_text (Some line) = bad_line_text line

-- the statuses of a disk have theirs once there is a disk
abbrev pub last_line : Status → List ℕ
last_line Usage = codes "usage: run | beside | fill N SEED\n"
last_line (BadLine line) = bad_line_text line
last_line ReadFault = codes "read fault\n"
last_line OutOfMemory = codes "out of memory\n"
last_line ScriptTooLong = codes "script too long\n"
last_line Done = []
last_line WriteFault = []
last_line DiskFault = []
last_line NotADatabase = []
last_line (VersionUnknown found) = []
last_line (Damaged damage) = []
