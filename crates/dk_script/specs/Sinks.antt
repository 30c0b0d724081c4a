-- What a sink took, faults of a source and of a sink, and the status that names them.
use Rattle.std.specs.Prelude.{⊤, ℕ, List}
use Rattle.std.specs.Io.KnownBytes.{Appends}
use Rattle.dk_io.specs.Sinks.{TakesFront}
use Rattle.dk_fault.specs.Causes.{Rose}
use Rattle.dk_io.specs.declared.streams.Sink.{Ghosts}
use Rattle.dk_io.specs.declared.streams.Source.{Ghosts as SourceGhosts}
use Rattle.dk_types.specs.declared.status.Status.{Status}
use Rattle.dk_types.specs.declared.status.Status.TheVariants.{Done, Usage, BadLine, ReadFault, WriteFault, DiskFault, Damaged, OutOfMemory, ScriptTooLong}

-- the sink took this text
abbrev pub Sends : {K : Type 0} → Ghosts K → K → K → List ℕ → Type 0
Sends g old new text = Appends (g.taken old) (g.taken new) text

-- the sink took a front of it
abbrev pub SendsFront : {K : Type 0} → Ghosts K → K → K → List ℕ → Type 0
SendsFront g old new text = TakesFront (g.taken old) (g.taken new) text

-- a call of the sink failed
abbrev pub SinkFailed : {K : Type 0} → Ghosts K → K → K → Type 0
SinkFailed g old new = Rose (g.faults old) (g.faults new)

-- a call of the source failed
abbrev pub SourceFailed : {S : Type 0} → SourceGhosts S → S → S → Type 0
SourceFailed g old new = Rose (g.faults old) (g.faults new)

-- what the program may end with: wrong words, and faults of the input and the output, have their cause; a fault of the
-- disk and damage are told in replies
abbrev pub HasCauseIn : Type 0 → Type 0 → Type 0 → Status → Type 0
HasCauseIn usage read write Usage = usage
HasCauseIn usage read write Done = ⊤
HasCauseIn usage read write (BadLine line) = ⊤
HasCauseIn usage read write ReadFault = read
HasCauseIn usage read write WriteFault = write
HasCauseIn usage read write DiskFault = ⊤
HasCauseIn usage read write (Damaged damage) = ⊤
HasCauseIn usage read write OutOfMemory = ⊤
HasCauseIn usage read write ScriptTooLong = ⊤
HasCauseIn usage read write status = ⊥
