-- A text on its way to a sink, a page at a time.
use Rattle.std.specs.Prelude.{◌≡◌, ◌≤◌, ⊤, List, [], ◌++◌, ℕ, Option, Result, Ok, Err, OnOk, OnErr, IsErrOf}
use Rattle.std.specs.Io.KnownBytes.{Appends}
use Rattle.dk_io.specs.declared.streams.Sink.{Ghosts}
use Rattle.dk_script.specs.Sinks.{SinkFailed, SendsFront}
use Rattle.dk_types.specs.declared.status.Status.{Status}
use Rattle.dk_types.specs.declared.status.Status.TheVariants.{WriteFault, OutOfMemory}

-- the sink took a front of the whole text, the page holds what comes next, and behind it comes the rest
pub record Paged (old new : Option (List ℕ)) (page rest all : List ℕ) : Type 0 where
  pub sent : List ℕ
  pub taken : Appends old new sent
  pub whole : all ≡ sent ++ (page ++ rest)

-- a text went out, as far as it does not stand on the page
abbrev pub PagesOut : {K : Type 0} → Ghosts K → K → K → List ℕ → List ℕ → Type 0
PagesOut g old new page text = Paged (g.taken old) (g.taken new) page [] text

-- while a reply goes out, only the sink and memory can stop a run
abbrev pub IsOutputStop : {T : Type 0} → Result T Status → Type 0
IsOutputStop (Ok v) = ⊤
IsOutputStop (Err WriteFault) = ⊤
IsOutputStop (Err OutOfMemory) = ⊤
IsOutputStop (Err status) = ⊥

-- how an output may stop: where the sink failed its count of faults shows it, and the count does not fall
pub record MayStop {K T : Type 0} (g : Ghosts K) (old new : K) (result : Result T Status) : Type 0 where
  pub stop : IsOutputStop result
  pub fault : IsErrOf result WriteFault → SinkFailed g old new
  pub later : g.faults old ≤ g.faults new

-- a text goes out: all of it after Ok, as far as it does not stand on the page, and a front of it after an error
pub record WritesText {K T : Type 0} (g : Ghosts K) (old new : K) (page text : List ℕ)
    (result : Result T Status) : Type 0
  where
    pub ok : OnOk result (PagesOut g old new page text)
    pub err : OnErr result (SendsFront g old new text)
    pub stops : MayStop g old new result
