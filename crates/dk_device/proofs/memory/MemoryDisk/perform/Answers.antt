-- The files read as the calls made them, with one call more.
use Rattle.std.proofs.Common.{◌≡◌, ℕ, Bool, true, false, not, is_none, is_some, Option, None, Some, ◌++◌, ◌∷◌, [], List, ap, ◌∙◌, refl, arith, ◌+◌, ◌<◌}
use Rattle.dk_device.specs.declared.calls.DiskCall.{DiskCall}
use Rattle.dk_device.specs.declared.calls.Request.{Request}
use Rattle.dk_device.specs.declared.device.FileId.{FileId}
use Rattle.dk_device.specs.declared.device.TheConstants.{LAST_MOMENT}
use Rattle.dk_device.specs.declared.device.FileId.TheVariants.{Main, Wal}
use Rattle.dk_device.specs.Disk.{call_at}
use Rattle.dk_device.specs.File.{FileState}
use Rattle.dk_device.specs.Memory.{Stands}
use Rattle.dk_device.specs.Replay.{effect_on}
use Rattle.dk_device.proofs.ReplayLemmas.{stands_called}
use Rattle.dk_device.proofs.memory.MemoryDisk.perform.Goals as goal

none_is : {T : Type 0} (o : Option T) (b : Bool) → is_some o ≡ not b → b ≡ is_none o
none_is None true e = refl
none_is None false e = cc
none_is (Some x) true e = cc
none_is (Some x) false e = refl

-- the list with room made, and a call noted in it as done where there is no fault
noted : {T : Type 0} (calls roomy all : List DiskCall) (m : ℕ) (file : FileId) (request : Request)
    (fault : Option T) (none : Bool) → roomy ≡ calls → is_some fault ≡ not none
    → all ≡ roomy ++ call_at m file request none ∷ [] → all ≡ calls ++ call_at m file request (is_none fault) ∷ []
noted calls roomy all m file request fault none same tells is =
    is
    ∙ ap (λ (l : List DiskCall). l ++ call_at m file request none ∷ []) same
    ∙ ap (λ b. calls ++ call_at m file request b ∷ []) (none_is fault none tells)

stands_noted : {T : Type 0} {main wal main' wal' : FileState} {calls roomy all : List DiskCall} {m : ℕ} (file : FileId)
    (request : Request) (fault : Option T) (none : Bool) → Stands main wal calls m → m < LAST_MOMENT
    → main'.start ≡ main.start → wal'.start ≡ wal.start
    → main'.bytes ≡ effect_on (is_none fault) Main file request main.bytes
    → wal'.bytes ≡ effect_on (is_none fault) Wal file request wal.bytes
    → roomy ≡ calls → is_some fault ≡ not none → all ≡ roomy ++ call_at m file request none ∷ []
    → Stands main' wal' all (m + 1)
stands_noted {main} {wal} {main'} {wal'} {calls} {roomy} {all} {m} file request fault none stands lt main_start
    wal_start main_bytes wal_bytes same tells is =
    stands_called main wal main' wal' calls all m file request (is_none fault) stands lt main_start wal_start
    main_bytes wal_bytes (noted calls roomy all m file request fault none same tells is)

pub invariant_of-self-in-None : goal.invariant_of-self-in-None
invariant_of-self-in-None c =
    let tried = c.attempt_at-fault in
    stands_noted c.args.file c.args.request tried.result c.is_none.result c.self.invariant (omega arith)
    tried.ensures.main_start tried.ensures.wal_start tried.ensures.main tried.ensures.wal c.reserve.ensures.items
    c.is_none.ensures c.note.ensures

pub invariant_of-self-in-Some : goal.invariant_of-self-in-Some
invariant_of-self-in-Some c =
    let tried = c.attempt_at-fault in
    stands_noted c.args.file c.args.request tried.result c.is_none.result c.self.invariant (omega arith)
    tried.ensures.main_start tried.ensures.wal_start tried.ensures.main tried.ensures.wal c.reserve.ensures.items
    c.is_none.ensures c.note.ensures
