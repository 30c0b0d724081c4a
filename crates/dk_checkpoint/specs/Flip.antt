-- What a flip of the header does to the main file, and what a crash may leave meanwhile.
use Rattle.std.specs.Prelude.{◌≡◌, ℕ, ◌-◌, ◌<◌, Bool, true, false, List, [], ◌∷◌, ◌++◌, drop, Option, Result, Ok, OnOk, IfErr, if◌then◌else◌}
use Rattle.dk_device.specs.declared.device.Disk.{Ghosts}
use Rattle.dk_device.specs.declared.device.FileId.TheVariants.{Main, Wal}
use Rattle.dk_device.specs.declared.calls.DiskCall.{DiskCall}
use Rattle.dk_device.specs.Calls.{Call, Did, Stopped, synced_write}
use Rattle.dk_device.specs.Changes.{images_of, Changes}
use Rattle.dk_header.specs.declared.header.DbHeader.{DbHeader}
use Rattle.dk_header.specs.declared.header.TheConstants.{OPEN_GATE}
use Rattle.dk_header.specs.Layout.{body_bytes, body_read, iteration_fits}
use Rattle.dk_block_file.specs.declared.layout.TheConstants.{HEADERS_BYTES}
use Rattle.dk_block_file.specs.Current.{HasHeaders, HasCurrent, SameCurrent, SameCurrentOr}
use Rattle.dk_block_file.specs.Flips.{header_place, gate_place, body_at, gate_at, MayClose, closing_bytes}
use Rattle.dk_checkpoint.specs.declared.flipping.FlipFault.{FlipFault}

-- ---- the calls of the disk

-- a twin's gate is closed, or nothing is written; its body is written; its gate is opened
abbrev pub closing_calls : ℕ → Bool → List Call
closing_calls twin was_open = synced_write Main (gate_place twin) (closing_bytes was_open)

abbrev pub body_calls : ℕ → DbHeader → List Call
body_calls twin header = synced_write Main (header_place twin) (body_bytes header)

abbrev pub opening_calls : ℕ → List Call
opening_calls twin = synced_write Main (gate_place twin) (OPEN_GATE ∷ [])

-- those before the opening
abbrev pub calls_before : ℕ → Bool → DbHeader → List Call
calls_before twin was_open header = closing_calls twin was_open ++ body_calls twin header

-- what was done before a flip failed
abbrev pub done_before : ℕ → Bool → DbHeader → FlipFault → List Call
done_before twin was_open header fault =
    if fault.opened then calls_before twin was_open header
    else (if fault.closed then closing_calls twin was_open else [])

-- and the calls of which one failed
abbrev pub failed_among : ℕ → Bool → DbHeader → FlipFault → List Call
failed_among twin was_open header fault =
    if fault.opened then opening_calls twin
    else (if fault.closed then body_calls twin header else closing_calls twin was_open)

-- the first calls were all done, and one of the second ones failed
abbrev pub StopsBehind : {D : Type 0} → Ghosts D → List Call → List Call → D → D → Type 0
StopsBehind g first second old new = (moment : ℕ) × (told : Option (List DiskCall))
    × Did first (g.time old) (g.calls old) moment told
    × Stopped second moment told (g.time new) (g.calls new)

-- ---- the main file

-- the blocks stay
abbrev pub SameBlocks : List ℕ → List ℕ → Type 0
SameBlocks old new = drop HEADERS_BYTES new ≡ drop HEADERS_BYTES old

-- in each of these images the other twin is open with a lower iteration than this header's
abbrev pub IsBehind : ℕ → DbHeader → (List ℕ → Type 0) → Type 0
IsBehind twin header images = (c : List ℕ) → images c → (theirs : DbHeader)
    × (body_read (1 - twin) (body_at (1 - twin) c) ≡ Ok theirs) × (gate_at (1 - twin) c ≡ OPEN_GATE)
    × (theirs.iteration < header.iteration)

-- the header can be read, and its iteration is above that of the open twin
pub record Overtaking (twin : ℕ) (header : DbHeader) (images : List ℕ → Type 0) : Type 0 where
  pub fits : iteration_fits header.iteration ≡ true
  pub behind : IsBehind twin header images

-- A twin's header is flipped to this one: after Ok it is the current one of each image. While the gate isn't opened the
-- current header stays; from then on it stays or is this one. A fault tells how far the flip came, and the gate may be
-- closed again where it wasn't opened.
pub record Flips {D : Type 0} (g : Ghosts D) (twin : ℕ) (was_open : Bool) (header : DbHeader) (old new : D)
    (result : Result (Unit {0}) FlipFault) : Type 0 where
  pub this : OnOk result (Overtaking twin header (images_of g old Main) → HasCurrent twin header (images_of g new Main))
  pub current : Overtaking twin header (images_of g old Main) → Changes g (SameCurrentOr twin header) Main old new
  pub unopened : IfErr result (λ e. e.opened ≡ false → Changes g SameCurrent Main old new)
  pub again : IfErr result (λ e. e.opened ≡ false →
      MayClose (if e.closed then false else was_open) twin (images_of g new Main))
  pub blocks : Changes g SameBlocks Main old new
  pub headers : HasHeaders g new
  pub extent : g.extent new Main ≡ g.extent old Main
  pub log : g.content new Wal ≡ g.content old Wal
  pub log_extent : g.extent new Wal ≡ g.extent old Wal
  pub done : OnOk result (Did (calls_before twin was_open header ++ opening_calls twin)
      (g.time old) (g.calls old) (g.time new) (g.calls new))
  pub stopped : IfErr result (λ e. StopsBehind g (done_before twin was_open header e)
      (failed_among twin was_open header e) old new)
  pub order : IfErr result (λ e. e.opened ≡ true → e.closed ≡ true)
