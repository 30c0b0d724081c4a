-- The current header in a main file, and what a flip does to it.
use Rattle.std.specs.Prelude.{◌≡◌, ◌⊎◌, ℕ, ◌-◌, ◌<◌, ◌≤◌, Result, Ok, Err, Option, None, Some, List, length, take, drop}
use Rattle.dk_types.specs.declared.damage.Damage.{Damage}
use Rattle.dk_header.specs.declared.header.TheConstants.{HEADER_BYTES, OPEN_GATE}
use Rattle.dk_header.specs.declared.header.Current.{Current}
use Rattle.dk_header.specs.declared.header.DbHeader.{DbHeader}
use Rattle.dk_header.specs.Layout.{body_read, choice_of}
use Rattle.dk_device.specs.declared.device.Disk.{Ghosts}
use Rattle.dk_device.specs.declared.device.FileId.TheVariants.{Main}
use Rattle.dk_device.specs.Changes.{images_of}
use Rattle.dk_block_file.specs.Flips.{header_place, body_at, gate_at}
use Rattle.dk_block_file.specs.declared.layout.TheConstants.{HEADERS_BYTES}

-- a twin's header with its gate
abbrev pub header_at : ℕ → List ℕ → List ℕ
header_at twin main = take HEADER_BYTES (drop (header_place twin) main)

-- the number and the header of the chosen twin
abbrev pub chosen_twin : Result Current Damage → Option (ℕ × DbHeader)
chosen_twin (Ok current) = Some (current.twin, current.header)
chosen_twin (Err damage) = None

-- the number and the header of the current twin, whether or not the other gate is open
abbrev pub current_in : List ℕ → Option (ℕ × DbHeader)
current_in main = chosen_twin (choice_of (header_at 0 main) (header_at 1 main))

-- the three headers are there, in all that a crash may leave too
pub record HasHeaders {D : Type 0} (g : Ghosts D) (disk : D) : Type 0 where
  pub extent : HEADERS_BYTES ≤ g.extent disk Main
  pub images : (c : List ℕ) → images_of g disk Main c → HEADERS_BYTES ≤ length c

-- in each of these images a twin has this header, and the other is open with a lower iteration
abbrev pub Overtakes : ℕ → DbHeader → (List ℕ → Type 0) → Type 0
Overtakes twin header images = (c : List ℕ) → images c → (theirs : DbHeader)
    × (body_read twin (body_at twin c) ≡ Ok header)
    × (body_read (1 - twin) (body_at (1 - twin) c) ≡ Ok theirs) × (gate_at (1 - twin) c ≡ OPEN_GATE)
    × (theirs.iteration < header.iteration)

-- in each of them this header is the current one
abbrev pub HasCurrent : ℕ → DbHeader → (List ℕ → Type 0) → Type 0
HasCurrent twin header images = (c : List ℕ) → images c → current_in c ≡ Some (twin, header)

-- no shorter, and the same headers
pub record SameFront (old new : List ℕ) : Type 0 where
  pub no_shorter : length old ≤ length new
  pub front : take HEADERS_BYTES new ≡ take HEADERS_BYTES old

-- the current header stays
abbrev pub SameCurrent : List ℕ → List ℕ → Type 0
SameCurrent old new = current_in new ≡ current_in old

-- it stays or becomes this one
abbrev pub SameCurrentOr : ℕ → DbHeader → List ℕ → List ℕ → Type 0
SameCurrentOr twin header old new = (current_in new ≡ current_in old) ⊎ (current_in new ≡ Some (twin, header))
