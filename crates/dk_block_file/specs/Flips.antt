-- The two database headers of the main file, and when a twin's may be written.
use Rattle.std.specs.Prelude.{◌≡◌, ◌≢◌, ℕ, ◌+◌, ◌-◌, ◌*◌, ◌<◌, Bool, true, false, Ok, List, [], ◌∷◌, take, drop, slice_index, if◌then◌else◌}
use Rattle.dk_header.specs.declared.header.TheConstants.{HEADER_BYTES, BODY_BYTES, OPEN_GATE, CLOSED_GATE}
use Rattle.dk_header.specs.declared.header.DbHeader.{DbHeader}
use Rattle.dk_header.specs.Layout.{body_read}

-- the place of a twin's header, and of its gate
abbrev pub header_place : ℕ → ℕ
header_place twin = HEADER_BYTES + HEADER_BYTES * twin

abbrev pub gate_place : ℕ → ℕ
gate_place twin = header_place twin + BODY_BYTES

abbrev pub body_at : ℕ → List ℕ → List ℕ
body_at twin main = take BODY_BYTES (drop (header_place twin) main)

abbrev pub gate_at : ℕ → List ℕ → ℕ
gate_at twin main = slice_index main (gate_place twin)

-- in each of these images a twin's gate is closed
abbrev pub IsClosed : ℕ → (List ℕ → Type 0) → Type 0
IsClosed twin images = (c : List ℕ) → images c → gate_at twin c ≢ OPEN_GATE

-- in each of them it is open
abbrev pub IsOpen : ℕ → (List ℕ → Type 0) → Type 0
IsOpen twin images = (c : List ℕ) → images c → gate_at twin c ≡ OPEN_GATE

-- in each of them the twin has this body
abbrev pub HasBody : ℕ → List ℕ → (List ℕ → Type 0) → Type 0
HasBody twin body images = (c : List ℕ) → images c → body_at twin c ≡ body

-- its body is the same in each
abbrev pub HasOneBody : ℕ → (List ℕ → Type 0) → Type 0
HasOneBody twin images = (c d : List ℕ) → images c → images d → body_at twin c ≡ body_at twin d

-- in each of these images the other twin is open with a higher iteration than this one's body, which is whole
abbrev pub IsLower : ℕ → (List ℕ → Type 0) → Type 0
IsLower twin images = (c : List ℕ) → images c → (mine theirs : DbHeader) × (body_read twin (body_at twin c) ≡ Ok mine)
    × (body_read (1 - twin) (body_at (1 - twin) c) ≡ Ok theirs) × (gate_at (1 - twin) c ≡ OPEN_GATE)
    × (mine.iteration < theirs.iteration)

-- when a twin's gate may be written with 0, or with nothing
abbrev pub MayClose : Bool → ℕ → (List ℕ → Type 0) → Type 0
MayClose true twin images = IsLower twin images
MayClose false twin images = IsClosed twin images

-- what closes the gate, or nothing where it is closed
abbrev pub closing_bytes : Bool → List ℕ
closing_bytes was_open = if was_open then CLOSED_GATE ∷ [] else []
