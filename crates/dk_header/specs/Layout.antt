-- The layout of the headers, and which database header is current.
use Rattle.std.specs.Prelude.{ℕ, ◌+◌, ◌-◌, ◌^◌, Bool, true, false, not, ◌&&◌, ◌==◌, nat_lt, nat_le, List, ◌++◌, take, drop, replicate, slice_index, Option, None, Some, Result, Ok, Err, if◌then◌else◌}
use Rattle.std.specs.Int.{w32, w64, to_le_bytes, from_le_bytes}
use Rattle.std.specs.List.{position}
use Rattle.dk_bytes.specs.Checksum.{checksum_of}
use Rattle.dk_types.specs.declared.damage.Damage.{Damage}
use Rattle.dk_types.specs.declared.damage.Damage.TheVariants.{HeaderSum, NoGate, SameIteration, Malformed}
use Rattle.dk_types.specs.declared.damage.Part.TheVariants.{Header}
use Rattle.dk_header.specs.declared.header.TheConstants.{HEADER_BYTES, BODY_BYTES, SUM_BYTES, VERSION_PLACE, MAIN_FIELDS_END, ITERATION_PLACE, ROOT_PLACE, BLOCKS_PLACE, BODY_FIELDS_END, OPEN_GATE, MAGIC, MOST_ITERATIONS}
use Rattle.dk_header.specs.declared.header.Current.{Current}
use Rattle.dk_header.specs.declared.header.DbHeader.{DbHeader}
use Rattle.dk_header.specs.declared.header.MainFault.{MainFault}
use Rattle.dk_header.specs.declared.header.MainFault.TheVariants.{NotADatabase, Malformed as MainMalformed}

-- the checksum of bytes, and then these
abbrev pub with_checksum : List ℕ → List ℕ
with_checksum bytes = to_le_bytes w64 (checksum_of bytes) ++ bytes

-- the magic, the version, and zeros
abbrev pub main_bytes : ℕ → List ℕ
main_bytes version = with_checksum
    (to_le_bytes w32 MAGIC ++ (to_le_bytes w64 version ++ replicate (HEADER_BYTES - MAIN_FIELDS_END) 0))

-- the iteration, the root, the number of blocks, and zeros
abbrev pub body_bytes : DbHeader → List ℕ
body_bytes header = with_checksum
    (to_le_bytes w64 header.iteration ++
    (to_le_bytes w64 header.root ++ (to_le_bytes w64 header.blocks ++ replicate (BODY_BYTES - BODY_FIELDS_END) 0)))

-- the number of eight bytes at a place
abbrev pub number_at : ℕ → List ℕ → ℕ
number_at at bytes = from_le_bytes w64 (drop at bytes)

abbrev pub place_behind : ℕ → Option ℕ → Option ℕ
place_behind from None = None
place_behind from (Some place) = Some (from + place)

-- the place of the first byte from a place on that isn't zero
abbrev pub first_nonzero : ℕ → List ℕ → Option ℕ
first_nonzero from bytes = place_behind from (position (λ b. not (b == 0)) (drop from bytes))

-- whether the checksum in front of bytes is theirs
abbrev pub sum_matches : List ℕ → Bool
sum_matches bytes = number_at 0 bytes == checksum_of (drop SUM_BYTES bytes)

-- the version that a main header names
abbrev pub version_at : List ℕ → ℕ
version_at bytes = number_at VERSION_PLACE bytes

-- the version of a main header, or what is wrong with it
abbrev pub main_read : List ℕ → Result ℕ MainFault
main_read bytes =
    if sum_matches bytes && (from_le_bytes w32 (drop SUM_BYTES bytes) == MAGIC)
    then elim (first_nonzero MAIN_FIELDS_END bytes) [ None ↦ Ok (version_at bytes) | Some at ↦ Err (MainMalformed at) ]
    else Err NotADatabase

abbrev pub iteration_fits : ℕ → Bool
iteration_fits iteration = not (iteration == 0) && nat_le iteration MOST_ITERATIONS

-- what the body of a twin's header says, or what is wrong with it, whose place counts from behind the checksum
abbrev pub body_read : ℕ → List ℕ → Result DbHeader Damage
body_read twin body =
    if sum_matches body
    then (if iteration_fits (number_at ITERATION_PLACE body)
    then elim (first_nonzero (BODY_FIELDS_END - SUM_BYTES) (drop SUM_BYTES body)) [
      | None ↦ Ok record {
        iteration = number_at ITERATION_PLACE body;
        root = number_at ROOT_PLACE body;
        blocks = number_at BLOCKS_PLACE body;
      }
      | Some at ↦ Err (Malformed Header at)
    ]
    else Err (Malformed Header 0))
    else Err (HeaderSum twin (number_at 0 body) (checksum_of (drop SUM_BYTES body)))

-- what a twin's header says where its gate is open
abbrev pub twin_read : ℕ → List ℕ → Result (Option DbHeader) Damage
twin_read twin bytes =
    if slice_index bytes BODY_BYTES == OPEN_GATE
    then elim (body_read twin (take BODY_BYTES bytes)) [ Ok header ↦ Ok (Some header) | Err damage ↦ Err damage ]
    else Ok None

abbrev pub current_at : ℕ → DbHeader → Bool → Result Current Damage
current_at twin header other_open = Ok record { twin = twin; header = header; other_open = other_open }

-- of two open ones the one with the higher iteration
abbrev pub higher_of : DbHeader → DbHeader → Result Current Damage
higher_of first second =
    if first.iteration == second.iteration then Err (SameIteration first.iteration)
    else (if nat_lt second.iteration first.iteration then current_at 0 first true else current_at 1 second true)

abbrev pub current_of : Option DbHeader → Option DbHeader → Result Current Damage
current_of None None = Err NoGate
current_of (Some header) None = current_at 0 header false
current_of None (Some header) = current_at 1 header false
current_of (Some first) (Some second) = higher_of first second

-- twin 0 is looked at first
abbrev pub choice_of : List ℕ → List ℕ → Result Current Damage
choice_of h0 h1 = elim (twin_read 0 h0) [
  | Err damage ↦ Err damage
  | Ok first ↦ elim (twin_read 1 h1) [ Err damage ↦ Err damage | Ok second ↦ current_of first second ]
]
