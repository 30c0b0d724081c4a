-- The headers of the main file, as an opening reads them.
use Rattle.std.specs.Prelude.{◌≡◌, ℕ, List, length, take, nat_lt, ◌==◌, Result, Ok, Err, if◌then◌else◌}
use Rattle.dk_types.specs.declared.damage.Damage.{Damage}
use Rattle.dk_types.specs.declared.damage.Damage.TheVariants.{Short, Malformed}
use Rattle.dk_types.specs.declared.damage.Part.TheVariants.{MainHeader}
use Rattle.dk_header.specs.declared.header.Current.{Current}
use Rattle.dk_header.specs.declared.header.MainFault.{MainFault}
use Rattle.dk_header.specs.declared.header.MainFault.TheVariants as fault
use Rattle.dk_header.specs.declared.header.TheConstants.{HEADER_BYTES, VERSION}
use Rattle.dk_header.specs.Layout.{main_read, version_at, choice_of}
use Rattle.dk_block_file.specs.declared.layout.TheConstants.{HEADERS_BYTES}
use Rattle.dk_block_file.specs.Current.{header_at}
use Rattle.dk_recover.specs.declared.refusal.OpenError.{OpenError}
use Rattle.dk_recover.specs.declared.refusal.OpenError.TheVariants.{NotADatabase, VersionUnknown, Damaged, DiskFault, OutOfMemory}

-- what is damaged is refused
abbrev pub or_damaged : {A : Type 0} → Result A Damage → Result A OpenError
or_damaged (Ok x) = Ok x
or_damaged (Err damage) = Err (Damaged damage)

-- a main header of the known version, by what it holds and by the version that it names: another version is told before
-- a byte that should be zero
abbrev pub known_version : ℕ → Result ℕ MainFault → Result ℕ OpenError
known_version version (Err fault.NotADatabase) = Err NotADatabase
known_version version (Err (fault.Malformed at)) =
    if version == VERSION then Err (Damaged (Malformed MainHeader at)) else Err (VersionUnknown version)
known_version version (Ok named) = if version == VERSION then Ok version else Err (VersionUnknown version)

-- the current one of the two database headers, where the file reaches behind them
abbrev pub twins_read : List ℕ → Result Current Damage
twins_read main =
    if nat_lt (length main) HEADERS_BYTES then Err (Short HEADERS_BYTES (length main)) else choice_of
    (header_at 0 main) (header_at 1 main)

-- behind a main header
abbrev pub twins_behind : Result ℕ OpenError → List ℕ → Result Current OpenError
twins_behind (Err refusal) main = Err refusal
twins_behind (Ok version) main = or_damaged (twins_read main)

-- what a file that begins with this main header holds
abbrev pub headers_behind : List ℕ → List ℕ → Result Current OpenError
headers_behind header main = twins_behind (known_version (version_at header) (main_read header)) main

-- the current database header of a main file, or the first refusal: a file without a main header is no database
abbrev pub headers_read : List ℕ → Result Current OpenError
headers_read main =
    if nat_lt (length main) HEADER_BYTES then Err NotADatabase else headers_behind (take HEADER_BYTES main) main

-- what a call answered is what is read, and its refusal the first one, unless the disk or the memory failed
abbrev pub Opens : {X Y : Type 0} → (X → Y) → Result Y OpenError → Result X OpenError → Type 0
Opens view reading (Ok x) = reading ≡ Ok (view x)
Opens view reading (Err DiskFault) = Unit {0}
Opens view reading (Err OutOfMemory) = Unit {0}
Opens view reading (Err NotADatabase) = reading ≡ Err NotADatabase
Opens view reading (Err (VersionUnknown found)) = reading ≡ Err (VersionUnknown found)
Opens view reading (Err (Damaged damage)) = reading ≡ Err (Damaged damage)
