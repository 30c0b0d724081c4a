-- A header that was written is read again.
use Rattle.std.proofs.Common.{◌≡◌, ℕ, zero, suc, ◌+◌, ◌-◌, ◌*◌, ◌/◌, ◌%◌, ◌^◌, ◌<◌, Bool, true, not, ◌==◌, ◌&&◌, List, ◌++◌, length, drop, replicate, Option, None, Some, Ok, Err, refl, sym, subst, arith, if◌then◌else◌}
use Rattle.std.specs.Int.{w32, w64, to_le_bytes, from_le_bytes}
use Rattle.std.specs.Int.Bits.{bit_xor}
use Rattle.std.specs.List.{position, prefix_len}
use Rattle.std.proofs.lemmas.Bool.{le-ltb, eq-eqb}
use Rattle.std.proofs.lemmas.List.{length-replicate}
use Rattle.std.proofs.lemmas.Nat.{xor_lt, from_le_bytes-to_le_bytes_8}
use Rattle.dk_bytes.specs.Checksum.{spread, with_bytes, checksum_of}
use Rattle.dk_types.specs.declared.damage.Damage.TheVariants.{HeaderSum, Malformed}
use Rattle.dk_types.specs.declared.damage.Part.TheVariants.{Header}
use Rattle.dk_header.specs.declared.header.TheConstants.{HEADER_BYTES, BODY_BYTES, SUM_BYTES, VERSION_PLACE, MAIN_FIELDS_END, ITERATION_PLACE, ROOT_PLACE, BLOCKS_PLACE, BODY_FIELDS_END, MAGIC, MOST_ITERATIONS}
use Rattle.dk_header.specs.declared.header.DbHeader.{DbHeader}
use Rattle.dk_header.specs.declared.header.MainFault.TheVariants.{NotADatabase, Malformed as MainMalformed}
use Rattle.dk_header.specs.Layout.{with_checksum, main_bytes, body_bytes, number_at, place_behind, sum_matches, main_read, body_read, iteration_fits}

spread_below : (x : ℕ) → x < 2 ^ 64 → spread x < 2 ^ 64
spread_below x lt = xor_lt 64 x (x / 2 ^ 29) lt (omega arith)

wrapped_below : (x : ℕ) → x % 2 ^ 64 < 2 ^ 64
wrapped_below x = omega arith

pub checksum_below : (bytes : List ℕ) → checksum_of bytes < 2 ^ 64
checksum_below bytes = spread_below (bit_xor (with_bytes 5381 bytes) (length bytes) * 0x9E3779B97F4A7C15 % 2 ^ 64)
    (wrapped_below (bit_xor (with_bytes 5381 bytes) (length bytes) * 0x9E3779B97F4A7C15))

pub number_first : (n : ℕ) (rest : List ℕ) → n < 2 ^ 64 → from_le_bytes w64 (to_le_bytes w64 n ++ rest) ≡ n
number_first n rest lt = from_le_bytes-to_le_bytes_8 n lt

-- the checksum in front of with_checksum bytes is theirs
pub with_checksum_matches : (bytes : List ℕ) → from_le_bytes w64 (with_checksum bytes) ≡ checksum_of bytes
with_checksum_matches bytes = number_first (checksum_of bytes) bytes (checksum_below bytes)

framed_matches : (bytes : List ℕ) → sum_matches (with_checksum bytes) ≡ true
framed_matches bytes = eq-eqb (number_at 0 (with_checksum bytes)) (checksum_of bytes) (with_checksum_matches bytes)

zeros : (n : ℕ) → prefix_len (λ (x : ℕ). not (not (x == 0))) (replicate n 0) ≡ n
zeros zero = refl
zeros (suc n) = rw (zeros n) (omega arith)

-- among zeros nothing is found
no_nonzero : (n : ℕ) → position (λ (b : ℕ). not (b == 0)) (replicate n 0) ≡ None
no_nonzero n =
    let len : length (replicate n 0) ≡ n = length-replicate {A = ℕ} n 0 in
    rw (zeros n, len, le-ltb n n (omega arith)) refl

body_chosen : (twin first iteration root blocks computed : ℕ) (matches fits : Bool) (place : Option ℕ)
    (header : DbHeader)
    → matches ≡ true → fits ≡ true → place ≡ None → iteration ≡ header.iteration → root ≡ header.root
    → blocks ≡ header.blocks
    → (if matches
    then (if fits
    then elim (place_behind (BODY_FIELDS_END - SUM_BYTES) place) [
      | None ↦ Ok record { iteration = iteration; root = root; blocks = blocks }
      | Some at ↦ Err (Malformed Header at)
    ]
    else Err (Malformed Header 0))
    else Err (HeaderSum twin first computed)) ≡ Ok header
body_chosen twin first iteration root blocks computed matches fits place header m f p i r b = rw (m, f, p, i, r, b) refl

-- the fields of a header behind its checksum, from each one on
abbrev fields_of : DbHeader → List ℕ
fields_of header = to_le_bytes w64
    header.iteration ++ (to_le_bytes w64
    header.root ++ (to_le_bytes w64 header.blocks ++ replicate (BODY_BYTES - BODY_FIELDS_END) 0))

pub body_again : (twin : ℕ) (header : DbHeader) → header.iteration < 2 ^ 64 → header.root < 2 ^ 64
    → header.blocks < 2 ^ 64
    → iteration_fits header.iteration ≡ true → body_read twin (body_bytes header) ≡ Ok header
body_again twin header i r b fits =
    let zeros : List ℕ = replicate (BODY_BYTES - BODY_FIELDS_END) 0 in
    let body = body_bytes header in
    let first : number_at ITERATION_PLACE body ≡ header.iteration =
    number_first header.iteration (to_le_bytes w64 header.root ++ (to_le_bytes w64 header.blocks ++ zeros)) i in
    body_chosen twin (number_at 0 body) (number_at ITERATION_PLACE body) (number_at ROOT_PLACE body)
    (number_at BLOCKS_PLACE body) (checksum_of (drop SUM_BYTES body)) (sum_matches body)
    (iteration_fits (number_at ITERATION_PLACE body))
    (position (λ (b : ℕ). not (b == 0)) (drop (BODY_FIELDS_END - SUM_BYTES) (drop SUM_BYTES body))) header
    (framed_matches (fields_of header))
    (subst (λ (n : ℕ). iteration_fits n ≡ true) (sym first) fits)
    (no_nonzero (BODY_BYTES - BODY_FIELDS_END))
    first
    (number_first header.root (to_le_bytes w64 header.blocks ++ zeros) r)
    (number_first header.blocks zeros b)

main_chosen : (version number : ℕ) (matches magic : Bool) (place : Option ℕ) → matches ≡ true → magic ≡ true
    → place ≡ None → number ≡ version
    → (if matches && magic then
    elim (place_behind MAIN_FIELDS_END place) [ None ↦ Ok number | Some at ↦ Err (MainMalformed at) ] else Err
    NotADatabase) ≡ Ok version
main_chosen version number matches magic place m f p n = rw (m, f, p, n) refl

pub main_again : (version : ℕ) → version < 2 ^ 64 → main_read (main_bytes version) ≡ Ok version
main_again version v =
    let zeros : List ℕ = replicate (HEADER_BYTES - MAIN_FIELDS_END) 0 in
    let bytes = main_bytes version in
    main_chosen version (number_at VERSION_PLACE bytes) (sum_matches bytes)
    (from_le_bytes w32 (drop SUM_BYTES bytes) == MAGIC)
    (position (λ (b : ℕ). not (b == 0)) (drop MAIN_FIELDS_END bytes))
    (framed_matches (to_le_bytes w32 MAGIC ++ (to_le_bytes w64 version ++ zeros)))
    refl
    (no_nonzero (HEADER_BYTES - MAIN_FIELDS_END))
    (number_first version zeros v)
