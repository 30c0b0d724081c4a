-- The gate and the body of a twin behind a write.
use Rattle.std.specs.Prelude.{◌≡◌, ℕ, ◌+◌, ◌-◌, ◌≤◌, List, [], ◌∷◌, ◌++◌, length, drop, replicate, Option, Some, IfSome, refl}
use Rattle.std.proofs.Common.{option_map, sym, ◌∙◌, ap, subst, arith, get_or, append_assoc, length-append}
use Rattle.std.proofs.lemmas.List.{length-replicate, get_or-append_right, get_or-replicate}
use Rattle.std.proofs.Math.ListN.{get_or-append}
use Rattle.dk_header.specs.declared.header.TheConstants.{HEADER_BYTES, BODY_BYTES, MAIN_FIELDS_END, BODY_FIELDS_END, OPEN_GATE, CLOSED_GATE, VERSION}
use Rattle.dk_header.specs.declared.header.DbHeader.{DbHeader}
use Rattle.dk_header.specs.Layout.{main_bytes, body_bytes}
use Rattle.dk_device.specs.Disk.{overlay}
use Rattle.dk_device.proofs.ReplacementLemmas.{known}
use Rattle.dk_block_file.specs.Blocks.{first_header, empty_main}
use Rattle.dk_block_file.specs.Flips.{header_place, gate_place, body_at, gate_at, IsClosed, IsOpen, HasBody}
use Rattle.dk_block_file.proofs.RangeLemmas.{range_inside, byte_written}
use Rattle.dk_block_file.specs.declared.layout.TheConstants.{HEADERS_BYTES}

pub length-body : (header : DbHeader) → length (body_bytes header) ≡ BODY_BYTES
length-body header = ap (λ (n : ℕ). BODY_FIELDS_END + n) (length-replicate {A = ℕ} (BODY_BYTES - BODY_FIELDS_END) 0)

-- after a synced write each image is the content
module _ (twin extent : ℕ) (images : List ℕ → Type 0) (old new : Option (List ℕ)) (low : twin ≤ 1)
    (headers : HEADERS_BYTES ≤ extent)
    (len : IfSome old (λ (m : List ℕ). length m ≡ extent)) (same : (c : List ℕ) → images c → new ≡ Some c) where
  length_of : (m : List ℕ) → old ≡ Some m → length m ≡ extent
  length_of m is = subst (λ (o : Option (List ℕ)). IfSome o (λ (m : List ℕ). length m ≡ extent)) is len

  gate_is : (b : ℕ) → new ≡ option_map (overlay (gate_place twin) (b ∷ [])) old → (c : List ℕ) → images c
      → gate_at twin c ≡ b
  gate_is b written c left =
      let is = known (overlay (gate_place twin) (b ∷ [])) old new c written (same c left) in
      let within : gate_place twin ≤ length is.0 = omega (arith, length_of is.0 is.1) in
      subst (λ (l : List ℕ). gate_at twin l ≡ b) (sym is.2) (byte_written (gate_place twin) b is.0 within)

  pub gate_shut : new ≡ option_map (overlay (gate_place twin) (CLOSED_GATE ∷ [])) old → IsClosed twin images
  gate_shut written c left is_one = absurd (omega (arith, is_one, gate_is CLOSED_GATE written c left))

  pub gate_opened : new ≡ option_map (overlay (gate_place twin) (OPEN_GATE ∷ [])) old → IsOpen twin images
  gate_opened written c left = gate_is OPEN_GATE written c left

  module _ (body : List ℕ) (body_len : length body ≡ BODY_BYTES)
      (written : new ≡ option_map (overlay (header_place twin) body) old) where
    pub body_is : HasBody twin body images
    body_is c left =
        let is = known (overlay (header_place twin) body) old new c written (same c left) in
        let within : header_place twin ≤ length is.0 = omega (arith, length_of is.0 is.1) in
        subst (λ (l : List ℕ). body_at twin l ≡ body) (sym is.2)
        (range_inside (header_place twin) BODY_BYTES body is.0 body_len within)

pub length-main : (version : ℕ) → length (main_bytes version) ≡ HEADER_BYTES
length-main version = ap (λ (n : ℕ). MAIN_FIELDS_END + n) (length-replicate {A = ℕ} (HEADER_BYTES - MAIN_FIELDS_END) 0)

abbrev zeros : List ℕ
zeros = replicate HEADER_BYTES 0

pub shape : empty_main ≡ main_bytes VERSION ++ (body_bytes first_header ++ OPEN_GATE ∷ zeros)
shape = append_assoc (main_bytes VERSION ++ body_bytes first_header) (OPEN_GATE ∷ []) zeros
    ∙ append_assoc (main_bytes VERSION) (body_bytes first_header) (OPEN_GATE ∷ zeros)

pub length-empty : length empty_main ≡ HEADERS_BYTES
length-empty =
    let zeros_len : length zeros ≡ HEADER_BYTES = length-replicate {A = ℕ} HEADER_BYTES 0 in
    let behind : length (OPEN_GATE ∷ zeros) ≡ HEADER_BYTES + 1 = ap (λ (n : ℕ). 1 + n) zeros_len in
    let outer : length (main_bytes VERSION ++ (body_bytes first_header ++ OPEN_GATE ∷ zeros)) ≡ length
    (main_bytes VERSION) + length (body_bytes first_header ++ OPEN_GATE ∷ zeros) =
    length-append (main_bytes VERSION) (body_bytes first_header ++ OPEN_GATE ∷ zeros) in
    let inner : length (body_bytes first_header ++ OPEN_GATE ∷ zeros) ≡ length (body_bytes first_header) + length
    (OPEN_GATE ∷ zeros) = length-append (body_bytes first_header) (OPEN_GATE ∷ zeros) in
    ap (λ (l : List ℕ). length l) shape ∙ outer ∙ ap (λ (n : ℕ). length (main_bytes VERSION) + n) inner
    ∙ ap (λ (n : ℕ). n + (length (body_bytes first_header) + length (OPEN_GATE ∷ zeros))) (length-main VERSION)
    ∙ ap (λ (n : ℕ). HEADER_BYTES + (n + length (OPEN_GATE ∷ zeros))) (length-body first_header)
    ∙ ap (λ (n : ℕ). HEADER_BYTES + (BODY_BYTES + n)) behind

-- the last byte of an empty database
last_byte : get_or empty_main (gate_place 1) 0 ≡ 0
last_byte =
    ap (λ (l : List ℕ). get_or l (gate_place 1) 0) shape
    ∙ get_or-append_right (main_bytes VERSION) (body_bytes first_header ++ OPEN_GATE ∷ zeros) HEADER_BYTES
    (gate_place 1) 0 (length-main VERSION) (omega arith)
    ∙ get_or-append_right (body_bytes first_header) (OPEN_GATE ∷ zeros) BODY_BYTES (HEADER_BYTES + BODY_BYTES) 0
    (length-body first_header) (omega arith)
    ∙ get_or-append_right (OPEN_GATE ∷ []) zeros 1 HEADER_BYTES 0 refl (omega arith)
    ∙ get_or-replicate {A = ℕ} HEADER_BYTES BODY_BYTES 0 0 (omega arith)

-- after creation twin 1 is closed
pub second_closed : (images : List ℕ → Type 0) (old new : Option (List ℕ))
    → new ≡ option_map (overlay 0 empty_main) old → ((c : List ℕ) → images c → new ≡ Some c) → IsClosed 1 images
second_closed images old new written same c left is_one =
    let is = known (overlay 0 empty_main) old new c written (same c left) in
    let behind : List ℕ = drop (0 + length empty_main) is.0 in
    let gate : get_or (overlay 0 empty_main is.0) (gate_place 1) 0 ≡ 0 =
    get_or-append empty_main behind 0 (gate_place 1) (omega (arith, length-empty)) ∙ last_byte in
    let gate_c : get_or c (gate_place 1) 0 ≡ 0 =
    subst (λ (l : List ℕ). get_or l (gate_place 1) 0 ≡ 0) (sym is.2) gate in
    absurd (omega (arith, is_one, gate_c))
