-- What the headers of an empty database say.
use Rattle.std.specs.Prelude.{◌≡◌, ℕ, ◌+◌, ◌≤◌, ◌<◌, Ok, Option, List, ◌∷◌, ◌++◌, length, take, drop, get_or, replicate, refl}
use Rattle.std.proofs.Common.{option_map, sym, ◌∙◌, ap, subst, arith}
use Rattle.std.proofs.lemmas.List.{take_at, drop_at, take-take, drop-take, length-take, get_or-take, get_or_at, get_or-append_right}
use Rattle.dk_header.specs.declared.header.TheConstants.{HEADER_BYTES, BODY_BYTES, OPEN_GATE, VERSION}
use Rattle.dk_header.specs.Layout.{main_bytes, body_bytes, main_read, body_read}
use Rattle.dk_header.proofs.HeaderLemmas.{main_again, body_again}
use Rattle.dk_device.specs.declared.device.Disk.{Ghosts}
use Rattle.dk_device.specs.declared.device.FileId.TheVariants.{Main}
use Rattle.dk_device.specs.Changes.{images_of, IsSynced}
use Rattle.dk_device.specs.Disk.{overlay}
use Rattle.dk_device.proofs.ReplacementLemmas.{known}
use Rattle.dk_block_file.specs.Blocks.{first_header, empty_main}
use Rattle.dk_block_file.specs.Flips.{gate_place, body_at, gate_at}
use Rattle.dk_block_file.specs.Current.{HasHeaders, HasCurrent}
use Rattle.dk_block_file.proofs.CurrentLemmas.{said_open, said_closed, current_of_said}
use Rattle.dk_block_file.proofs.GateLemmas.{length-body, length-main, length-empty, shape, second_closed}
use Rattle.dk_block_file.proofs.RangeLemmas.{range_inside}
use Rattle.dk_block_file.specs.declared.layout.TheConstants.{HEADERS_BYTES}

-- a header, a body, an open gate, and more
module _ (main body zeros e : List ℕ) (main_len : length main ≡ HEADER_BYTES) (body_len : length body ≡ BODY_BYTES)
    (is : e ≡ main ++ (body ++ OPEN_GATE ∷ zeros)) where
  main_part : take HEADER_BYTES e ≡ main
  main_part = ap (λ (l : List ℕ). take HEADER_BYTES l) is
      ∙ take_at main (body ++ OPEN_GATE ∷ zeros) HEADER_BYTES main_len

  body_part : take BODY_BYTES (drop HEADER_BYTES e) ≡ body
  body_part =
      ap (λ (l : List ℕ). take BODY_BYTES (drop HEADER_BYTES l)) is
      ∙ ap (λ (l : List ℕ). take BODY_BYTES l) (drop_at main (body ++ OPEN_GATE ∷ zeros) HEADER_BYTES main_len)
      ∙ take_at body (OPEN_GATE ∷ zeros) BODY_BYTES body_len

  gate_part : get_or e (gate_place 0) 0 ≡ OPEN_GATE
  gate_part =
      ap (λ (l : List ℕ). get_or l (gate_place 0) 0) is
      ∙ get_or-append_right main (body ++ OPEN_GATE ∷ zeros) HEADER_BYTES (gate_place 0) 0 main_len (omega arith)
      ∙ get_or_at body OPEN_GATE zeros 0 BODY_BYTES body_len

-- bytes that begin with others
module _ (c e : List ℕ) (front : take HEADERS_BYTES c ≡ e) where
  front_range : (a n : ℕ) → a + n ≤ HEADERS_BYTES → take n (drop a c) ≡ take n (drop a e)
  front_range a n upto =
      sym (drop-take a n c)
      ∙ ap (λ (l : List ℕ). drop a l) (sym (take-take (a + n) HEADERS_BYTES c upto)
      ∙ ap (λ (l : List ℕ). take (a + n) l) front)
      ∙ drop-take a n e

  front_byte : (i : ℕ) → i < HEADERS_BYTES → get_or c i 0 ≡ get_or e i 0
  front_byte i lt = sym (get_or-take HEADERS_BYTES c i 0 lt) ∙ ap (λ (l : List ℕ). get_or l i 0) front

module _ {D : Type 0} (g : Ghosts D) (disk : D) (old : Option (List ℕ))
    (written : g.content disk Main ≡ option_map (overlay 0 empty_main) old) (synced : IsSynced g disk Main) where
  begins : (c : List ℕ) → images_of g disk Main c → take HEADERS_BYTES c ≡ empty_main
  begins c left =
      let is = known (overlay 0 empty_main) old (g.content disk Main) c written (synced c left) in
      ap (λ (l : List ℕ). take HEADERS_BYTES l) is.2
      ∙ range_inside 0 HEADERS_BYTES empty_main is.0 length-empty (omega arith)

  pub version_now : (c : List ℕ) → images_of g disk Main c → main_read (take HEADER_BYTES c) ≡ Ok VERSION
  version_now c left =
      let same : take HEADER_BYTES c ≡ take HEADER_BYTES empty_main =
      front_range c empty_main (begins c left) 0 HEADER_BYTES (omega arith) in
      subst (λ (l : List ℕ). main_read l ≡ Ok VERSION)
      (sym (same ∙ main_part (main_bytes VERSION) (body_bytes first_header) (replicate HEADER_BYTES 0)
      empty_main (length-main VERSION) (length-body first_header) shape)) (main_again VERSION (omega arith))

  pub current_now : HasCurrent 0 first_header (images_of g disk Main)
  current_now c left =
      let body : body_at 0 c ≡ body_bytes first_header =
      front_range c empty_main (begins c left) HEADER_BYTES BODY_BYTES (omega arith)
      ∙ body_part (main_bytes VERSION) (body_bytes first_header) (replicate HEADER_BYTES 0) empty_main
      (length-main VERSION) (length-body first_header) shape in
      let gate : gate_at 0 c ≡ OPEN_GATE =
      front_byte c empty_main (begins c left) (gate_place 0) (omega arith)
      ∙ gate_part (main_bytes VERSION) (body_bytes first_header) (replicate HEADER_BYTES 0) empty_main
      (length-main VERSION) (length-body first_header) shape in
      let read : body_read 0 (body_at 0 c) ≡ Ok first_header =
      subst (λ (l : List ℕ). body_read 0 l ≡ Ok first_header) (sym body)
      (body_again 0 first_header (omega arith) (omega arith) (omega arith) refl) in
      current_of_said c first_header (said_open 0 c first_header gate read)
      (said_closed 1 c (second_closed (images_of g disk Main) old (g.content disk Main) written synced c left))

  pub headers_there : HEADERS_BYTES ≤ g.extent disk Main → HasHeaders g disk
  headers_there upto = record {
    extent = upto;
    images = λ c left. long c (ap (λ (l : List ℕ). length l) (begins c left) ∙ length-empty);
  }
    where
      long : (c : List ℕ) → length (take HEADERS_BYTES c) ≡ HEADERS_BYTES → HEADERS_BYTES ≤ length c
      long c len = omega (arith, len, length-take HEADERS_BYTES c)
