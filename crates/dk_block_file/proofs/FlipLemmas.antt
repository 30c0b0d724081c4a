-- What a write inside a twin's header leaves, of the disk.
use Rattle.std.specs.Prelude.{◌≡◌, ◌≢◌, ℕ, ◌+◌, ◌-◌, ◌≤◌, max, Bool, true, false, Some, IfSome, List, [], ◌∷◌, length, Result, OnOk}
use Rattle.std.proofs.Common.{inl, inr, sym, ◌∙◌, ap, arith}
use Rattle.std.proofs.lemmas.Bool.Decides.{eqb_tells}
use Rattle.dk_header.specs.declared.header.TheConstants.{HEADER_BYTES, BODY_BYTES, OPEN_GATE, CLOSED_GATE}
use Rattle.dk_header.specs.declared.header.DbHeader.{DbHeader}
use Rattle.dk_header.specs.Layout.{body_read, body_bytes}
use Rattle.dk_device.specs.declared.device.Disk.{Ghosts}
use Rattle.dk_device.specs.declared.device.FileId.TheVariants.{Main}
use Rattle.dk_device.specs.Calls.{Makes, synced_write}
use Rattle.dk_device.specs.Changes.{images_of, Changes, ChangesAlone, IsWithin}
use Rattle.dk_device.specs.Disk.{TornWrite}
use Rattle.dk_device.proofs.ChangeLemmas.{changes_less, changes_now}
use Rattle.dk_device.proofs.OutcomeLemmas.{on_ok}
use Rattle.dk_block_file.specs.declared.fault.BlockFault.{BlockFault}
use Rattle.dk_block_file.specs.declared.layout.TheConstants.{HEADERS_BYTES}
use Rattle.dk_block_file.specs.Effects.{IsWritten, WritesHeaders, ClosesGate, WritesBody, OpensGate}
use Rattle.dk_block_file.specs.Flips.{header_place, gate_place, body_at, gate_at, IsClosed, IsOpen, IsLower, HasBody, HasOneBody, MayClose, closing_bytes}
use Rattle.dk_block_file.specs.Current.{current_in, HasHeaders, Overtakes, HasCurrent, SameCurrent, SameCurrentOr}
use Rattle.dk_block_file.proofs.GateLemmas.{length-body, gate_shut, gate_opened, body_is}
use Rattle.dk_block_file.proofs.CurrentLemmas.{said_closed, current_same_but, overtaken, overtakes, other_body, other_gate, other_said, same_gate, same_body}

module _ {D : Type 0} (g : Ghosts D) (twin at n : ℕ) (a b : D) (low : twin ≤ 1) (headers : HasHeaders g a)
    (begins : header_place twin ≤ at) (ends : at + n ≤ header_place twin + HEADER_BYTES)
    (changes : Changes g (TornWrite at n (g.extent a Main)) Main a b) where
  from : (c : List ℕ) → images_of g b Main c
      → (d : List ℕ) × images_of g a Main d × TornWrite at n (g.extent a Main) d c
  from c left = changes_now g (TornWrite at n (g.extent a Main)) Main a b changes c left

  -- a fact of each image at the start and of what the write makes of it
  abbrev OfEach : (List ℕ → List ℕ → Type 0) → Type 0
  OfEach P = (d c : List ℕ) → images_of g a Main d → TornWrite at n (g.extent a Main) d c → P d c

  -- the gate stays
  module _ (before : at + n ≤ gate_place twin) where
    gate_of : OfEach (λ d c. gate_at twin c ≡ gate_at twin d)
    gate_of d c left torn = same_gate twin at n (g.extent a Main) d c low headers.extent (headers.images d left)
        begins ends torn before

    pub closed_now : IsClosed twin (images_of g a Main) → IsClosed twin (images_of g b Main)
    closed_now closed c left is =
        let start = from c left in
        closed start.0 start.1 (sym (gate_of start.0 c start.1 start.2) ∙ is)

    pub closed_current : IsClosed twin (images_of g a Main) → Changes g SameCurrent Main a b
    closed_current closed = changes_less g (TornWrite at n (g.extent a Main)) SameCurrent Main a b step changes
      where
        step : OfEach SameCurrent
        step d c left torn =
            let gone : gate_at twin c ≢ OPEN_GATE = λ is. closed d left (sym (gate_of d c left torn) ∙ is) in
            current_same_but twin d c low (said_closed twin c gone ∙ sym (said_closed twin d (closed d left)))
            (other_said twin at n (g.extent a Main) d c low headers.extent (headers.images d left) begins ends torn)

  -- the body stays
  module _ (behind : gate_place twin ≤ at) where
    body_of : OfEach (λ d c. body_at twin c ≡ body_at twin d)
    body_of d c left torn = same_body twin at n (g.extent a Main) d c low headers.extent (headers.images d left)
        begins ends torn behind

    others_body : OfEach (λ d c. body_at (1 - twin) c ≡ body_at (1 - twin) d)
    others_body d c left torn =
        other_body twin at n (g.extent a Main) d c low headers.extent (headers.images d left) begins ends torn

    others_gate : OfEach (λ d c. gate_at (1 - twin) c ≡ gate_at (1 - twin) d)
    others_gate d c left torn =
        other_gate twin at n (g.extent a Main) d c low headers.extent (headers.images d left) begins ends torn

    pub lower_now : IsLower twin (images_of g a Main) → IsLower twin (images_of g b Main)
    lower_now lower c left =
        let start = from c left in
        let old = lower start.0 start.1 in (
          old.0,
          old.1,
          ap (λ (l : List ℕ). body_read twin l) (body_of start.0 c start.1 start.2) ∙ old.2,
          ap (λ (l : List ℕ). body_read (1 - twin) l) (others_body start.0 c start.1 start.2) ∙ old.3,
          others_gate start.0 c start.1 start.2 ∙ old.4,
          old.5,
        )

    pub lower_current : IsLower twin (images_of g a Main) → Changes g SameCurrent Main a b
    lower_current lower = changes_less g (TornWrite at n (g.extent a Main)) SameCurrent Main a b step changes
      where
        step : OfEach SameCurrent
        step d c left torn =
            let old = lower d left in
            overtaken twin c old.0 old.1 low
            (ap (λ (l : List ℕ). body_read twin l) (body_of d c left torn) ∙ old.2)
            (ap (λ (l : List ℕ). body_read (1 - twin) l) (others_body d c left torn) ∙ old.3)
            (others_gate d c left torn ∙ old.4) old.5
            ∙ sym (overtaken twin d old.0 old.1 low old.2 old.3 old.4 old.5)

    -- a gate that is being opened
    module _ (header : DbHeader) (next : Overtakes twin header (images_of g a Main)) where
      payload_in : OfEach (λ d c. gate_at twin c ≡ OPEN_GATE → current_in c ≡ Some (twin, header))
      payload_in d c left torn open_now =
          let old = next d left in
          overtakes twin c header old.0 low
          (ap (λ (l : List ℕ). body_read twin l) (body_of d c left torn) ∙ old.1)
          (ap (λ (l : List ℕ). body_read (1 - twin) l) (others_body d c left torn) ∙ old.2)
          open_now old.4

      pub open_current : IsOpen twin (images_of g b Main) → HasCurrent twin header (images_of g b Main)
      open_current open_now c left =
          let start = from c left in
          payload_in start.0 c start.1 start.2 (open_now c left)

      pub opening_current : IsClosed twin (images_of g a Main) → Changes g (SameCurrentOr twin header) Main a b
      opening_current closed = changes_less g (TornWrite at n (g.extent a Main)) (SameCurrentOr twin header) Main a
          b step changes
        where
          step : OfEach (SameCurrentOr twin header)
          step d c left torn = elim (eqb_tells (gate_at twin c) OPEN_GATE) [
            | inl same ↦ inr (payload_in d c left torn same.1)
            | inr other ↦
                inl (current_same_but twin d c low (said_closed twin c other.1
                ∙ sym (said_closed twin d (closed d left)))
                (other_said twin at n (g.extent a Main) d c low headers.extent (headers.images d left) begins ends
                torn))
          ]

-- what a write of a range of the headers leaves
pub written_part : {D : Type 0} (g : Ghosts D) (at : ℕ) (bytes : List ℕ) (a b : D) (r : Result (Unit {0}) BlockFault)
    → HasHeaders g a → at + length bytes ≤ HEADERS_BYTES
    → IsWithin (g.extent a Main) (max (g.extent a Main) (at + length bytes)) (g.extent b Main)
    → ChangesAlone g (TornWrite at (length bytes) (g.extent a Main)) Main a b → OnOk r (IsWritten g at bytes a b)
    → Makes g (synced_write Main at bytes) a b r
    → WritesHeaders g at bytes a b r
written_part g at bytes a b r headers within extent alone done calls = record {
  done = done;
  headers = record {
    extent = omega (arith, headers.extent, extent.no_shorter);
    images = λ c left.
        let start = changes_now g (TornWrite at (length bytes) (g.extent a Main)) Main a b alone.images c left in
        omega (arith, headers.images start.0 start.1, start.2.no_shorter);
  };
  extent = omega (arith, headers.extent, within, extent.no_shorter, extent.no_longer);
  alone = alone;
  calls = calls;
}

-- a write of a twin's gate, or of nothing
module _ {D : Type 0} (g : Ghosts D) (twin : ℕ) (a b : D) (low : twin ≤ 1) (headers : HasHeaders g a) where
  may_close : (was_open : Bool)
      → Changes g (TornWrite (gate_place twin) (length (closing_bytes was_open)) (g.extent a Main)) Main a b
      → MayClose was_open twin (images_of g a Main) → MayClose was_open twin (images_of g b Main)
  may_close true changes lower = lower_now g twin (gate_place twin) 1 a b low headers (omega arith) (omega arith)
      changes (omega arith) lower
  may_close false changes closed =
      closed_now g twin (gate_place twin) 0 a b low headers (omega arith) (omega arith) changes (omega arith) closed

  close_current : (was_open : Bool)
      → Changes g (TornWrite (gate_place twin) (length (closing_bytes was_open)) (g.extent a Main)) Main a b
      → MayClose was_open twin (images_of g a Main) → Changes g SameCurrent Main a b
  close_current true changes lower =
      lower_current g twin (gate_place twin) 1 a b low headers (omega arith) (omega arith) changes (omega arith)
      lower
  close_current false changes closed =
      closed_current g twin (gate_place twin) 0 a b low headers (omega arith) (omega arith) changes (omega arith)
      closed

  module _ (r : Result (Unit {0}) BlockFault)
      (len : IfSome (g.content a Main) (λ (m : List ℕ). length m ≡ g.extent a Main)) where
    close_shut : (was_open : Bool) → WritesHeaders g (gate_place twin) (closing_bytes was_open) a b r
        → MayClose was_open twin (images_of g a Main)
        → OnOk r (IsClosed twin (images_of g b Main))
    close_shut true writes may =
        on_ok r (λ (done : IsWritten g (gate_place twin) (CLOSED_GATE ∷ []) a b).
        gate_shut twin (g.extent a Main) (images_of g b Main) (g.content a Main) (g.content b Main) low
        headers.extent len done.synced done.written) writes.done
    close_shut false writes may =
        on_ok r (λ (done : IsWritten g (gate_place twin) [] a b). may_close false writes.alone.images may)
        writes.done

    pub closes : (was_open : Bool) → WritesHeaders g (gate_place twin) (closing_bytes was_open) a b r
        → MayClose was_open twin (images_of g a Main) → ClosesGate g twin was_open a b r
    closes was_open writes may = record {
      writes = writes;
      closed = close_shut was_open writes may;
      again = may_close was_open writes.alone.images may;
      current = close_current was_open writes.alone.images may;
    }

    -- of a gate that opens
    module _ (writes : WritesHeaders g (gate_place twin) (OPEN_GATE ∷ []) a b r) where
      opened : OnOk r (IsOpen twin (images_of g b Main))
      opened =
          on_ok r (λ (done : IsWritten g (gate_place twin) (OPEN_GATE ∷ []) a b).
          gate_opened twin (g.extent a Main) (images_of g b Main) (g.content a Main) (g.content b Main) low
          headers.extent len done.synced done.written) writes.done

      opens_current : IsClosed twin (images_of g a Main) → (header : DbHeader)
          → Overtakes twin header (images_of g a Main) → Changes g (SameCurrentOr twin header) Main a b
      opens_current closed header next =
          opening_current g twin (gate_place twin) 1 a b low headers (omega arith) (omega arith)
          writes.alone.images (omega arith) header next closed

      opens_this : OnOk r ((header : DbHeader) → Overtakes twin header (images_of g a Main)
          → HasCurrent twin header (images_of g b Main))
      opens_this =
          on_ok r (λ (open_now : IsOpen twin (images_of g b Main)) header next.
          open_current g twin (gate_place twin) 1 a b low headers (omega arith) (omega arith) writes.alone.images
          (omega arith) header next open_now) opened

      pub opens : IsClosed twin (images_of g a Main) → OpensGate g twin a b r
      opens closed =
          record { writes = writes; open_gate = opened; current = opens_current closed; this = opens_this }

-- a write of a twin's body
module _ {D : Type 0} (g : Ghosts D) (twin : ℕ) (header : DbHeader) (a b : D) (r : Result (Unit {0}) BlockFault)
    (low : twin ≤ 1) (headers : HasHeaders g a)
    (writes : WritesHeaders g (header_place twin) (body_bytes header) a b r) where
  before_gate : (n : ℕ) → n ≡ BODY_BYTES → header_place twin + n ≤ gate_place twin
  before_gate n is = omega (arith, is)

  in_header : (n : ℕ) → n ≡ BODY_BYTES → header_place twin + n ≤ header_place twin + HEADER_BYTES
  in_header n is = omega (arith, is)

  body_shut : IsClosed twin (images_of g a Main) → IsClosed twin (images_of g b Main)
  body_shut closed =
      closed_now g twin (header_place twin) (length (body_bytes header)) a b low headers (omega arith)
      (in_header _ (length-body header)) writes.alone.images
      (before_gate _ (length-body header)) closed

  body_current : IsClosed twin (images_of g a Main) → Changes g SameCurrent Main a b
  body_current closed =
      closed_current g twin (header_place twin) (length (body_bytes header)) a b low headers (omega arith)
      (in_header _ (length-body header)) writes.alone.images
      (before_gate _ (length-body header)) closed

  module _ (len : IfSome (g.content a Main) (λ (m : List ℕ). length m ≡ g.extent a Main)) where
    body_left : OnOk r (HasBody twin (body_bytes header) (images_of g b Main))
    body_left =
        on_ok r (λ (done : IsWritten g (header_place twin) (body_bytes header) a b).
        body_is twin (g.extent a Main) (images_of g b Main) (g.content a Main) (g.content b Main) low
        headers.extent len done.synced (body_bytes header) (length-body header) done.written) writes.done

    one_body_left : OnOk r (HasOneBody twin (images_of g b Main))
    one_body_left = on_ok r
        (λ (has : HasBody twin (body_bytes header) (images_of g b Main)) c d left right. has c left
        ∙ sym (has d right)) body_left

    pub writes_body : IsClosed twin (images_of g a Main) → WritesBody g twin header a b r
    writes_body closed = record {
      writes = writes;
      closed = body_shut closed;
      body = body_left;
      one_body = one_body_left;
      current = body_current closed;
    }
