-- What the three calls of a flip come to, one behind the other.
use Rattle.std.specs.Prelude.{◌≡◌, ℕ, ◌+◌, ◌-◌, ◌^◌, ◌<◌, ◌≤◌, Bool, true, false, List, [], ◌∷◌, length, drop, Result, Ok, Err, refl}
use Rattle.std.proofs.Common.{inl, inr, sym, ◌∙◌, ap, subst, arith}
use Rattle.std.proofs.lemmas.List.{drop-drop}
use Rattle.dk_device.specs.declared.device.Disk.{Ghosts}
use Rattle.dk_device.specs.declared.device.FileId.TheVariants.{Main}
use Rattle.dk_device.specs.Calls.{Did}
use Rattle.dk_device.specs.Changes.{images_of, Changes}
use Rattle.dk_device.specs.Disk.{TornWrite}
use Rattle.dk_device.proofs.CallLemmas.{did_then}
use Rattle.dk_device.proofs.ChangeLemmas.{changes_then, changes_less, changes_now}
use Rattle.dk_header.specs.declared.header.DbHeader.{DbHeader}
use Rattle.dk_header.specs.declared.header.TheConstants.{HEADER_BYTES, BODY_BYTES, OPEN_GATE}
use Rattle.dk_header.specs.Layout.{body_bytes, body_read}
use Rattle.dk_header.proofs.HeaderLemmas.{body_again}
use Rattle.dk_block_file.specs.declared.fault.BlockFault.{BlockFault}
use Rattle.dk_block_file.specs.declared.layout.TheConstants.{HEADERS_BYTES}
use Rattle.dk_block_file.specs.Current.{HasHeaders, Overtakes, SameCurrent, SameCurrentOr}
use Rattle.dk_block_file.specs.Effects.{WritesHeaders, ClosesGate, WritesBody, OpensGate}
use Rattle.dk_block_file.specs.Flips.{header_place, gate_place, closing_bytes}
use Rattle.dk_block_file.proofs.CurrentLemmas.{other_body, other_gate}
use Rattle.dk_block_file.proofs.GateLemmas.{length-body}
use Rattle.dk_checkpoint.specs.Flip.{SameBlocks, IsBehind, Overtaking, Flips, closing_calls, body_calls, opening_calls, calls_before}

-- a header whose fields have eight bytes each
pub record IsWritable (header : DbHeader) : Type 0 where
  pub iteration : header.iteration < 2 ^ 64
  pub root : header.root < 2 ^ 64
  pub blocks : header.blocks < 2 ^ 64

module _ {D : Type 0} (g : Ghosts D) (twin : ℕ) (low : twin ≤ 1) where
  -- a write within a twin's header
  module _ (at : ℕ) (bytes : List ℕ) (a b : D) (r : Result (Unit {0}) BlockFault) (headers : HasHeaders g a)
      (begins : header_place twin ≤ at) (ends : at + length bytes ≤ header_place twin + HEADER_BYTES)
      (writes : WritesHeaders g at bytes a b r) where
    step_blocks : (d c : List ℕ) → images_of g a Main d → TornWrite at (length bytes) (g.extent a Main) d c
        → SameBlocks d c
    step_blocks d c left torn =
        let n : ℕ = HEADERS_BYTES - (at + length bytes) in
        let is : (at + length bytes) + n ≡ HEADERS_BYTES = omega (arith, ends, low) in
        let after = torn.after (omega (arith, ends, low, headers.extent)) in
        subst (λ (m : ℕ). drop m c ≡ drop m d) is
        (sym (drop-drop n (at + length bytes) c) ∙ ap (λ (l : List ℕ). drop n l) after
        ∙ drop-drop n (at + length bytes) d)

    pub blocks_stay : Changes g SameBlocks Main a b
    blocks_stay = changes_less g (TornWrite at (length bytes) (g.extent a Main)) SameBlocks Main a b step_blocks
        writes.alone.images

    pub behind_now : (header : DbHeader) → IsBehind twin header (images_of g a Main)
        → IsBehind twin header (images_of g b Main)
    behind_now header behind c left =
        let start = changes_now g (TornWrite at (length bytes) (g.extent a Main)) Main a b writes.alone.images c
        left in
        let old = behind start.0 start.1 in (
          old.0,
          ap (λ (l : List ℕ). body_read (1 - twin) l)
              (other_body twin at (length bytes) (g.extent a Main) start.0 c low headers.extent
              (headers.images start.0 start.1) begins ends start.2)
              ∙ old.1,
          other_gate twin at (length bytes) (g.extent a Main) start.0 c low headers.extent
              (headers.images start.0 start.1) begins ends start.2
              ∙ old.2,
          old.3,
        )

  module _ (was_open : Bool) (header : DbHeader) (writable : IsWritable header) (a b : D) (headers : HasHeaders g a)
    where
      close_ends : (was : Bool) → gate_place twin + length (closing_bytes was) ≤ header_place twin + HEADER_BYTES
      close_ends true = omega arith
      close_ends false = omega arith

      body_ends : (n : ℕ) → n ≡ BODY_BYTES → header_place twin + n ≤ header_place twin + HEADER_BYTES
      body_ends n is = omega (arith, is)

      or_same : (x y : List ℕ) → SameCurrent x y → SameCurrentOr twin header x y
      or_same x y same = inl same

      -- the gate wasn't closed
      pub unclosed : (f : BlockFault) → ClosesGate g twin was_open a b (Err f)
          → Flips g twin was_open header a b (Err (record { closed = false; opened = false }))
      unclosed f closes = record {
        this = tt;
        current = λ next. changes_less g SameCurrent (SameCurrentOr twin header) Main a b
            (λ x y left same. or_same x y same) closes.current;
        unopened = λ e. closes.current;
        again = λ e. closes.again;
        blocks = blocks_stay (gate_place twin) (closing_bytes was_open) a b (Err f) headers (omega arith)
            (close_ends was_open) closes.writes;
        headers = closes.writes.headers;
        extent = closes.writes.extent;
        log = closes.writes.alone.content;
        log_extent = closes.writes.alone.extent;
        done = tt;
        stopped = (g.time a, g.calls a, (refl, refl), closes.writes.calls.failed);
        order = λ e. absurd cc;
      }

      module _ (c : D) (closes : ClosesGate g twin was_open a b (Ok tt)) where
        close_blocks : Changes g SameBlocks Main a b
        close_blocks = blocks_stay (gate_place twin) (closing_bytes was_open) a b (Ok tt) headers (omega arith)
            (close_ends was_open) closes.writes

        close_behind : IsBehind twin header (images_of g a Main) → IsBehind twin header (images_of g b Main)
        close_behind = behind_now (gate_place twin) (closing_bytes was_open) a b (Ok tt) headers (omega arith)
            (close_ends was_open) closes.writes header

        module _ (r : Result (Unit {0}) BlockFault) (writes : WritesBody g twin header b c r) where
          body_blocks : Changes g SameBlocks Main a c
          body_blocks = changes_then g SameBlocks SameBlocks SameBlocks Main a b c (λ x y left one. one)
              (λ x y z left behind one two. two ∙ one) close_blocks
              (blocks_stay (header_place twin) (body_bytes header) b c r closes.writes.headers (omega arith)
              (body_ends _ (length-body header)) writes.writes)

          body_behind : IsBehind twin header (images_of g a Main) → IsBehind twin header (images_of g c Main)
          body_behind behind = behind_now (header_place twin) (body_bytes header) b c r closes.writes.headers
              (omega arith) (body_ends _ (length-body header)) writes.writes header (close_behind behind)

          body_current : Changes g SameCurrent Main a c
          body_current = changes_then g SameCurrent SameCurrent SameCurrent Main a b c (λ x y left one. one)
              (λ x y z left behind one two. two ∙ one) closes.current writes.current

        -- the body wasn't written
        pub unwritten : (f : BlockFault) → WritesBody g twin header b c (Err f)
            → Flips g twin was_open header a c (Err (record { closed = true; opened = false }))
        unwritten f writes = record {
          this = tt;
          current = λ next. changes_less g SameCurrent (SameCurrentOr twin header) Main a c
              (λ x y left same. or_same x y same) (body_current (Err f) writes);
          unopened = λ e. body_current (Err f) writes;
          again = λ e. writes.closed;
          blocks = body_blocks (Err f) writes;
          headers = writes.writes.headers;
          extent = writes.writes.extent ∙ closes.writes.extent;
          log = writes.writes.alone.content ∙ closes.writes.alone.content;
          log_extent = writes.writes.alone.extent ∙ closes.writes.alone.extent;
          done = tt;
          stopped = (g.time b, g.calls b, closes.writes.calls.done, writes.writes.calls.failed);
          order = λ e. absurd cc;
        }

        module _ (e : D) (writes : WritesBody g twin header b c (Ok tt)) (r : Result (Unit {0}) BlockFault)
            (opens : OpensGate g twin c e r) where
          next_overtakes : Overtaking twin header (images_of g a Main) → Overtakes twin header (images_of g c Main)
          next_overtakes next m left =
              let behind = body_behind (Ok tt) writes next.behind m left in (
                behind.0,
                ap (λ (l : List ℕ). body_read twin l) (writes.body m left)
                    ∙ body_again twin header writable.iteration writable.root writable.blocks next.fits,
                behind.1,
                behind.2,
                behind.3,
              )

          open_blocks : Changes g SameBlocks Main a e
          open_blocks = changes_then g SameBlocks SameBlocks SameBlocks Main a c e (λ x y left one. one)
              (λ x y z left behind one two. two ∙ one) (body_blocks (Ok tt) writes)
              (blocks_stay (gate_place twin) (OPEN_GATE ∷ []) c e r writes.writes.headers (omega arith) (omega arith)
              opens.writes)

          then_or : (x y z : List ℕ) → SameCurrent x y → SameCurrentOr twin header y z → SameCurrentOr twin header x z
          then_or x y z same (inl stays) = inl (stays ∙ same)
          then_or x y z same (inr is) = inr is

          open_current : Overtaking twin header (images_of g a Main) → Changes g (SameCurrentOr twin header) Main a e
          open_current next =
              changes_then g SameCurrent (SameCurrentOr twin header) (SameCurrentOr twin header) Main a c e
              (λ x y left same. or_same x y same) (λ x y z left behind one two. then_or x y z one two)
              (body_current (Ok tt) writes) (opens.current header (next_overtakes next))

          did_before : Did (calls_before twin was_open header) (g.time a) (g.calls a) (g.time c) (g.calls c)
          did_before = did_then (closing_calls twin was_open) (body_calls twin header) (g.time a) (g.time b) (g.time c)
              (g.calls a) (g.calls b) (g.calls c) closes.writes.calls.done writes.writes.calls.done

        -- the gate wasn't opened, or was
        pub unopened : (e : D) (writes : WritesBody g twin header b c (Ok tt)) (f : BlockFault)
            → OpensGate g twin c e (Err f)
            → Flips g twin was_open header a e (Err (record { closed = true; opened = true }))
        unopened e writes f opens = record {
          this = tt;
          current = open_current e writes (Err f) opens;
          unopened = λ is. absurd cc;
          again = λ is. absurd cc;
          blocks = open_blocks e writes (Err f) opens;
          headers = opens.writes.headers;
          extent = opens.writes.extent ∙ (writes.writes.extent ∙ closes.writes.extent);
          log = opens.writes.alone.content ∙ (writes.writes.alone.content ∙ closes.writes.alone.content);
          log_extent = opens.writes.alone.extent ∙ (writes.writes.alone.extent ∙ closes.writes.alone.extent);
          done = tt;
          stopped = (g.time c, g.calls c, did_before e writes (Err f) opens, opens.writes.calls.failed);
          order = λ is. refl;
        }

        pub flipped : (e : D) (writes : WritesBody g twin header b c (Ok tt)) → OpensGate g twin c e (Ok tt)
            → Flips g twin was_open header a e (Ok tt)
        flipped e writes opens = record {
          this = λ next. opens.this header (next_overtakes e writes (Ok tt) opens next);
          current = open_current e writes (Ok tt) opens;
          unopened = tt;
          again = tt;
          blocks = open_blocks e writes (Ok tt) opens;
          headers = opens.writes.headers;
          extent = opens.writes.extent ∙ (writes.writes.extent ∙ closes.writes.extent);
          log = opens.writes.alone.content ∙ (writes.writes.alone.content ∙ closes.writes.alone.content);
          log_extent = opens.writes.alone.extent ∙ (writes.writes.alone.extent ∙ closes.writes.alone.extent);
          done = did_then (calls_before twin was_open header) (opening_calls twin) (g.time a) (g.time c) (g.time e)
              (g.calls a) (g.calls c) (g.calls e) (did_before e writes (Ok tt) opens) opens.writes.calls.done;
          stopped = tt;
          order = tt;
        }
