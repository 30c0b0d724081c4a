-- The headers of a main file of which the front stays.
use Rattle.std.specs.Prelude.{◌≡◌, ℕ, ◌+◌, ◌-◌, ◌<◌, ◌≤◌, Bool, true, false, List, take, drop, get_or}
use Rattle.std.proofs.Common.{sym, ◌∙◌, ap, arith}
use Rattle.std.proofs.lemmas.List.{take-take, drop-take, get_or-take}
use Rattle.dk_header.specs.declared.header.TheConstants.{BODY_BYTES}
use Rattle.dk_header.specs.Layout.{body_read}
use Rattle.dk_device.specs.declared.device.Disk.{Ghosts}
use Rattle.dk_device.specs.declared.device.FileId.TheVariants.{Main}
use Rattle.dk_device.specs.Changes.{images_of, Changes, SamePlaces, KeepsPlaces}
use Rattle.dk_device.specs.Disk.{Follows, TornWrite}
use Rattle.dk_device.proofs.ChangeLemmas.{changes_less, changes_now, same_range}
use Rattle.dk_block_file.specs.Blocks.{place_of, SameOthers}
use Rattle.dk_block_file.specs.Flips.{header_place, gate_place, body_at, gate_at, IsClosed, IsLower, MayClose}
use Rattle.dk_block_file.specs.Current.{current_in, HasHeaders, SameCurrent, SameFront}
use Rattle.dk_block_file.proofs.CurrentLemmas.{said_same, current_same}
use Rattle.dk_block_file.proofs.OtherBlockLemmas.{others_images}
use Rattle.dk_block_file.specs.declared.layout.TheConstants.{HEADERS_BYTES, BLOCK_BYTES}

module _ (d c : List ℕ) (front : take HEADERS_BYTES c ≡ take HEADERS_BYTES d) where
  front_range : (a n : ℕ) → a + n ≤ HEADERS_BYTES → take n (drop a c) ≡ take n (drop a d)
  front_range a n upto =
      sym (drop-take a n c)
      ∙ ap (λ (l : List ℕ). drop a l) (sym (take-take (a + n) HEADERS_BYTES c upto)
      ∙ ap (λ (l : List ℕ). take (a + n) l) front ∙ take-take (a + n) HEADERS_BYTES d upto)
      ∙ drop-take a n d

  front_gate : (twin : ℕ) → twin ≤ 1 → gate_at twin c ≡ gate_at twin d
  front_gate twin low =
      sym (get_or-take HEADERS_BYTES c (gate_place twin) 0 (omega (arith, low)))
      ∙ ap (λ (l : List ℕ). get_or l (gate_place twin) 0) front
      ∙ get_or-take HEADERS_BYTES d (gate_place twin) 0 (omega (arith, low))

  front_body : (twin : ℕ) → twin ≤ 1 → body_at twin c ≡ body_at twin d
  front_body twin low = front_range (header_place twin) BODY_BYTES (omega (arith, low))

  pub front_current : current_in c ≡ current_in d
  front_current = current_same d c (said_same 0 d c (front_gate 0 (omega arith)) (front_body 0 (omega arith)))
      (said_same 1 d c (front_gate 1 (omega arith)) (front_body 1 (omega arith)))

-- of images with the front of others
module _ (old new : List ℕ → Type 0) (follows : Follows SameFront old new) (twin : ℕ) (low : twin ≤ 1) where
  pub front_closed : IsClosed twin old → IsClosed twin new
  front_closed closed c left is =
      let start = follows c left in
      closed start.0 start.1 (sym (front_gate start.0 c start.2.front twin low) ∙ is)

  pub front_lower : IsLower twin old → IsLower twin new
  front_lower lower c left =
      let start = follows c left in
      let was = lower start.0 start.1 in (
        was.0,
        was.1,
        ap (λ (l : List ℕ). body_read twin l) (front_body start.0 c start.2.front twin low) ∙ was.2,
        ap (λ (l : List ℕ). body_read (1 - twin) l) (front_body start.0 c start.2.front (1 - twin) (omega arith))
            ∙ was.3,
        front_gate start.0 c start.2.front (1 - twin) (omega arith) ∙ was.4,
        was.5,
      )

  pub front_may_close : (was_open : Bool) → MayClose was_open twin old → MayClose was_open twin new
  front_may_close true may = front_lower may
  front_may_close false may = front_closed may

module _ {D : Type 0} (g : Ghosts D) (a b : D) (headers : HasHeaders g a) where
  -- a write of a block
  pub front_write : (block : ℕ) → Changes g (TornWrite (place_of block) BLOCK_BYTES (g.extent a Main)) Main a b
      → Changes g SameFront Main a b
  front_write block changes =
      changes_less g (SameOthers block (g.extent a Main)) SameFront Main a b step
      (others_images g block a b changes)
    where
      step : (d c : List ℕ) → images_of g a Main d → SameOthers block (g.extent a Main) d c → SameFront d c
      step d c left others = record { no_shorter = others.no_shorter; front = others.headers (headers.images d left) }

  -- many writes that keep the front
  pub front_kept : (kept : ℕ → Type 0) → ((place : ℕ) → place < HEADERS_BYTES → kept place)
      → KeepsPlaces g kept Main a b → Changes g SameFront Main a b
  front_kept kept all keeps = changes_less g (SamePlaces kept) SameFront Main a b step keeps
    where
      step : (d c : List ℕ) → images_of g a Main d → SamePlaces kept d c → SameFront d c
      step d c left same =
          record {
            no_shorter = same.no_shorter;
            front =
                same_range kept 0 HEADERS_BYTES d c same (λ place from upto. all place (omega (arith, upto)))
                (omega (arith, headers.images d left));
          }

  module _ (front : Changes g SameFront Main a b) where
    follows : Follows SameFront (images_of g a Main) (images_of g b Main)
    follows c left = changes_now g SameFront Main a b front c left

    pub front_headers : g.extent a Main ≤ g.extent b Main → HasHeaders g b
    front_headers no_shorter = record {
      extent = omega (arith, headers.extent, no_shorter);
      images = λ c left. let start = follows c left in
          omega (arith, headers.images start.0 start.1, start.2.no_shorter);
    }

    pub front_currents : Changes g SameCurrent Main a b
    front_currents = changes_less g SameFront SameCurrent Main a b (λ d c left same. front_current d c same.front) front

    pub front_closes : (was_open : Bool) (twin : ℕ) → twin ≤ 1 → MayClose was_open twin (images_of g a Main)
        → MayClose was_open twin (images_of g b Main)
    front_closes was_open twin low may =
        front_may_close (images_of g a Main) (images_of g b Main) follows twin low was_open may
