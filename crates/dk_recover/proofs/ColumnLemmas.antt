-- Segments in the payload of a block, and what is read of them.
use Rattle.std.specs.Prelude.{◌≡◌, ℕ, Bool, false, List, ◌++◌, length, take, drop, min, Option, Some, None, IfSome, Result, Ok, Err, refl}
use Rattle.std.proofs.Common.{sym, ◌∙◌, ap, subst}
use Rattle.dk_types.specs.declared.damage.Damage.TheVariants.{Malformed}
use Rattle.dk_types.specs.declared.damage.Part as the
use Rattle.dk_values.specs.declared.value.ColType.{ColType}
use Rattle.dk_values.specs.declared.value.Value.{Value}
use Rattle.dk_pages.specs.declared.page.SegmentRef.{SegmentRef}
use Rattle.dk_bytes.specs.Reading.{FailsAt, Gives}
use Rattle.dk_bytes.specs.declared.field_error.FieldError.{FieldError}
use Rattle.dk_segment.specs.Segment.{segment_at}
use Rattle.dk_block_file.specs.Blocks.{block_read, ReadsAs}
use Rattle.dk_block_file.specs.declared.fault.BlockFault.{BlockFault}
use Rattle.dk_block_file.specs.declared.fault.BlockFault.TheVariants.{DiskFault, Damaged, OutOfMemory}
use Rattle.dk_strings.specs.Effects.{Tells}
use Rattle.dk_recover.specs.declared.columns.TheConstants.{COUNT_PLACE}
use Rattle.dk_recover.specs.Readings.{meaning}
use Rattle.dk_recover.specs.Pages.{begins_with}
use Rattle.dk_recover.specs.Rows.{ruled, segment_of, with_segment, next_segment}
use Rattle.std.proofs.lemmas.List.{take_min, drop_min}

pub front_of : (n : ℕ) (bytes : List ℕ) → take (min n (length bytes)) bytes ≡ take n bytes
front_of n bytes = take_min n bytes

pub back_of : (n : ℕ) (bytes : List ℕ) → drop (min n (length bytes)) bytes ≡ drop n bytes
back_of n bytes = drop_min n bytes

-- ---- a rule more

pub ruled_ok : {A : Type 0} (place : ℕ) (reading : Result A ℕ) (x : A) → reading ≡ Ok x
    → ruled place false reading ≡ Err place
ruled_ok place reading x is = rw is refl

pub ruled_at : {A : Type 0} (place at : ℕ) (reading : Result A ℕ) → reading ≡ Err at
    → ruled place false reading ≡ Err (min at place)
ruled_at place at reading is = rw is refl

-- ---- a segment behind the values before it

pub added_ok : (values more : List Value) (part : the.Part) (reading : Result (List Value) ℕ) → reading ≡ Ok more
    → with_segment values (meaning part reading) ≡ Ok (values ++ more)
added_ok values more part reading is = rw is refl

pub added_at : (values : List Value) (at : ℕ) (part : the.Part) (reading : Result (List Value) ℕ) → reading ≡ Err at
    → with_segment values (meaning part reading) ≡ Err (Malformed part at)
added_at values at part reading is = rw is refl

module _ (c : Option (List ℕ)) (kind : ColType) (values : List Value) (segment : SegmentRef) where
  -- a block that can't be read
  pub segment_fault : (payload : List ℕ) (after : List Value) (fault : BlockFault)
      → IfSome c (λ main. ReadsAs (block_read segment.block main) payload (Err fault))
      → IfSome c (λ main. Tells (λ (done : Unit {0}). after) (next_segment kind main values segment) (Err fault))
  segment_fault payload after fault h = at c fault h
    where
      at : (o : Option (List ℕ)) (fault : BlockFault)
          → IfSome o (λ main. ReadsAs (block_read segment.block main) payload (Err fault))
          → IfSome o (λ main. Tells (λ (done : Unit {0}). after) (next_segment kind main values segment) (Err fault))
      at None fault h = tt
      at (Some main) DiskFault h = tt
      at (Some main) (Damaged damage) h = rw h refl
      at (Some main) OutOfMemory h = tt

  -- the bytes of its block decide
  pub segment_told : (payload rest bytes : List ℕ) (after : List Value) (r : Result (Unit {0}) BlockFault)
      → IfSome c (λ main. ReadsAs (block_read segment.block main) payload (Ok tt))
      → rest ≡ drop segment.offset payload → bytes ≡ take segment.bytes rest
      → Tells (λ (done : Unit {0}). after) (with_segment values (meaning the.TheVariants.Segment
      (segment_of kind segment.rows bytes))) r
      → IfSome c (λ main. Tells (λ (done : Unit {0}). after) (next_segment kind main values segment) r)
  segment_told payload rest bytes after r h dropped taken told = at c h
    where
      at : (o : Option (List ℕ)) → IfSome o (λ main. ReadsAs (block_read segment.block main) payload (Ok tt))
          → IfSome o (λ main. Tells (λ (done : Unit {0}). after) (next_segment kind main values segment) r)
      at None h = tt
      at (Some main) h = rw h
          (subst (λ (b : List ℕ). Tells (λ (done : Unit {0}). after) (with_segment values (meaning the.TheVariants.Segment
          (segment_of kind segment.rows (take segment.bytes b)))) r) dropped
          (subst (λ (b : List ℕ). Tells (λ (done : Unit {0}). after) (with_segment values
          (meaning the.TheVariants.Segment (segment_of kind segment.rows b))) r) taken told))

-- another number of values than the page tells
pub wrong_of : (kind known : ColType) (rows number : ℕ) (bytes back : List ℕ) (counted : Bool) (e : FieldError)
    (values : List Value) (decoded : Result (Unit {0}) FieldError) → known ≡ kind → number ≡ rows
    → back ≡ drop COUNT_PLACE bytes → counted ≡ begins_with number back → counted ≡ false
    → Gives (λ (done : Unit {0}). values) decoded (segment_at known bytes)
    → ((v : List Value) (reading : Result (List Value) ℕ) → Gives (λ (done : Unit {0}). v) decoded reading
    → FailsAt e (ruled COUNT_PLACE false reading))
    → FailsAt e (segment_of kind rows bytes)
wrong_of kind known rows number bytes back counted e values decoded is_kind is_number is_back is off given wrong =
    let other : begins_with rows (drop COUNT_PLACE bytes) ≡ false =
    ap (λ (b : List ℕ). begins_with rows b) (sym is_back) ∙ ap (λ (n : ℕ). begins_with n back) (sym is_number)
    ∙ sym is ∙ off in
    let here = subst (λ (k : ColType). Gives (λ (done : Unit {0}). values) decoded (segment_at k bytes)) is_kind given in
    subst (λ (b : Bool). FailsAt e (ruled COUNT_PLACE b (segment_at kind bytes))) (sym other)
    (wrong values (segment_at kind bytes) here)
