-- The rows of a group with their versions, as stacks by vector and place.
use Rattle.std.specs.Prelude.{◌≡◌, ◌<◌, ◌≤◌, ◌+◌, ◌^◌, ◌==◌, ℕ, Bool, true, false, List, [], ◌∷◌, ◌++◌, length, map, Option, Some, None, Result, Ok, Err, slice_get, if◌then◌else◌}
use Rattle.std.specs.List.{All}
use Rattle.dk_values.specs.declared.value.ColType.{ColType}
use Rattle.dk_values.specs.declared.value.Value.{Value}
use Rattle.dk_columns.specs.OptionTables.{OptionTable, FitsKinds}
use Rattle.dk_stamp.specs.declared.error.GroupError.{GroupError}
use Rattle.dk_stamp.specs.declared.error.GroupError.TheVariants as errors
use Rattle.dk_chain.specs.Nodes.{oldest_has, newest_has, old_in}
use Rattle.dk_vector.specs.declared.vector.Blocked.{Blocked}
use Rattle.dk_vector.specs.Stacks.{Stack, absent, erased, erased_stamped, restored, undone, stamped, placed, placed_stamped}
use Rattle.dk_vector.specs.Vectors.{VectorRows, base_at, stack_at, has_row, AreThere, ArePlaced, IsOnTop, first_blocked, against_in}
use Rattle.dk_vector.specs.Changes.{updated_if}
use Rattle.dk_vector.specs.Spare.{is_spare, AreFresh}
use Rattle.dk_vector.specs.Pages.{IsPage}
use Rattle.dk_group.specs.declared.edits.Refusal.{Refusal}
use Rattle.dk_group.specs.declared.edits.Refusal.TheVariants as refusals

-- the row id of the first row, the vectors, and the root block of the page that the group was settled on
pub record GroupRows : Type 0 where
  pub first : ℕ
  pub vectors : List VectorRows
  pub settled : Option ℕ

-- the row ids end below 2^64, and there are no more than 60 vectors
pub record IsGroup (start : ℕ) (list : List VectorRows) : Type 0 where
  pub ids : start + 2 ^ 18 < 2 ^ 64
  pub count : length list ≤ 60

abbrev pub stack_if_there : Option VectorRows → ℕ → Stack
stack_if_there None row = absent
stack_if_there (Some vector) row = stack_at vector row

-- a row by its vector and its place in it
abbrev pub stack_in : GroupRows → ℕ → ℕ → Stack
stack_in group at row = stack_if_there (slice_get group.vectors at) row

-- the types of the columns of a vector, and how many rows it has
pub record Shape : Type 0 where
  pub kinds : List ColType
  pub count : ℕ

abbrev pub shape_of : VectorRows → Shape
shape_of vector = record { kinds = vector.base.kinds; count = length vector.stamps.rows }

abbrev pub shapes : GroupRows → List Shape
shapes group = map shape_of group.vectors

-- a vector's rows become what a function says
pub record IsStep (step : ℕ → Stack → Stack) (old new : VectorRows) : Type 0 where
  pub shape : shape_of new ≡ shape_of old
  pub rows : (row : ℕ) → stack_at new row ≡ step row (stack_at old row)
  pub apart : old.stamps.apart ≡ true → new.stamps.apart ≡ true

-- each row of a vector has its own stamps
abbrev pub IsApartAt : Option VectorRows → Type 0
IsApartAt None = ⊥
IsApartAt (Some vector) = vector.stamps.apart ≡ true

-- each row is as before
abbrev pub same : ℕ → Stack → Stack
same row stack = stack

-- the rows of one vector become what a function says, and all others are as before
pub record IsChangedAt (at : ℕ) (step : ℕ → Stack → Stack) (old new : GroupRows) : Type 0 where
  pub start : new.first ≡ old.first
  pub shapes_stay : shapes new ≡ shapes old
  pub rows : (vector row : ℕ) → stack_in new vector row ≡ (if vector == at then step row (stack_in old vector row) else stack_in old vector row)
  pub apart : (vector : ℕ) → IsApartAt (slice_get old.vectors vector) → IsApartAt (slice_get new.vectors vector)
  pub page : new.settled ≡ old.settled

-- each row is as before
pub record IsKept (old new : GroupRows) : Type 0 where
  pub start : new.first ≡ old.first
  pub shapes_stay : shapes new ≡ shapes old
  pub rows : (vector row : ℕ) → stack_in new vector row ≡ stack_in old vector row

-- whether the oldest and the newest update of a transaction in a vector have a row
abbrev pub oldest_in : ℕ → Option VectorRows → ℕ → Bool
oldest_in id None row = false
oldest_in id (Some vector) row = oldest_has row id vector.nodes

abbrev pub newest_in : ℕ → Option VectorRows → ℕ → Bool
newest_in id None row = false
newest_in id (Some vector) row = newest_has row id vector.nodes

-- what a stamp, and an undoing, makes of the rows of a vector
abbrev pub stamping : ℕ → ℕ → Option VectorRows → ℕ → Stack → Stack
stamping id number vector row stack = if oldest_in id vector row then stamped id number stack else stack

abbrev pub undoing : ℕ → Option VectorRows → ℕ → Stack → Stack
undoing id vector row stack = if newest_in id vector row then undone stack else stack

-- what a change, and a deletion, makes of them
abbrev pub changing : ℕ → List ℕ → List (List Value) → ℕ → Stack → Stack
changing id rows values row stack = updated_if id (old_in row rows values) stack

abbrev pub erasing : ℕ → List ℕ → ℕ → Stack → Stack
erasing id rows row stack = if has_row row rows then erased id stack else stack

-- what putting spare rows in, stamping them and taking them away makes of them
abbrev pub placing : ℕ → Option VectorRows → ℕ → Stack → Stack
placing id None row stack = stack
placing id (Some vector) row stack = if is_spare (slice_get vector.stamps.rows row) then placed id (base_at row vector.base) else stack

abbrev pub place_stamping : ℕ → ℕ → ℕ → Stack → Stack
place_stamping id number row stack = if stack.inserted == id then placed_stamped number stack else stack

abbrev pub displacing : ℕ → ℕ → Stack → Stack
displacing id row stack = if stack.inserted == id then absent else stack

-- what stamping a deletion and undoing it makes of the rows
abbrev pub erase_stamping : ℕ → List ℕ → ℕ → Stack → Stack
erase_stamping number rows row stack = if has_row row rows then erased_stamped number stack else stack

abbrev pub restoring : List ℕ → ℕ → Stack → Stack
restoring rows row stack = if has_row row rows then restored stack else stack

-- the spare rows of a vector have no deletion and no nodes
abbrev pub AreFreshAt : Option VectorRows → Type 0
AreFreshAt None = ⊥
AreFreshAt (Some vector) = AreFresh vector

-- the rows of a vector are placed, and each has its own stamps
abbrev pub ArePlacedAt : List ℕ → Option VectorRows → Type 0
ArePlacedAt rows None = ⊥
ArePlacedAt rows (Some vector) = ArePlaced rows vector × (vector.stamps.apart ≡ true)

-- a vector of rows that a transaction put in
pub record IsFilled (id : ℕ) (table : OptionTable) (vector : VectorRows) : Type 0 where
  pub base : vector.base ≡ table
  pub nodes : vector.nodes ≡ []
  pub count : length vector.stamps.rows ≡ length table.rows
  pub rows : (row : ℕ) → row < length table.rows → stack_at vector row ≡ placed id (base_at row table)
  pub past : (row : ℕ) → length table.rows ≤ row → stack_at vector row ≡ absent

abbrev pub with_vector : VectorRows → GroupRows → GroupRows
with_vector vector group = record group { vectors = group.vectors ++ vector ∷ [] }

-- settled on a page
abbrev pub with_page : ℕ → GroupRows → GroupRows
with_page root group = record group { settled = Some root }

-- the changes of a transaction are the newest that stand on each row of a vector
abbrev pub IsTopAt : ℕ → Option VectorRows → Type 0
IsTopAt id None = ⊥
IsTopAt id (Some vector) = IsOnTop id vector.nodes

-- and stay so in each vector, for each transaction
abbrev pub TopsStay : GroupRows → GroupRows → Type 0
TopsStay old new = (id vector : ℕ) → IsTopAt id (slice_get old.vectors vector) → IsTopAt id (slice_get new.vectors vector)

-- the rows are there for the reader in that vector
abbrev pub AreThereAt : (ℕ → Bool) → List ℕ → Option VectorRows → Type 0
AreThereAt sees rows None = ⊥
AreThereAt sees rows (Some vector) = AreThere sees vector rows

-- values for rows of a vector
abbrev pub FitVector : List (List Value) → Option VectorRows → Type 0
FitVector values None = ⊥
FitVector values (Some vector) = All (FitsKinds vector.base.kinds) values

-- the first of the rows that something stands against
abbrev pub blocked_in : (ℕ → Bool) → List ℕ → Option VectorRows → Option Blocked
blocked_in sees rows None = None
blocked_in sees rows (Some vector) = first_blocked (against_in sees vector) rows

-- a change of a vector is refused for what stands against it, and else for want of memory
abbrev pub IsRefusal : Option Blocked → Refusal → Type 0
IsRefusal None refusal = refusal ≡ refusals.OutOfMemory
IsRefusal (Some blocked) refusal = refusal ≡ refusals.Blocked blocked

-- the error of a refusal in a vector whose first row has this id
abbrev pub error_of : ℕ → Refusal → GroupError
error_of start (refusals.Blocked blocked) = errors.Conflict (start + blocked.row) blocked.stamp
error_of start refusals.OutOfMemory = errors.OutOfMemory

abbrev pub told : {T : Type 0} → ℕ → Result T Refusal → Result T GroupError
told start (Ok done) = Ok done
told start (Err refusal) = Err (error_of start refusal)

abbrev pub IsError : ℕ → Option Blocked → GroupError → Type 0
IsError start None error = error ≡ errors.OutOfMemory
IsError start (Some blocked) error = error ≡ errors.Conflict (start + blocked.row) blocked.stamp

-- a page has each row of the vector as the reader sees it
abbrev pub IsPageAt : (ℕ → Bool) → Option VectorRows → OptionTable → Type 0
IsPageAt sees None page = ⊥
IsPageAt sees (Some vector) page = IsPage sees vector page
