-- How the reader of the data stands.
use Rattle.std.specs.Prelude.{◌≡◌, ℕ, suc, Bool, true, false, List, [], ◌∷◌, Option, Some}
use Rattle.csv.specs.Reading.{Ready, default_config, reader_config, reader_state, reader_trim, records_from, source_of}
use Rattle.csv.specs.declared.reader.Reader.{Reader}
use Rattle.csv.specs.declared.reader.Trim.TheVariants as trim

-- a reader by the defaults that has these records left, of which at most so many are asked for
pub record HasLeft {R : Type 0} (remaining : R → Option (List ℕ)) (reader : Reader R) (turns : ℕ) (left : List (List (List ℕ))) : Type 0 where
  pub trims : reader_trim reader ≡ trim.None
  pub ready : Ready reader
  pub config : reader_config reader ≡ default_config
  pub bytes : List ℕ
  pub source : source_of remaining reader ≡ Some bytes
  pub records : records_from default_config turns (reader_state reader) bytes ≡ left

-- a record was the next of those left, or none is left
abbrev pub TakesOne : {R : Type 0} → (R → Option (List ℕ)) → Reader R → ℕ → List (List (List ℕ)) → Bool → List (List ℕ) → Type 0
TakesOne remaining new turns left true fields = (rest : List (List (List ℕ))) × (left ≡ fields ∷ rest) × HasLeft remaining new turns rest
TakesOne remaining new turns left false fields = left ≡ []

-- a read takes the next record
abbrev pub Takes : {R : Type 0} → (R → Option (List ℕ)) → Reader R → Reader R → Bool → List (List ℕ) → Type 0
Takes remaining old new found fields = (turns : ℕ) (left : List (List (List ℕ)))
    → HasLeft remaining old (suc turns) left → TakesOne remaining new turns left found fields
