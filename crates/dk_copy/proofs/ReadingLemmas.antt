-- How the reader of the data goes on.
use Rattle.std.proofs.Common.{◌≡◌, ℕ, zero, suc, Bool, true, false, List, [], ◌∷◌, Option, Some, refl, sym, inl, ◌∙◌, ap}
use Rattle.csv.specs.Machine.{Read, next_record}
use Rattle.csv.specs.Reading.{ReadRecord, Reached, default_config, reader_state, records_from, records_next, source_of, took_first}
use Rattle.csv.specs.declared.parser.State.{State}
use Rattle.csv.specs.declared.reader.Reader.{Reader}
use Rattle.csv.proofs.ReadFacts.{rows-more, rows-end}
use Rattle.dk_copy.specs.Reading.{HasLeft, TakesOne, Takes}

-- a record and those behind it
one_more : (turns : ℕ) (p : Read) (fields : List (List ℕ)) (s : State) (bytes : List ℕ) → fields ≡ p.0 → p.1 ≡ s → p.2 ≡ bytes
    → records_next (records_from default_config turns) (Some p) ≡ fields ∷ records_from default_config turns s bytes
one_more turns p fields s bytes first state rest =
    ap (λ f. f ∷ records_from default_config turns p.1 p.2) (sym first)
    ∙ ap (λ x. fields ∷ records_from default_config turns x p.2) state
    ∙ ap (λ x. fields ∷ records_from default_config turns s x) rest

-- a read takes the next record of those left, and the others stay
takes_one : {R : Type 0} (remaining : R → Option (List ℕ)) (old new : Reader R) (fields : List (List ℕ)) (turns : ℕ)
    (left : List (List (List ℕ))) → HasLeft remaining old (suc turns) left → took_first new ≡ true
    → ReadRecord remaining old new true fields → TakesOne remaining new turns left true fields
unfolding Reached records_from
takes_one remaining old new fields turns left has first read =
    let more = rows-more remaining old new fields default_config old.state has.bytes has.bytes [] has.config has.source (refl, refl) read in
    let step = more.2 in (
      records_from default_config turns (reader_state new) more.0,
      sym has.records ∙ ap (records_next (records_from default_config turns)) step.1
          ∙ one_more turns step.0 fields (reader_state new) more.0 step.2 step.3.0 step.3.1,
      record { trims = read.3 ∙ has.trims; ready = inl first; config = read.2 ∙ has.config; bytes = more.0; source = more.1; records = refl },
    )

-- a read that takes none is at the end of the records
takes_none : {R : Type 0} (remaining : R → Option (List ℕ)) (old new : Reader R) (fields : List (List ℕ)) (turns : ℕ)
    (left : List (List (List ℕ))) → HasLeft remaining old (suc turns) left
    → ReadRecord remaining old new false fields → left ≡ []
unfolding records_from
takes_none remaining old new fields turns left has read =
    let none = rows-end remaining old new fields default_config has.bytes has.config has.source read in
    sym has.records ∙ ap (records_next (records_from default_config turns)) none

pub takes : {R : Type 0} (remaining : R → Option (List ℕ)) (old new : Reader R) (found : Bool) (fields : List (List ℕ)) (turns : ℕ)
    (left : List (List (List ℕ))) → HasLeft remaining old (suc turns) left → took_first new ≡ true
    → ReadRecord remaining old new found fields → TakesOne remaining new turns left found fields
takes remaining old new true fields turns left has first read = takes_one remaining old new fields turns left has first read
takes remaining old new false fields turns left has first read = takes_none remaining old new fields turns left has read

-- the same turns, counted in another way
pub with_turns : {R : Type 0} (remaining : R → Option (List ℕ)) (reader : Reader R) (n m : ℕ) (left : List (List (List ℕ))) → n ≡ m
    → HasLeft remaining reader n left → HasLeft remaining reader m left
with_turns remaining reader n m left same has = record {
  trims = has.trims;
  ready = has.ready;
  config = has.config;
  bytes = has.bytes;
  source = has.source;
  records = ap (λ k. records_from default_config k (reader_state reader) has.bytes) (sym same) ∙ has.records;
}

pub taken : {R : Type 0} (remaining : R → Option (List ℕ)) (old new : Reader R) (found : Bool) (fields : List (List ℕ)) (n turns : ℕ)
    (left : List (List (List ℕ))) → Takes remaining old new found fields → HasLeft remaining old n left → n ≡ suc turns
    → found ≡ true → TakesOne remaining new turns left true fields
taken remaining old new true fields n turns left step has same is =
    step turns left (with_turns remaining old n (suc turns) left same has)
taken remaining old new false fields n turns left step has same is = absurd cc

pub over : {R : Type 0} (remaining : R → Option (List ℕ)) (old new : Reader R) (found : Bool) (fields : List (List ℕ)) (n turns : ℕ)
    (left : List (List (List ℕ))) → Takes remaining old new found fields → HasLeft remaining old n left → n ≡ suc turns
    → found ≡ false → left ≡ []
over remaining old new true fields n turns left step has same is = absurd cc
over remaining old new false fields n turns left step has same is =
    step turns left (with_turns remaining old n (suc turns) left same has)

-- no more records are asked for
pub spent : {R : Type 0} (remaining : R → Option (List ℕ)) (reader : Reader R) (n : ℕ) (left : List (List (List ℕ))) → n ≡ zero
    → HasLeft remaining reader n left → left ≡ []
unfolding records_from
spent remaining reader n left same has = sym ((with_turns remaining reader n zero left same has).records)
