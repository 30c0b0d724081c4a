-- What each step on the table of the turns tells its pass.
use Rattle.std.specs.Prelude.{◌≡◌, ◌≢◌, ℕ, suc, ◌+◌, ◌%◌, ◌^◌, ◌≤◌, [], ◌∷◌, true, false, Option, Some, None}
use Rattle.atomic_table.specs.Table.{Me, Step, rest}
use Rattle.dk_turns.specs.declared.layout.TheConstants.{FREE}
use Rattle.dk_turns.specs.declared.knowledge.Knowledge.{Knowledge}
use Rattle.dk_turns.specs.declared.knowledge.MidStep.{MidStep}
use Rattle.dk_turns.specs.Events.{LastingFact}
use Rattle.dk_turns.specs.KnowledgeAfter.{NotedFactsHold, after_event, after_free_event, after_join, after_look, after_refusals, after_release, after_split, after_take, newcomer}

-- a pass and the slots that it has out
abbrev pub SeatState : Type 0 → Type 0 → Type 0
SeatState P N = Me (Option P) (MidStep P N)

-- a pass between two calls: it has no slot out
abbrev pub IsIdle : {P N : Type 0} → SeatState P N → Type 0
IsIdle m = (m.1 ≡ []) × (m.0.spent ≡ false) × (m.0.hand ≡ 0)

-- what a step tells: of the step, the pass before it, the word that it found, and the pass after it
abbrev pub Outcome : Type 0 → Type 0 → Type 1
Outcome P N = Step (Option P) → SeatState P N → ℕ → SeatState P N → Type 0

module _ {P N : Type 0} where
  -- the pass with this hand and this knowledge
  abbrev pub with_hand : ℕ → Knowledge P N → MidStep P N → MidStep P N
  with_hand hand knowledge v = record v { hand = hand; knowledge = knowledge }

  -- the turn was free, and its slot is out, or the word said "taken"
  abbrev pub TryOutcome : LastingFact P N → Outcome P N
  TryOutcome lasts st m r m' = (t : ℕ) → st.word ≡ t + 1
      → (r ≡ FREE → (p : P) × (m' ≡ (with_hand (suc t) (after_take t p m.0.knowledge) m.0, (t, Some p) ∷ m.1))
      × NotedFactsHold lasts m.0.knowledge t p)
      × (r ≢ FREE → m' ≡ (with_hand m.0.hand (after_refusals (t ∷ []) m.0.knowledge) m.0, m.1))

  -- the slot goes home, and is empty
  abbrev pub SettleOutcome : Outcome P N
  SettleOutcome st m r m' = m' ≡ (with_hand 0 m.0.knowledge m.0, rest m.1)

  -- the empty slot comes back
  abbrev pub FetchOutcome : Outcome P N
  FetchOutcome st m r m' = (t : ℕ) → st.word ≡ t + 1 → m' ≡ (with_hand (suc t) m.0.knowledge m.0, (t, None) ∷ m.1)

  -- the slot goes home with its part
  abbrev pub GiveOutcome : Outcome P N
  GiveOutcome st m r m' = (t : ℕ) (p : P) → st.word ≡ t + 1 → m.1 ≡ (t, Some p) ∷ rest m.1
      → m' ≡ (with_hand 0 (after_release t p m.0.knowledge) m.0, rest m.1)

  -- nothing changes
  abbrev pub StayOutcome : Outcome P N
  StayOutcome st m r m' = m' ≡ m

  -- the clock was n, and r is it, as a word has it
  abbrev pub LookOutcome : Outcome P N
  LookOutcome st m r m' = (n : ℕ) × (m.0.knowledge.seen ≤ n) × (r ≡ n % 2 ^ 64)
      × (m' ≡ (with_hand m.0.hand (after_look n m.0.knowledge) m.0, m.1))

  -- the place k is one that the pass had not seen, and r is it, as a word has it
  abbrev pub IsNextPlace : Knowledge P N → ℕ → ℕ → Type 0
  IsNextPlace v r k = (v.seen ≤ k) × (r ≡ k % 2 ^ 64)

  -- an event was made under the turn t, whose part and note are these
  abbrev pub TickOutcome : ℕ → Option P → Option N → Outcome P N
  TickOutcome t part note st m r m' = (p : P) (x : N) → part ≡ Some p → note ≡ Some x
      → (k : ℕ) × IsNextPlace m.0.knowledge r k
      × (m' ≡ (with_hand m.0.hand (after_event t p x k m.0.knowledge) m.0, m.1))

  -- an event was made without a turn
  abbrev pub TickFreeOutcome : Option N → Outcome P N
  TickFreeOutcome note st m r m' = (x : N) → note ≡ Some x
      → (k : ℕ) × IsNextPlace m.0.knowledge r k
      × (m' ≡ (with_hand m.0.hand (after_free_event x k m.0.knowledge) m.0, m.1))

  -- the pass that gives numbers, once it gave one
  abbrev pub splitting_pass : MidStep P N → MidStep P N
  splitting_pass v = with_hand v.hand (after_split v.knowledge) v

  -- the pass that has the number
  abbrev pub new_pass : MidStep P N → MidStep P N
  new_pass v = record { spent = false; hand = 0; knowledge = newcomer v.knowledge.given 0 v.knowledge.seen }

  -- the pass v, once w was joined to it
  abbrev pub joining_pass : MidStep P N → MidStep P N → MidStep P N
  joining_pass v w = with_hand v.hand (after_join v.knowledge w.knowledge) v

  -- the pass that was joined to another
  abbrev pub spent_pass : MidStep P N
  spent_pass = record { spent = true; hand = 0; knowledge = newcomer 0 0 0 }
