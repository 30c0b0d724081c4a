-- Each call keeps what always holds of the manager's numbers.
use Rattle.std.proofs.Common.{◌≡◌, ◌≢◌, ℕ, ◌+◌, ◌*◌, ◌^◌, ◌<◌, ◌≤◌, Bool, true, false, cond, is_none, is_some, IfSome, nat_lt, ◌==◌, Option, Some, None, List, length, get_or, set, refl, sym, ◌∙◌, ap, subst, ⊎_elim, arith, length-set}
use Rattle.std.specs.List.{count_by}
use Rattle.std.proofs.lemmas.Bool.{or_parts}
use Rattle.std.proofs.lemmas.Bool.Decides.{nat_tests}
use Rattle.std.proofs.lemmas.List.Sums.{sum_by-set, sum_by-le-sum_by}
use Rattle.dk_stamp.specs.declared.snapshot.TheConstants.{FIRST_ID, SESSIONS}
use Rattle.dk_manager.specs.declared.live.LiveSnapshot.{LiveSnapshot}
use Rattle.dk_manager.specs.declared.manager.TheConstants.{MAX_TRANSACTIONS, MAX_ROWS, OPEN_ROWS}
use Rattle.dk_manager.specs.State.{ManagerState, first_state, is_open, is_spent, live_count, with_commit}
use Rattle.dk_manager.specs.Lawful.{IsLawful, HasSnapshot, open_count}
use Rattle.dk_manager.proofs.SeatLemmas.{had, nobody, id_of, start_of, commit_of}

pub lawful_first : (last transactions rows : ℕ) → last < 2 ^ 61 → transactions ≤ MAX_TRANSACTIONS
    → IsLawful (first_state last transactions rows)
lawful_first last transactions rows small few = record {
  sessions = refl;
  transactions = few;
  numbers = omega arith;
  rows = λ some. absurd (omega arith);
  begun = λ place live h. nobody SESSIONS place live h;
  starts = λ place live h. nobody SESSIONS place live h;
  commits = λ place live h. nobody SESSIONS place live h;
  ids_apart = λ a b one other h i e. nobody SESSIONS a one h;
  commits_apart = λ a b number one other h i e f. nobody SESSIONS a one h;
}

abbrev one_if : Bool → ℕ
one_if b = cond b 1 0

open_le_live : (seat : Option LiveSnapshot) → one_if (is_open seat) ≤ one_if (is_some seat)
open_le_live None = omega arith
open_le_live (Some live) = at_most_one (is_none live.commit)
  where
    at_most_one : (b : Bool) → one_if b ≤ 1
    at_most_one true = omega arith
    at_most_one false = omega arith

-- of open ones there are at most as many as of live ones
open_are_live : (state : ManagerState) → open_count state ≤ live_count state
open_are_live state =
    sum_by-le-sum_by (λ seat. one_if (is_open seat)) (λ seat. one_if (is_some seat)) state.live open_le_live

-- how the number of open ones changes with one seat
counted : (seats : List (Option LiveSnapshot)) (k : ℕ) (new : Option LiveSnapshot) → k < length seats
    → count_by is_open (set seats k new) + one_if (is_open (get_or seats k None))
    ≡ count_by is_open seats + one_if (is_open new)
counted seats k new lt = sum_by-set (λ seat. one_if (is_open seat)) seats k new None lt

-- there is a number and room
room_left : (state : ManagerState) → is_spent state ≡ false
    → (state.transactions ≢ MAX_TRANSACTIONS) × (state.rows + OPEN_ROWS * (live_count state + 1) ≤ MAX_ROWS)
room_left state h =
    let parts = or_parts (state.transactions == MAX_TRANSACTIONS) (nat_lt MAX_ROWS (state.rows + OPEN_ROWS * (live_count state + 1))) h in
    (grind (arith, nat_tests), grind (arith, nat_tests))

pub lawful_begun : (state : ManagerState) (k : ℕ) → IsLawful state → k < SESSIONS → get_or state.live k None ≡ None
    → is_spent state ≡ false
    → IsLawful (record {
      last = state.last;
      transactions = state.transactions + 1;
      rows = state.rows;
      live = set state.live k (Some (record { id = FIRST_ID + state.transactions; start = state.last; commit = None }));
    })
lawful_begun state k law lt idle unspent =
    let new : Option LiveSnapshot = Some (record { id = FIRST_ID + state.transactions; start = state.last; commit = None }) in
    let left = room_left state unspent in
    let count : count_by is_open (set state.live k new) + 0 ≡ open_count state + 1 =
    subst (λ seat. count_by is_open (set state.live k new) + one_if (is_open seat) ≡ open_count state + 1) idle
    (counted state.live k new (omega (arith, law.sessions))) in
    let few = open_are_live state in
    record {
      sessions = length-set state.live k new ∙ law.sessions;
      transactions = let h = law.transactions in omega (arith, h, left.0);
      numbers = let h = law.numbers in omega (arith, h, count);
      rows = λ some. omega (arith, count, few, left.1);
      begun = λ place live h. ⊎_elim
          (λ (old : HasSnapshot state place live). let b = law.begun place live old in (b.0, omega (arith, b.1)))
          (λ (p : (place ≡ k) × (new ≡ Some live)). let e : FIRST_ID + state.transactions ≡ live.id = ap id_of p.1 in (omega (arith, e), omega (arith, e)))
          (had state.live k place new live h);
      starts = λ place live h. ⊎_elim
          (λ (old : HasSnapshot state place live). law.starts place live old)
          (λ (p : (place ≡ k) × (new ≡ Some live)). let e : state.last ≡ live.start = ap start_of p.1 in omega (arith, e))
          (had state.live k place new live h);
      commits = λ place live h. ⊎_elim
          (λ (old : HasSnapshot state place live). law.commits place live old)
          (λ (p : (place ≡ k) × (new ≡ Some live)). let e : None ≡ live.commit = ap commit_of p.1 in
          subst (λ c. IfSome c (λ number. (live.start < number) × (number ≤ state.last))) e tt)
          (had state.live k place new live h);
      ids_apart = λ a b one other h i e. ⊎_elim
          (λ (old : HasSnapshot state a one). ⊎_elim
          (λ (too : HasSnapshot state b other). law.ids_apart a b one other old too e)
          (λ (p : (b ≡ k) × (new ≡ Some other)). let f : FIRST_ID + state.transactions ≡ other.id = ap id_of p.1 in
          let g = law.begun a one old in absurd (omega (arith, e, f, g.1)))
          (had state.live k b new other i))
          (λ (p : (a ≡ k) × (new ≡ Some one)). ⊎_elim
          (λ (too : HasSnapshot state b other). let f : FIRST_ID + state.transactions ≡ one.id = ap id_of p.1 in
          let g = law.begun b other too in absurd (omega (arith, e, f, g.1)))
          (λ (q : (b ≡ k) × (new ≡ Some other)). p.0 ∙ sym q.0)
          (had state.live k b new other i))
          (had state.live k a new one h);
      commits_apart = λ a b number one other h i e f. ⊎_elim
          (λ (old : HasSnapshot state a one). ⊎_elim
          (λ (too : HasSnapshot state b other). law.commits_apart a b number one other old too e f)
          (λ (p : (b ≡ k) × (new ≡ Some other)). let g : None ≡ other.commit = ap commit_of p.1 in absurd (cc))
          (had state.live k b new other i))
          (λ (p : (a ≡ k) × (new ≡ Some one)). let g : None ≡ one.commit = ap commit_of p.1 in absurd (cc))
          (had state.live k a new one h);
    }

pub lawful_ended : (state : ManagerState) (k : ℕ) → IsLawful state → k < SESSIONS
    → IsLawful (record {
      last = state.last;
      transactions = state.transactions;
      rows = state.rows;
      live = set state.live k None;
    })
lawful_ended state k law lt =
    let count = counted state.live k None (omega (arith, law.sessions)) in
    let kept : (place : ℕ) (live : LiveSnapshot) → get_or (set state.live k None) place None ≡ Some live → HasSnapshot state place live =
    λ place live h. ⊎_elim (λ (old : HasSnapshot state place live). old)
    (λ (p : (place ≡ k) × (None ≡ Some live)). absurd (gone live p.1)) (had state.live k place None live h) in
    record {
      sessions = length-set state.live k None ∙ law.sessions;
      transactions = law.transactions;
      numbers = let h = law.numbers in omega (arith, h, count);
      rows = λ some. let h = law.rows (omega (arith, some, count)) in omega (arith, h, count);
      begun = λ place live h. law.begun place live (kept place live h);
      starts = λ place live h. law.starts place live (kept place live h);
      commits = λ place live h. law.commits place live (kept place live h);
      ids_apart = λ a b one other h i e. law.ids_apart a b one other (kept a one h) (kept b other i) e;
      commits_apart = λ a b number one other h i e f. law.commits_apart a b number one other (kept a one h) (kept b other i) e f;
    }
  where
    gone : (live : LiveSnapshot) → None ≡ Some live → ⊥
    gone live h = cc

raised : (start last : ℕ) (commit : Option ℕ) → IfSome commit (λ number. (start < number) × (number ≤ last))
    → IfSome commit (λ number. (start < number) × (number ≤ last + 1))
raised start last None h = h
raised start last (Some number) h = (h.0, omega (arith, h.1))

within : (start last number : ℕ) (commit : Option ℕ) → commit ≡ Some number
    → IfSome commit (λ number. (start < number) × (number ≤ last)) → number ≤ last
within start last number None e h = absurd (cc)
within start last number (Some n) e h = let same : n ≡ number = cc in omega (arith, same, h.1)

pointed : (state : ManagerState) (k rows : ℕ) (old : LiveSnapshot) → IsLawful state → k < SESSIONS
    → get_or state.live k None ≡ Some old → is_none old.commit ≡ true → rows < OPEN_ROWS
    → IsLawful (record {
      last = state.last + 1;
      transactions = state.transactions;
      rows = state.rows + rows;
      live = set state.live k (Some (record old { commit = Some (state.last + 1) }));
    })
pointed state k rows old law lt at unnumbered few =
    let new : Option LiveSnapshot = Some (record old { commit = Some (state.last + 1) }) in
    let counts = counted state.live k new (omega (arith, law.sessions)) in
    let count : count_by is_open (set state.live k new) + 1 ≡ open_count state + 0 =
    subst (λ b. count_by is_open (set state.live k new) + one_if b ≡ open_count state + 0) unnumbered
    (subst (λ seat. count_by is_open (set state.live k new) + one_if (is_open seat) ≡ open_count state + 0) at counts) in
    record {
      sessions = length-set state.live k new ∙ law.sessions;
      transactions = law.transactions;
      numbers = let h = law.numbers in omega (arith, h, count);
      rows = λ some. let h = law.rows (omega (arith, count)) in omega (arith, h, count, few);
      begun = λ place live h. ⊎_elim
          (λ (was : HasSnapshot state place live). law.begun place live was)
          (λ (p : (place ≡ k) × (new ≡ Some live)). let e : old.id ≡ live.id = ap id_of p.1 in
          let b = law.begun k old at in (omega (arith, e, b.0), omega (arith, e, b.1)))
          (had state.live k place new live h);
      starts = λ place live h. ⊎_elim
          (λ (was : HasSnapshot state place live). let b = law.starts place live was in omega (arith, b))
          (λ (p : (place ≡ k) × (new ≡ Some live)). let e : old.start ≡ live.start = ap start_of p.1 in
          let b = law.starts k old at in omega (arith, e, b))
          (had state.live k place new live h);
      commits = λ place live h. ⊎_elim
          (λ (was : HasSnapshot state place live). raised live.start state.last live.commit (law.commits place live was))
          (λ (p : (place ≡ k) × (new ≡ Some live)). let e : old.start ≡ live.start = ap start_of p.1 in
          let b = law.starts k old at in let c : Some (state.last + 1) ≡ live.commit = ap commit_of p.1 in
          subst (λ c. IfSome c (λ number. (live.start < number) × (number ≤ state.last + 1))) c (omega (arith, e, b), omega arith))
          (had state.live k place new live h);
      ids_apart = λ a b one other h i e. ⊎_elim
          (λ (was : HasSnapshot state a one). ⊎_elim
          (λ (too : HasSnapshot state b other). law.ids_apart a b one other was too e)
          (λ (p : (b ≡ k) × (new ≡ Some other)). let f : old.id ≡ other.id = ap id_of p.1 in
          law.ids_apart a k one old was at (e ∙ sym f) ∙ sym p.0)
          (had state.live k b new other i))
          (λ (p : (a ≡ k) × (new ≡ Some one)). let f : old.id ≡ one.id = ap id_of p.1 in ⊎_elim
          (λ (too : HasSnapshot state b other). p.0 ∙ law.ids_apart k b old other at too (f ∙ e))
          (λ (q : (b ≡ k) × (new ≡ Some other)). p.0 ∙ sym q.0)
          (had state.live k b new other i))
          (had state.live k a new one h);
      commits_apart = λ a b number one other h i e f. ⊎_elim
          (λ (was : HasSnapshot state a one). ⊎_elim
          (λ (too : HasSnapshot state b other). law.commits_apart a b number one other was too e f)
          (λ (p : (b ≡ k) × (new ≡ Some other)). let g : Some (state.last + 1) ≡ other.commit = ap commit_of p.1 in
          let n : state.last + 1 ≡ number = same_number (g ∙ f) in
          let w = within one.start state.last number one.commit e (law.commits a one was) in absurd (omega (arith, n, w)))
          (had state.live k b new other i))
          (λ (p : (a ≡ k) × (new ≡ Some one)). let g : Some (state.last + 1) ≡ one.commit = ap commit_of p.1 in
          let n : state.last + 1 ≡ number = same_number (g ∙ e) in ⊎_elim
          (λ (too : HasSnapshot state b other).
          let w = within other.start state.last number other.commit f (law.commits b other too) in absurd (omega (arith, n, w)))
          (λ (q : (b ≡ k) × (new ≡ Some other)). p.0 ∙ sym q.0)
          (had state.live k b new other i))
          (had state.live k a new one h);
    }
  where
    same_number : {m n : ℕ} → Some m ≡ Some n → m ≡ n
    same_number h = cc

pub lawful_pointed : (state : ManagerState) (k rows : ℕ) (seat : Option LiveSnapshot) → IsLawful state → k < SESSIONS
    → get_or state.live k None ≡ seat → is_open seat ≡ true → rows < OPEN_ROWS
    → IsLawful (record {
      last = state.last + 1;
      transactions = state.transactions;
      rows = state.rows + rows;
      live = set state.live k (with_commit (state.last + 1) seat);
    })
lawful_pointed state k rows None law lt at unnumbered few = absurd (cc)
lawful_pointed state k rows (Some old) law lt at unnumbered few = pointed state k rows old law lt at unnumbered few
