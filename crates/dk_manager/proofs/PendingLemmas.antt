-- The entries of a snapshot are the pending commits, and no others.
use Rattle.std.proofs.Common.{◌≡◌, ◌≢◌, ℕ, zero, suc, ◌<◌, ◌≤◌, true, false, ◌==◌, nat_le, IfSome, Option, Some, None, List, [], ◌∷◌, map, get_or, refl, sym, ◌∙◌, ap, subst, arith}
use Rattle.std.proofs.lemmas.Bool.{eq-eqb, ne_eqb, le-leb, or_from, or_left, or_right}
use Rattle.std.proofs.lemmas.Bool.Decides.{nat_tests}
use Rattle.dk_stamp.specs.declared.snapshot.TheConstants.{FIRST_ID}
use Rattle.dk_stamp.specs.Sees.{is_pending}
use Rattle.dk_manager.specs.declared.live.LiveSnapshot.{LiveSnapshot}
use Rattle.dk_manager.specs.State.{ManagerState, commit_entry, pending_entry}
use Rattle.dk_manager.specs.Lawful.{IsLawful, HasSnapshot}
use Rattle.dk_manager.specs.Laws.{PendingIsSeenAlike, LaterIsSeenAlike}
use Rattle.dk_manager.proofs.SeatLemmas.{commit_of}

entry_differs : (id stamp : ℕ) (commit : Option ℕ) → 0 < stamp → ((number : ℕ) → commit ≡ Some number → id ≢ stamp)
    → ((commit_entry id commit).id == stamp) ≡ false
entry_differs id stamp None some other = ne_eqb 0 stamp (λ e. omega (arith, e, some))
entry_differs id stamp (Some number) some other = ne_eqb id stamp (other number refl)

-- a stamp that is no pending commit's
unnoted : (stamp : ℕ) (seats : List (Option LiveSnapshot)) → 0 < stamp
    → ((place number : ℕ) (live : LiveSnapshot) → get_or seats place None ≡ Some live → live.commit ≡ Some number → live.id ≢ stamp)
    → is_pending (map pending_entry seats) stamp ≡ false
unnoted stamp [] some other = refl
unnoted stamp (None ∷ seats) some other =
    or_from (0 == stamp) (is_pending (map pending_entry seats) stamp) (ne_eqb 0 stamp (λ e. omega (arith, e, some)))
    (unnoted stamp seats some (λ place number live h c. other (suc place) number live h c))
unnoted stamp (Some first ∷ seats) some other =
    or_from ((commit_entry first.id first.commit).id == stamp) (is_pending (map pending_entry seats) stamp)
    (entry_differs first.id stamp first.commit some (λ number c. other 0 number first refl c))
    (unnoted stamp seats some (λ place number live h c. other (suc place) number live h c))

noted : (seats : List (Option LiveSnapshot)) (place number : ℕ) (live : LiveSnapshot)
    → get_or seats place None ≡ Some live → live.commit ≡ Some number
    → is_pending (map pending_entry seats) live.id ≡ true
noted [] place number live h c = absurd (cc)
noted (x ∷ seats) zero number live h c =
    subst (λ o. is_pending (map pending_entry (o ∷ seats)) live.id ≡ true) (sym h)
    (or_left ((commit_entry live.id live.commit).id == live.id) (is_pending (map pending_entry seats) live.id)
    (subst (λ o. ((commit_entry live.id o).id == live.id) ≡ true) (sym c) (eq-eqb live.id live.id refl)))
noted (x ∷ seats) (suc place) number live h c =
    or_right ((pending_entry x).id == live.id) (is_pending (map pending_entry seats) live.id)
    (noted seats place number live h c)

given : (start last number : ℕ) (commit : Option ℕ) → commit ≡ Some number
    → IfSome commit (λ number. (start < number) × (number ≤ last)) → (start < number) × (number ≤ last)
given start last number None e h = absurd (cc)
given start last number (Some n) e h =
    let same : n ≡ number = cc in subst (λ m. (start < m) × (m ≤ last)) same h

-- no entry has the number of a commit
no_number : (state : ManagerState) (number : ℕ) → IsLawful state → 0 < number → number < FIRST_ID
    → is_pending (map pending_entry state.live) number ≡ false
no_number state number law some small = unnoted number state.live some
    (λ place n live h c e. let b = law.begun place live h in omega (arith, b.0, e, small))

pub pending_is_seen_alike : PendingIsSeenAlike
pending_is_seen_alike state place number live law left has commit =
    let b = law.begun place live has in
    let g = given live.start state.last number live.commit commit (law.commits place live has) in
    let n = law.numbers in
    record {
      other = λ e. omega (arith, e, b.1);
      not_own = λ e. omega (arith, e, g.1, n, left);
      above = omega (arith, b.0, n, left);
      pending = noted state.live place number live has commit ∙ sym (le-leb number state.last g.1);
      settled = no_number state number law (omega (arith, g.0)) (omega (arith, g.1, n, left));
    }

-- who has the identifier of a live snapshot is its session
same_seat : (state : ManagerState) (a b : ℕ) (one other : LiveSnapshot) → IsLawful state
    → HasSnapshot state a one → HasSnapshot state b other → one.id ≡ other.id → one.commit ≡ other.commit
same_seat state a b one other law h i e =
    let same : Some one ≡ Some other = sym h ∙ ap (λ k. get_or state.live k None) (law.ids_apart a b one other h i e) ∙ i in
    ap commit_of same

pub later_is_seen_alike : LaterIsSeenAlike
later_is_seen_alike state place number live law left has commit late small =
    let b = law.begun place live has in
    let n = law.numbers in
    let unseen : nat_le number state.last ≡ false = grind (arith, nat_tests) in
    let unnumbered : (m : ℕ) → live.commit ≡ Some m → ⊥ = λ m c. absurd (none_is_some m (sym commit ∙ c)) in
    record {
      other = λ e. omega (arith, e, b.1);
      not_own = λ e. omega (arith, e, small);
      above = omega (arith, b.0, n, left);
      pending = unnoted live.id state.live (omega (arith, b.0))
          (λ at m one h c e. unnumbered m (sym (same_seat state at place one live law h has e) ∙ c)) ∙ sym unseen;
      settled = no_number state number law (omega (arith, late)) small;
    }
  where
    none_is_some : (m : ℕ) → None ≡ Some m → ⊥
    none_is_some m h = cc
