-- The bound never falls.
use Rattle.std.proofs.Common.{◌≡◌, ℕ, zero, suc, ◌≤◌, min, Option, Some, None, List, [], ◌∷◌, get_or, set, refl, ap, ⊎_elim, arith}
use Rattle.std.specs.List.{fold}
use Rattle.dk_manager.specs.declared.live.LiveSnapshot.{LiveSnapshot}
use Rattle.dk_manager.specs.State.{lesser_start, with_commit}
use Rattle.dk_manager.proofs.SeatLemmas.{had, start_of, start_stays}

pub least_below : (n : ℕ) (seats : List (Option LiveSnapshot)) → fold lesser_start n seats ≤ n
least_below n [] = omega arith
least_below n (None ∷ seats) = least_below n seats
least_below n (Some live ∷ seats) = let h = least_below (min n live.start) seats in omega (arith, h)

-- it is at most each start
pub least_each : (n : ℕ) (seats : List (Option LiveSnapshot)) (place : ℕ) (live : LiveSnapshot)
    → get_or seats place None ≡ Some live → fold lesser_start n seats ≤ live.start
least_each n [] place live h = absurd (cc)
least_each n (None ∷ seats) zero live h = absurd (cc)
least_each n (None ∷ seats) (suc place) live h = least_each n seats place live h
least_each n (Some other ∷ seats) zero live h =
    let below = least_below (min n other.start) seats in
    let same : other.start ≡ live.start = ap start_of h in
    omega (arith, below, same)
least_each n (Some other ∷ seats) (suc place) live h = least_each (min n other.start) seats place live h

-- and what is at most each is at most it
pub least_greatest : (b n : ℕ) (seats : List (Option LiveSnapshot)) → b ≤ n
    → ((place : ℕ) (live : LiveSnapshot) → get_or seats place None ≡ Some live → b ≤ live.start)
    → b ≤ fold lesser_start n seats
least_greatest b n [] le each = le
least_greatest b n (None ∷ seats) le each = least_greatest b n seats le (λ place live h. each (suc place) live h)
least_greatest b n (Some other ∷ seats) le each =
    let first : b ≤ other.start = each 0 other refl in
    least_greatest b (min n other.start) seats (omega (arith, le, first)) (λ place live h. each (suc place) live h)

-- a snapshot that isn't below the bound doesn't lower it
pub bound_stays : (n m k : ℕ) (seats : List (Option LiveSnapshot)) (new : Option LiveSnapshot) → n ≤ m
    → ((live : LiveSnapshot) → new ≡ Some live → fold lesser_start n seats ≤ live.start)
    → fold lesser_start n seats ≤ fold lesser_start m (set seats k new)
bound_stays n m k seats new le fresh =
    let below = least_below n seats in
    least_greatest (fold lesser_start n seats) m (set seats k new) (omega (arith, le, below))
    (λ place live h. ⊎_elim (λ (old : get_or seats place None ≡ Some live). least_each n seats place live old)
    (λ (p : (place ≡ k) × (new ≡ Some live)). fresh live p.1) (had seats k place new live h))

pub bound_begun : (n k id : ℕ) (seats : List (Option LiveSnapshot))
    → fold lesser_start n seats ≤ fold lesser_start n (set seats k (Some (record { id = id; start = n; commit = None })))
bound_begun n k id seats =
    bound_stays n n k seats (Some (record { id = id; start = n; commit = None })) (omega arith)
    (λ live h. let same : n ≡ live.start = ap start_of h in let below = least_below n seats in omega (arith, same, below))

pub bound_pointed : (n m number k : ℕ) (seats : List (Option LiveSnapshot)) → n ≤ m
    → fold lesser_start n seats ≤ fold lesser_start m (set seats k (with_commit number (get_or seats k None)))
bound_pointed n m number k seats le = bound_stays n m k seats (with_commit number (get_or seats k None)) le
    (λ live h. let old = start_stays number (get_or seats k None) live h in
    let each = least_each n seats k old.0 old.1 in
    omega (arith, each, old.2))

pub bound_ended : (n k : ℕ) (seats : List (Option LiveSnapshot))
    → fold lesser_start n seats ≤ fold lesser_start n (set seats k None)
bound_ended n k seats = bound_stays n n k seats None (omega arith) (λ live h. absurd (cc))
