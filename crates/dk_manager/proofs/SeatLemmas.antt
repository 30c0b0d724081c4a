-- Of the sessions' snapshots one changes.
use Rattle.std.proofs.Common.{◌≡◌, ◌⊎◌, ℕ, zero, suc, Option, Some, None, List, [], ◌∷◌, get_or, set, replicate, refl, ap, inl, inr, ⊎_elim}
use Rattle.dk_manager.specs.declared.live.LiveSnapshot.{LiveSnapshot}
use Rattle.dk_manager.specs.State.{with_commit}

-- who has a snapshot behind a change had it before, or is the one that changed
pub had : (seats : List (Option LiveSnapshot)) (k place : ℕ) (new : Option LiveSnapshot) (live : LiveSnapshot)
    → get_or (set seats k new) place None ≡ Some live
    → (get_or seats place None ≡ Some live) ⊎ ((place ≡ k) × (new ≡ Some live))
had [] k place new live h = inl h
had (x ∷ seats) zero zero new live h = inr (refl, h)
had (x ∷ seats) zero (suc place) new live h = inl h
had (x ∷ seats) (suc k) zero new live h = inl h
had (x ∷ seats) (suc k) (suc place) new live h =
    ⊎_elim inl (λ (p : (place ≡ k) × (new ≡ Some live)). inr (ap suc p.0, p.1)) (had seats k place new live h)

-- nobody has one at the start
pub nobody : (n place : ℕ) (live : LiveSnapshot) {P : Type 0}
    → get_or (replicate n None) place None ≡ Some live → P
nobody zero place live h = absurd (cc)
nobody (suc n) zero live h = absurd (cc)
nobody (suc n) (suc place) live h = nobody n place live h

abbrev pub id_of : Option LiveSnapshot → ℕ
id_of None = 0
id_of (Some live) = live.id

abbrev pub start_of : Option LiveSnapshot → ℕ
start_of None = 0
start_of (Some live) = live.start

abbrev pub commit_of : Option LiveSnapshot → Option ℕ
commit_of None = None
commit_of (Some live) = live.commit

-- a commit number leaves the start
pub start_stays : (number : ℕ) (seat : Option LiveSnapshot) (live : LiveSnapshot) → with_commit number seat ≡ Some live
    → (old : LiveSnapshot) × (seat ≡ Some old) × (old.start ≡ live.start)
start_stays number None live h = absurd (cc)
start_stays number (Some old) live h = (old, refl, ap start_of h)
