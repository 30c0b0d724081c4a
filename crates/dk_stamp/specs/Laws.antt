-- What snapshots see alike, and what none sees.
use Rattle.std.specs.Prelude.{◌≡◌, ◌≢◌, ◌<◌, ◌-◌, ◌^◌, ℕ, false, nat_le}
use Rattle.dk_stamp.specs.declared.snapshot.Snapshot.{Snapshot}
use Rattle.dk_stamp.specs.Sees.{sees, is_pending}

-- two transactions of the same start see what neither of them did alike, where the same commits were pending
abbrev pub SnapshotsAgree : Type 0
SnapshotsAgree =
    (a b : Snapshot) (stamp : ℕ)
    → stamp ≢ a.id → stamp ≢ b.id → a.start ≡ b.start
    → is_pending a.committing stamp ≡ is_pending b.committing stamp
    → sees a stamp ≡ sees b stamp

-- another transaction, which has a commit number: it was pending for the snapshot exactly where its number is up to the start
pub record IsOthersCommit (snapshot : Snapshot) (id number : ℕ) : Type 0 where
  pub other : id ≢ snapshot.id
  pub not_own : number ≢ snapshot.id
  pub above : snapshot.start < id
  pub pending : is_pending snapshot.committing id ≡ nat_le number snapshot.start
  pub settled : is_pending snapshot.committing number ≡ false

-- so whether a version has its transaction's stamp or already its number makes no difference
abbrev pub StampingIsSeenAlike : Type 0
StampingIsSeenAlike =
    (snapshot : Snapshot) (id number : ℕ)
    → IsOthersCommit snapshot id number → sees snapshot number ≡ sees snapshot id

-- what did not happen is seen by no snapshot whose numbers lie below
abbrev pub NeverIsUnseen : Type 0
NeverIsUnseen =
    (snapshot : Snapshot)
    → snapshot.id < 2 ^ 64 - 1 → snapshot.start < 2 ^ 64 - 1
    → is_pending snapshot.committing (2 ^ 64 - 1) ≡ false
    → sees snapshot (2 ^ 64 - 1) ≡ false
