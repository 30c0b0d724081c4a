-- Which writes of the log a crash may have torn, behind calls that are made one after the other.
use Rattle.std.proofs.Common.{◌≡◌, ℕ, ◌-◌, ◌<◌, ◌≤◌, Bool, true, false, ◌&&◌, List, [], ◌∷◌, ◌++◌, Option, None, Some, Result, Ok, Err, refl, sym, ap, subst, ◌∙◌, arith, inl, inr}
use Rattle.std.specs.Prelude.{IfSome, slice_get, nat_lt, nat_le}
use Rattle.std.specs.List.{AllByRecursion, filter}
use Rattle.std.proofs.lemmas.Bool.{cases_Bool, cases_lt, lt-ltb, lt-leb, or_cases}
use Rattle.std.proofs.lemmas.Bool.Decides.{Decides-eqb}
use Rattle.std.proofs.lemmas.List.Elements.{filter-append}
use Rattle.dk_device.specs.declared.device.Disk.{Ghosts}
use Rattle.dk_device.specs.declared.device.TheConstants.{LAST_MOMENT}
use Rattle.dk_device.specs.declared.device.FileId.TheVariants.{Wal}
use Rattle.dk_device.specs.declared.calls.DiskCall.{DiskCall}
use Rattle.dk_device.specs.declared.calls.Request.TheVariants.{Write, Sync}
use Rattle.dk_device.specs.Calls.{Call, Did, Stopped, Makes, synced_write}
use Rattle.dk_device.specs.Disk.{with_call, call_at, next_moment}
use Rattle.dk_device.specs.Replay.{if_same}
use Rattle.dk_wal.specs.Chance.{WalWrite, unsynced_by, unsynced_after, unsynced_writes, is_byte, is_handed, HasSyncedWrites}

-- ---- behind one call more

unsynced_append : (writes : List WalWrite) (xs ys : List DiskCall)
    → unsynced_after writes (xs ++ ys) ≡ unsynced_after (unsynced_after writes xs) ys
unsynced_append writes [] ys = refl
unsynced_append writes (x ∷ xs) ys =
    unsynced_append (if_same Wal x.file (unsynced_by x.done x.request writes) writes) xs ys

-- a call keeps what is known of these writes, done or not
abbrev pub Keeps : (List WalWrite → Type 0) → Call → Type 0
Keeps P call = (done : Bool) (writes : List WalWrite) → P writes
    → P (if_same Wal call.0 (unsynced_by done call.1 writes) writes)

-- it is known of the writes that count at a moment, where the calls are told
abbrev pub Known : (List WalWrite → Type 0) → ℕ → Option (List DiskCall) → Type 0
Known P k told = IfSome told (λ calls. P (unsynced_writes k calls))

module _ (P : List WalWrite → Type 0) (k : ℕ) where
  one_more_call : (call : Call) (moment : ℕ) (done : Bool) (writes : List WalWrite) → Keeps P call → P writes
      → P (unsynced_after writes (filter (λ c. nat_lt c.moment k) (call_at moment call.0 call.1 done ∷ [])))
  one_more_call call moment done writes keeps p = elim (cases_Bool (nat_lt moment k)) [
    | inl early ↦ rw early (keeps done writes p)
    | inr late ↦ rw late p
  ]

  known_more : (call : Call) (moment : ℕ) (done : Bool) (told : Option (List DiskCall)) → Keeps P call
      → Known P k told → Known P k (with_call (call_at moment call.0 call.1 done) told)
  known_more call moment done None keeps p = tt
  known_more call moment done (Some calls) keeps p =
      let early : DiskCall → Bool = λ c. nat_lt c.moment k in
      let last : List DiskCall = call_at moment call.0 call.1 done ∷ [] in
      subst P
      (sym (ap (λ (l : List DiskCall). unsynced_after [] l) (filter-append early calls last)
      ∙ unsynced_append [] (filter early calls) (filter early last)))
      (one_more_call call moment done (unsynced_writes k calls) keeps p)

  did_known : (xs : List Call) (b n : ℕ) (old new : Option (List DiskCall)) → AllByRecursion (Keeps P) xs
      → Did xs b old n new → Known P k old → Known P k new
  did_known [] b n old new all did p = subst (λ (t : Option (List DiskCall)). Known P k t) (sym did.1) p
  did_known (x ∷ xs) b n old new all did p =
      did_known xs (next_moment b) n (with_call (call_at b x.0 x.1 true) old) new all.1 did
      (known_more x b true old all.0 p)

  stopped_known : (xs : List Call) (b n : ℕ) (old new : Option (List DiskCall)) → AllByRecursion (Keeps P) xs
      → Stopped xs b old n new → Known P k old → Known P k new
  stopped_known [] b n old new all stopped p = absurd stopped
  stopped_known (x ∷ xs) b n old new all (inl (time, inl is)) p =
      subst (λ (t : Option (List DiskCall)). Known P k t) (sym is) (known_more x b false old all.0 p)
  stopped_known (x ∷ xs) b n old new all (inl (time, inr is)) p =
      subst (λ (t : Option (List DiskCall)). Known P k t) (sym is) p
  stopped_known (x ∷ xs) b n old new all (inr stopped) p =
      stopped_known xs (next_moment b) n (with_call (call_at b x.0 x.1 true) old) new all.1 stopped
      (known_more x b true old all.0 p)

  makes_known : {D T E : Type 0} (g : Ghosts D) (xs : List Call) (a b : D) (r : Result T E)
      → AllByRecursion (Keeps P) xs → Makes g xs a b r → Known P k (g.calls a) → Known P k (g.calls b)
  makes_known g xs a b (Ok v) all makes p =
      did_known xs (g.time a) (g.time b) (g.calls a) (g.calls b) all makes.done p
  makes_known g xs a b (Err e) all makes p =
      stopped_known xs (g.time a) (g.time b) (g.calls a) (g.calls b) all makes.failed p

-- behind a sync of the log that was done no write is without one
pub behind_sync : (m n : ℕ) (told new : Option (List DiskCall)) → n ≡ next_moment m
    → new ≡ with_call (call_at m Wal Sync true) told → n < LAST_MOMENT → (k : ℕ) → n ≤ k
    → IfSome new (λ (calls : List DiskCall). unsynced_writes k calls ≡ [])
behind_sync m n told new time is before k from =
    subst (λ (t : Option (List DiskCall)). IfSome t (λ (calls : List DiskCall). unsynced_writes k calls ≡ []))
    (sym is) (there told)
  where
    sync : List DiskCall
    sync = call_at m Wal Sync true ∷ []

    there : (t : Option (List DiskCall)) → IfSome (with_call (call_at m Wal Sync true) t)
        (λ (calls : List DiskCall). unsynced_writes k calls ≡ [])
    there None = tt
    there (Some calls) =
        let early : DiskCall → Bool = λ c. nat_lt c.moment k in
        let kept : filter early sync ≡ sync = rw (lt-ltb m k (omega (arith, time, before, from))) refl in
        ap (λ (l : List DiskCall). unsynced_after [] l) (filter-append early calls sync)
        ∙ unsynced_append [] (filter early calls) (filter early sync)
        ∙ ap (λ (l : List DiskCall). unsynced_after (unsynced_after [] (filter early calls)) l) kept

-- ---- one write alone

-- each of the writes is this one
abbrev pub AreThis : ℕ → List ℕ → List WalWrite → Type 0
AreThis end bytes writes = AllByRecursion (λ (w : WalWrite). w ≡ (end, bytes)) writes

module _ (end : ℕ) (bytes : List ℕ) where
  are_more : (writes : List WalWrite) → AreThis end bytes writes → AreThis end bytes (writes ++ (end, bytes) ∷ [])
  are_more [] all = (refl, tt)
  are_more (w ∷ writes) all = (all.0, are_more writes all.1)

  keeps_write : Keeps (AreThis end bytes) (Wal, Write end bytes)
  keeps_write done writes all = are_more writes all

  keeps_sync : Keeps (AreThis end bytes) (Wal, Sync)
  keeps_sync true writes all = tt
  keeps_sync false writes all = all

  none_known : (told : Option (List DiskCall)) (k : ℕ)
      → IfSome told (λ (calls : List DiskCall). unsynced_writes k calls ≡ []) → Known (AreThis end bytes) k told
  none_known None k none = tt
  none_known (Some calls) k none = subst (λ (ws : List WalWrite). AreThis end bytes ws) (sym none) tt

  -- where no write was without its sync, this one alone counts while it is made
  pub this_alone : {D T E : Type 0} (g : Ghosts D) (a b : D) (r : Result T E)
      → Makes g (synced_write Wal end bytes) a b r → HasSyncedWrites g a → (k : ℕ) → g.time a ≤ k
      → Known (AreThis end bytes) k (g.calls b)
  this_alone g a b r makes synced k from =
      makes_known (AreThis end bytes) k g (synced_write Wal end bytes) a b r (keeps_write, (keeps_sync, tt)) makes
      (none_known (g.calls a) k (synced k from))

  and_both : (a b : Bool) → (a && b) ≡ true → (a ≡ true) × (b ≡ true)
  and_both true true e = (refl, refl)
  and_both true false e = absurd cc
  and_both false b e = absurd cc

  byte_is : (o : Option ℕ) (byte : ℕ) → is_byte o byte ≡ true → o ≡ Some byte
  byte_is None byte e = absurd cc
  byte_is (Some b) byte e = ap (λ (n : ℕ). Some n) ((Decides-eqb b byte).0 e)

  not_before : (place : ℕ) → nat_le end place ≡ true → end ≤ place
  not_before place e = elim (cases_lt place end) [
    | inl before ↦ let no : true ≡ false = sym e ∙ lt-leb end place before in absurd cc
    | inr behind ↦ behind
  ]

  -- what it handed is its byte
  pub handed_is : (writes : List WalWrite) (place byte : ℕ) → AreThis end bytes writes
      → is_handed writes place byte ≡ true → (end ≤ place) × (slice_get bytes (place - end) ≡ Some byte)
  handed_is [] place byte all e = absurd cc
  handed_is (w ∷ writes) place byte all e = elim (or_cases (handed w) (is_handed writes place byte) e) [
    | inl here ↦
        let both = and_both (nat_le end place) (is_byte (slice_get bytes (place - end)) byte)
        (subst (λ (v : WalWrite). handed v ≡ true) all.0 here) in
        (not_before place both.0, byte_is (slice_get bytes (place - end)) byte both.1)
    | inr there ↦ handed_is writes place byte all.1 there
  ]
    where
      handed : WalWrite → Bool
      handed v = nat_le v.0 place && is_byte (slice_get v.1 (place - v.0)) byte
