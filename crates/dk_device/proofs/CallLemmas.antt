-- Calls that are made one after the other.
use Rattle.std.specs.Prelude.{◌≡◌, ◌⊎◌, ℕ, true, false, List, [], ◌∷◌, ◌++◌, Option, Result, Ok, Err, OnOk, OnErr, IsErrAnd}
use Rattle.std.proofs.Common.{inl, inr, subst}
use Rattle.dk_device.specs.declared.calls.DiskCall.{DiskCall}
use Rattle.dk_device.specs.Disk.{next_moment, with_call, call_at}
use Rattle.dk_device.specs.declared.device.Disk.{Ghosts}
use Rattle.dk_device.specs.Effects.{Lists}
use Rattle.dk_device.specs.Calls.{Call, Did, Stopped, Makes}

pub did_one : (call : Call) (b n : ℕ) (old new : Option (List DiskCall)) → n ≡ next_moment b
    → new ≡ with_call (call_at b call.0 call.1 true) old → Did (call ∷ []) b old n new
did_one call b n old new time told = (time, told)

pub stopped_one : (call : Call) (b n : ℕ) (old new : Option (List DiskCall)) → n ≡ next_moment b
    → (new ≡ with_call (call_at b call.0 call.1 false) old) ⊎ (new ≡ old) → Stopped (call ∷ []) b old n new
stopped_one call b n old new time told = inl (time, told)

-- behind no calls
from_start : (P : ℕ → Option (List DiskCall) → Type 0) (b m : ℕ) (old mid : Option (List DiskCall))
    → Did [] b old m mid → P m mid → P b old
from_start P b m old mid none p =
    subst (λ (k : ℕ). P k old) none.0 (subst (λ (l : Option (List DiskCall)). P m l) none.1 p)

pub did_then : (xs ys : List Call) (b m n : ℕ) (old mid new : Option (List DiskCall)) → Did xs b old m mid
    → Did ys m mid n new → Did (xs ++ ys) b old n new
did_then [] ys b m n old mid new first second =
    from_start (λ k l. Did ys k l n new) b m old mid first second
did_then (x ∷ xs) ys b m n old mid new first second =
    did_then xs ys (next_moment b) m n (with_call (call_at b x.0 x.1 true) old) mid new first second

-- the first of them failed
pub stopped_first : (xs ys : List Call) (b n : ℕ) (old new : Option (List DiskCall)) → Stopped xs b old n new
    → Stopped (xs ++ ys) b old n new
stopped_first [] ys b n old new h = absurd h
stopped_first (x ∷ xs) ys b n old new (inl h) = inl h
stopped_first (x ∷ xs) ys b n old new (inr h) =
    inr (stopped_first xs ys (next_moment b) n (with_call (call_at b x.0 x.1 true) old) new h)

-- the first were done, and one behind them failed
pub stopped_then : (xs ys : List Call) (b m n : ℕ) (old mid new : Option (List DiskCall)) → Did xs b old m mid
    → Stopped ys m mid n new → Stopped (xs ++ ys) b old n new
stopped_then [] ys b m n old mid new first second =
    from_start (λ k l. Stopped ys k l n new) b m old mid first second
stopped_then (x ∷ xs) ys b m n old mid new first second =
    inr (stopped_then xs ys (next_moment b) m n (with_call (call_at b x.0 x.1 true) old) mid new first second)

-- a fact of a result that is no Ok
pub on_err : {T F : Type 0} {P : Type 0} (r : Result T F) → P → OnErr r P
on_err (Ok x) p = tt
on_err (Err e) p = p

-- what is known of the list behind a call that failed: it may leave the call out
abbrev pub Tried : Call → ℕ → Option (List DiskCall) → Option (List DiskCall) → Type 0
Tried call before old new = (new ≡ with_call (call_at before call.0 call.1 false) old) ⊎ (new ≡ old)

-- the first of two calls failed
pub first_failed : (x y : Call) (b n : ℕ) (old new : Option (List DiskCall)) → n ≡ next_moment b
    → Tried x b old new → Stopped (x ∷ y ∷ []) b old n new
first_failed x y b n old new time tried = inl (time, tried)

-- the second did
pub second_failed : (x y : Call) (b m n : ℕ) (old mid new : Option (List DiskCall)) → m ≡ next_moment b
    → mid ≡ with_call (call_at b x.0 x.1 true) old → n ≡ next_moment m → Tried y m mid new
    → Stopped (x ∷ y ∷ []) b old n new
second_failed x y b m n old mid new first called second tried =
    stopped_then (x ∷ []) (y ∷ []) b m n old mid new (first, called) (inl (second, tried))

-- both were done
pub both_done : (x y : Call) (b m n : ℕ) (old mid new : Option (List DiskCall)) → m ≡ next_moment b
    → mid ≡ with_call (call_at b x.0 x.1 true) old → n ≡ next_moment m
    → new ≡ with_call (call_at m y.0 y.1 true) mid → Did (x ∷ y ∷ []) b old n new
both_done x y b m n old mid new first called second called' =
    did_then (x ∷ []) (y ∷ []) b m n old mid new (first, called) (second, called')

-- what was made where the answer is an error
pub makes_failed : {D T E : Type 0} (g : Ghosts D) (calls : List Call) (old new : D) (P : E → Type 0)
    (r : Result T E) → IsErrAnd r P
    → Stopped calls (g.time old) (g.calls old) (g.time new) (g.calls new) → Makes g calls old new r
makes_failed g calls old new P (Ok v) is stopped = absurd is
makes_failed g calls old new P (Err e) is stopped = record { done = tt; failed = stopped }

-- an error is no Ok
pub no_ok : {T E : Type 0} (P : Type 0) (Q : E → Type 0) (r : Result T E) → IsErrAnd r Q → OnOk r P
no_ok P Q (Ok v) is = absurd is
no_ok P Q (Err e) is = tt

-- two lists of calls: the first stopped, the second stopped, or both were made
pub makes_first : {D T E : Type 0} (g : Ghosts D) (xs ys : List Call) (a b : D) (P : E → Type 0) (r : Result T E)
    → IsErrAnd r P → Stopped xs (g.time a) (g.calls a) (g.time b) (g.calls b) → Makes g (xs ++ ys) a b r
makes_first g xs ys a b P r is stopped = makes_failed g (xs ++ ys) a b P r is
    (stopped_first xs ys (g.time a) (g.time b) (g.calls a) (g.calls b) stopped)

pub makes_second : {D T E : Type 0} (g : Ghosts D) (xs ys : List Call) (a b c : D) (P : E → Type 0) (r : Result T E)
    → IsErrAnd r P → Did xs (g.time a) (g.calls a) (g.time b) (g.calls b)
    → Stopped ys (g.time b) (g.calls b) (g.time c) (g.calls c) → Makes g (xs ++ ys) a c r
makes_second g xs ys a b c P r is did stopped = makes_failed g (xs ++ ys) a c P r is
    (stopped_then xs ys (g.time a) (g.time b) (g.time c) (g.calls a) (g.calls b) (g.calls c) did stopped)

pub makes_both : {D T E : Type 0} (g : Ghosts D) (xs ys : List Call) (a b c : D) (v : T)
    → Did xs (g.time a) (g.calls a) (g.time b) (g.calls b) → Did ys (g.time b) (g.calls b) (g.time c) (g.calls c)
    → Makes {D = D} {T = T} {E = E} g (xs ++ ys) a c (Ok v)
makes_both g xs ys a b c v first second = record {
  done = did_then xs ys (g.time a) (g.time b) (g.time c) (g.calls a) (g.calls b) (g.calls c) first second;
  failed = tt;
}

-- what a call that failed left of the list
pub tried : (A B P : Type 0) → A ⊎ (B × P) → A ⊎ B
tried A B P (inl is) = inl is
tried A B P (inr is) = inr is.0

-- one call, as it stands in the list
pub makes_one : {D T E : Type 0} (g : Ghosts D) (x : Call) (old new : D) (r : Result T E)
    → g.time new ≡ next_moment (g.time old)
    → Lists g.content g.extent g.time g.may_leave g.calls x.0 x.1 old new r → Makes g (x ∷ []) old new r
makes_one g x old new (Ok v) time lists = record { done = (time, lists.done); failed = tt }
makes_one g x old new (Err e) time lists =
    record { done = tt; failed = inl (time, tried _ _ _ lists.failed) }
