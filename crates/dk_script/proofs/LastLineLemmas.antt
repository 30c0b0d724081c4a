-- The last line behind the replies.
use Rattle.std.proofs.Common.{◌≡◌, ℕ, ◌≤◌, List, [], length, take, Option, Some, None, Result, Ok, Err, inl, inr, refl, sym, ap, subst, arith}
use Rattle.std.specs.Prelude.{OnOk, OnErr, ◌⊎◌}
use Rattle.std.proofs.Math.Seq.{take-length}
use Rattle.std.proofs.KnownBytes.{Appends-nil, Appends-trans}
use Rattle.std.specs.Io.KnownBytes.{Appends}
use Rattle.dk_fault.specs.Causes.{Rose, HasCause}
use Rattle.dk_io.specs.Sinks.{TakesFront}
use Rattle.dk_io.specs.declared.streams.Sink.{Ghosts}
use Rattle.dk_io.specs.declared.streams.Source.{Ghosts as SourceGhosts}
use Rattle.dk_script.specs.LastLine.{last_line}
use Rattle.dk_types.specs.declared.status.Status.{Status}
use Rattle.dk_types.specs.declared.status.Status.TheVariants.{Done, Usage, BadLine, ReadFault, WriteFault, DiskFault, NotADatabase, VersionUnknown, Damaged, OutOfMemory, ScriptTooLong}
use Rattle.dk_script.specs.Sinks.{HasCauseIn}
use Rattle.dk_script.specs.LineSteps.{IfBothKnown}
use Rattle.dk_script.specs.RunEnds.{Ending, EndsWithLastLine, Replies, Prints, end_line, status_of}
use Rattle.dk_script.specs.declared.trouble.Trouble.TheVariants.{Nothing, Want, Damage, Fault}

-- the last line was written, or a front of it where the sink failed
pub closed : {K E : Type 0} (g : Ghosts K) (r : Result (Unit {0}) E) (old new : K) (last : List ℕ)
    → OnOk r (Appends (g.taken old) (g.taken new) last) → OnErr r (TakesFront (g.taken old) (g.taken new) last)
    → HasCause (g.faults old) (g.faults new) r → EndsWithLastLine g old new [] last
closed g (Ok v) old new last ok err cause =
    record {
      count = length last;
      within = omega arith;
      taken =
          subst (Appends (g.taken old) (g.taken new)) (sym (take-length last)) ok;
      whole = inl refl;
    }
closed g (Err e) old new last ok err cause =
    record { count = err.0; within = err.1; taken = err.2; whole = inr cause.failed }

whole_since : (earlier before now count len : ℕ) → earlier ≤ before → (count ≡ len) ⊎ Rose before now → (count ≡ len)
    ⊎ Rose earlier now
whole_since earlier before now count len later (inl e) = inl e
whole_since earlier before now count len later (inr rose) = inr (omega (arith, rose))

-- behind a text
closes_behind : {K : Type 0} (g : Ghosts K) (old mid new : K) (text last : List ℕ) → g.faults old ≤ g.faults mid
    → Appends (g.taken old) (g.taken mid) text → EndsWithLastLine g mid new [] last
    → EndsWithLastLine g old new text last
closes_behind g old mid new text last later taken closes =
    record {
      count = closes.count;
      within = closes.within;
      taken = Appends-trans (g.taken old) (g.taken mid) (g.taken new) text (take closes.count last) taken closes.taken;
      whole = whole_since (g.faults old) (g.faults mid) (g.faults new) closes.count (length last) later closes.whole;
    }

-- nothing was written where there is no last line
pub closed_none : {K : Type 0} (g : Ghosts K) (old : K) → EndsWithLastLine g old old [] []
closed_none g old = record { count = 0; within = omega arith; taken = Appends-nil (g.taken old); whole = inl refl }

-- behind the replies to a known script
pub prints : {K : Type 0} (g : Ghosts K) (a b : Option (List ℕ)) (old mid new : K) (ending : Ending) (status : Status)
    → g.faults old ≤ g.faults mid → status ≡ status_of ending
    → IfBothKnown a b (λ script rest. Replies ending script rest (g.taken old) (g.taken mid))
    → EndsWithLastLine g mid new [] (end_line ending)
    → IfBothKnown a b (λ script rest. Prints g old new status script rest)
prints g None b old mid new ending status later is replies last = tt
prints g (Some script) None old mid new ending status later is replies last = absurd replies
prints g (Some script) (Some rest) old mid new ending status later is replies last =
    record {
      ending = ending;
      is = is;
      text = replies.text;
      due = replies.due;
      sent =
          closes_behind g old mid new replies.text (end_line ending) later replies.sent last;
    }

-- a run of a script does not end with wrong words
pub no_usage : (ending : Ending) (read write : Type 0) → HasCauseIn ⊥ read write (status_of ending)
    → ending ≡ Err Usage → ⊥
no_usage ending read write cause e = subst (λ (x : Ending). HasCauseIn ⊥ read write (status_of x)) e cause

-- and its cause is one of the whole program
pub same_cause : (status : Status) (usage read write : Type 0) → HasCauseIn ⊥ read write status
    → HasCauseIn usage read write status
same_cause Usage usage read write cause = absurd cause
same_cause Done usage read write cause = tt
same_cause (BadLine line) usage read write cause = tt
same_cause ReadFault usage read write cause = cause
same_cause WriteFault usage read write cause = cause
same_cause DiskFault usage read write cause = tt
same_cause (Damaged damage) usage read write cause = tt
same_cause OutOfMemory usage read write cause = tt
same_cause ScriptTooLong usage read write cause = tt
same_cause status usage read write cause = absurd cause

-- only what stops a run is wrong words
pub usage_stops : (ending : Ending) → status_of ending ≡ Usage → ending ≡ Err Usage
usage_stops (Ok Nothing) e = absurd (cc e)
usage_stops (Ok Want) e = absurd (cc e)
usage_stops (Ok (Damage found)) e = absurd (cc e)
usage_stops (Ok Fault) e = absurd (cc e)
usage_stops (Err status) e = ap Err e

-- wrong words get the usage line, and nothing was read
pub usage_told : {S K : Type 0} (g : Ghosts K) (h : SourceGhosts S) (before after : S) (old mid new : K) (ending : Ending)
    → ending ≡ Err Usage → (ending ≡ Err Usage → (after ≡ before) × (mid ≡ old))
    → EndsWithLastLine g mid new [] (end_line ending)
    → (after ≡ before) × EndsWithLastLine g old new [] (last_line Usage)
usage_told g h before after old mid new ending is untouched last = (
  (untouched is).0,
  subst (λ (e : Ending). EndsWithLastLine g old new [] (end_line e)) is
      (subst (λ x. EndsWithLastLine g x new [] (end_line ending)) (untouched is).1 last),
)
