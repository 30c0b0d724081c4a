-- Want of memory counts as a fault.
use Rattle.std.proofs.Common.{◌≡◌, ℕ, ◌≤◌, Bool, false, ap, subst, ◌∙◌, if◌then◌else◌}
use Rattle.dk_fault.specs.Causes.{Rose}
use Rattle.dk_fault.specs.Counts.{next_count}
use Rattle.dk_io.specs.Memory.{CallPlan, after_call, Taker}
use Rattle.dk_io.proofs.memory.MemorySinkSink.write.Goals as goal

-- a call that does not fail counts no fault
same_faults : (plan new : CallPlan) (failed : Bool) → new ≡ after_call plan failed → failed ≡ false
    → new.faults ≡ plan.faults
same_faults plan new failed is not =
    ap (λ (p : CallPlan). p.faults) is ∙ ap (λ b. if b then next_count plan.faults else plan.faults) not

pub returns-then-is_err-clause-cause : goal.returns-then-is_err-clause-cause
returns-then-is_err-clause-cause c =
    let same : c.begin_call.new.self.faults ≡ c.args.self.now.plan.faults =
    same_faults c.self.inside.plan c.begin_call.new.self c.begin_call.result c.begin_call.ensures.counted
    c.if-begin_call.false
    ∙ ap (λ (s : Taker). s.plan.faults) c.self.view_is in
    record {
      later = subst (λ (n : ℕ). n ≤ c.fail.new.self.faults) same c.fail.ensures.later;
      failed = subst (λ (n : ℕ). Rose n c.fail.new.self.faults) same c.fail.ensures.rose;
    }
