-- The front of what was left was given.
use Rattle.std.proofs.Common.{ap, sym, arith}
use Rattle.dk_io.specs.Memory.{Feed}
use Rattle.dk_io.proofs.WindowLemmas.{front_given, nothing_given}
use Rattle.dk_io.proofs.memory.MemorySourceSource.read.Goals as goal

pub returns-clause-bytes : goal.returns-clause-bytes
returns-clause-bytes c = (
  front_given c.self.inside.bytes.items c.deref.result.now _ _ c.self.inside.at c.copy_front-count.result
      c.deref.ensures.value
      (sym (ap (λ (s : Feed). s.left) c.self.view_is)) c.copy_front-count.ensures.bytes,
  λ none some. nothing_given c.self.inside.bytes.items c.deref.result.now c.self.inside.at c.copy_front-count.result _
      _ c.deref.ensures.value
      c.copy_front-count.ensures.count (omega (arith, some)) (omega arith) none,
)
