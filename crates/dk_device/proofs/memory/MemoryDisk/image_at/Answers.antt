-- The image that was replayed is one that a crash may leave.
use Rattle.std.proofs.Common.{◌≡◌, subst, refl}
use Rattle.dk_device.specs.declared.device.FileId.TheVariants.{Main, Wal}
use Rattle.dk_device.specs.Image.{image_of}
use Rattle.dk_device.specs.Memory.{MemoryState}
use Rattle.dk_device.proofs.ImageLemmas.{chosen_is, is_left}
use Rattle.dk_device.proofs.memory.MemoryDisk.image_at.Goals as goal

pub returns-clause-chosen : goal.returns-clause-chosen
returns-clause-chosen c =
    let state : MemoryState =
    record {
      history = record {
        main = c.self.inside.main.start;
        wal = c.self.inside.wal.start;
        calls = c.self.inside.calls.items;
        moment = c.self.inside.moment;
      };
      failing = c.self.inside.failing.items;
      faults = c.self.inside.faults;
    } in
    let main : MemoryState
    → Type 0 = λ s. c.in_ok-main.main.items ≡ image_of s.history c.args.moment c.args.choice Main in
    let wal : MemoryState
    → Type 0 = λ s. c.in_ok-wal.wal.items ≡ image_of s.history c.args.moment c.args.choice Wal in (
      subst main c.self.view_is
          (chosen_is state _ _ c.args.moment c.args.choice Main _ c.self.invariant.in_time refl
          c.as_slice-calls.ensures.value c.in_ok-main.ensures),
      subst wal c.self.view_is
          (chosen_is state _ _ c.args.moment c.args.choice Wal _ c.self.invariant.in_time refl
          c.as_slice-calls.ensures.value c.in_ok-wal.ensures),
    )

pub returns-clause-main : goal.returns-clause-main
returns-clause-main c = is_left c.args.self.now.history c.args.moment c.args.choice Main c.in_ok-main.main.items
    (returns-clause-chosen c).0

pub returns-clause-wal : goal.returns-clause-wal
returns-clause-wal c = is_left c.args.self.now.history c.args.moment c.args.choice Wal c.in_ok-wal.wal.items
    (returns-clause-chosen c).1
