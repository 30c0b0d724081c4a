use Rattle.std.proofs.Common.{sym, ◌∙◌, arith, ap, subst, Bool, List, ℕ, ◌+◌, length}
use Rattle.dk_wal.specs.declared.limits.TheConstants.{FRAME_BYTES}
use Rattle.dk_wal.specs.Steps.{Follows}
use Rattle.dk_wal.specs.Payload.{payload_read}
use Rattle.dk_wal.specs.LogReading.{read_on}
use Rattle.dk_wal.proofs.ReadingLemmas.{one_read, read_place}
use Rattle.dk_wal.proofs.scanning.read_records.Goals as goal

pub records-preserved : goal.records-preserved
records-preserved c =
    let n = FRAME_BYTES + length c.in-Some.payload.now in
    let step = subst (λ (b : Bool). Follows (payload_read c.records.reader.tables c.in-Some.payload.now) n b
    c.records.reader c.read_record.new.reader) c.if-not-branch.false c.in_ok-read_record.ensures in
    record {
      told =
          ap (λ (l : List ℕ). read_on (length l) c.read_record.new.reader l) c.split_at.ensures.back
          ∙ one_read c.records.reader c.read_record.new.reader c.records.rest.now c.in-Some.payload.now
          (sym c.in-Some.ensures.payload) n c.in-Some.ensures.len step
          ∙ c.records.invariant.told;
      place = omega (
        arith,
        read_place c.records.reader c.read_record.new.reader c.in-Some.payload.now n step,
        ap (λ (l : List ℕ). length l) c.split_at.ensures.back,
        c.records.invariant.place,
        c.in-Some.ensures.within,
      );
    }
