-- The reader gives the records one by one, as many as are asked for at most.
use Rattle.std.proofs.Common.{ℕ, ◌+◌, ◌-◌, List, Some, length, ap, sym, Bor, ◌∙◌, arith}
use Rattle.csv.specs.Reading.{records, default_config, strip_bom}
use Rattle.csv.specs.Records.{fields_of}
use Rattle.dk_copy.specs.Copied.{copied_rows}
use Rattle.dk_copy.proofs.ReadingLemmas.{with_turns, taken, over, spent}
use Rattle.dk_copy.proofs.CopiedLemmas.{begins, goes_on, fails, ends}
use Rattle.dk_copy.proofs.rows.copied_rows.Goals as goal

pub records-init : goal.records-init
records-init c = record {
  left = records default_config (strip_bom c.args.bytes.now);
  has = with_turns (λ (s : Bor (List ℕ)). Some s.now) c.reader_of-reader.result (length (strip_bom c.args.bytes.now) + 1)
      (length c.behind_mark.result.now + 1 - 0) (records default_config (strip_bom c.args.bytes.now))
      (omega (arith, ap length c.behind_mark.ensures)) c.reader_of-reader.ensures;
  within = omega arith;
  told = begins c.as_slice-columns.result.now c.args.schema.now c.new-rows.result c.args.bytes.now c.new-rows.ensures
      c.as_slice-columns.ensures.columns;
}

pub returns-then-not-branch : goal.returns-then-not-branch
returns-then-not-branch c =
    let inv = c.records.invariant in
    let none = over (λ (s : Bor (List ℕ)). Some s.now) c.records.reader c.take_record.new.reader c.in_ok-take_record.field-0
    (fields_of c.take_record.new.fields) (length c.behind_mark.result.now + 1 - c.records.counter)
    (length c.behind_mark.result.now + 1 - (c.records.counter + 1)) inv.left c.in_ok-take_record.ensures inv.has
    (omega (arith, c.records-test.true)) c.if-not-branch.true in
    ends c.as_slice-columns.result.now c.records.rows inv.left (copied_rows c.args.schema.now c.args.bytes.now) none inv.told

pub records-preserved : goal.records-preserved
records-preserved c =
    let inv = c.records.invariant in
    let took = taken (λ (s : Bor (List ℕ)). Some s.now) c.records.reader c.take_record.new.reader c.in_ok-take_record.field-0
    (fields_of c.take_record.new.fields) (length c.behind_mark.result.now + 1 - c.records.counter)
    (length c.behind_mark.result.now + 1 - (c.records.counter + 1)) inv.left c.in_ok-take_record.ensures inv.has
    (omega (arith, c.records-test.true)) c.if-not-branch.false in
    record {
      left = took.0;
      has = took.2;
      within = omega (arith, c.records-test.true);
      told = goes_on c.as_slice-columns.result.now c.records.rows c.put_row.new.rows (fields_of c.take_record.new.fields) inv.left
          took.0 (copied_rows c.args.schema.now c.args.bytes.now) took.1 inv.told c.in-Ok.ensures;
    }

pub returns-in-Err : goal.returns-in-Err
returns-in-Err c =
    let inv = c.records.invariant in
    let took = taken (λ (s : Bor (List ℕ)). Some s.now) c.records.reader c.take_record.new.reader c.in_ok-take_record.field-0
    (fields_of c.take_record.new.fields) (length c.behind_mark.result.now + 1 - c.records.counter)
    (length c.behind_mark.result.now + 1 - (c.records.counter + 1)) inv.left c.in_ok-take_record.ensures inv.has
    (omega (arith, c.records-test.true)) c.if-not-branch.false in
    fails {S = Unit {0}} (λ _. c.put_row.new.rows) c.as_slice-columns.result.now c.records.rows (fields_of c.take_record.new.fields)
    inv.left took.0 (copied_rows c.args.schema.now c.args.bytes.now) c.in-Err.fault took.1 inv.told c.in-Err.ensures

pub returns : goal.returns
returns c =
    let inv = c.records.invariant in
    let none = spent (λ (s : Bor (List ℕ)). Some s.now) c.records.reader (length c.behind_mark.result.now + 1 - c.records.counter)
    inv.left (omega (arith, c.records-test.false)) inv.has in
    ends c.as_slice-columns.result.now c.records.rows inv.left (copied_rows c.args.schema.now c.args.bytes.now) none inv.told
