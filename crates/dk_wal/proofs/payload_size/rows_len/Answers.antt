use Rattle.std.proofs.Common.{rules, ℕ, ◌+◌, length, drop, ap, ◌∙◌}
use Rattle.std.specs.List.{flat_map}
use Rattle.dk_fault.specs.Counts.{capped}
use Rattle.dk_bytes.specs.RowFields.{row_bytes}
use Rattle.dk_wal.proofs.LengthLemmas.{len_step_at}
use Rattle.dk_wal.proofs.payload_size.rows_len.Goals as goal

pub rows-preserved : goal.rows-preserved
rows-preserved c = record {
  small = search rules;
  told = ap (λ (n : ℕ). capped (n + length (flat_map row_bytes (drop (c.rows.i + 1) c.args.rows.now))))
      c.saturating_add-len.ensures
      ∙ len_step_at row_bytes c.args.rows.now c.rows.i _ c.rows.len c.lent_len.result _ c.get.ensures c.lent_len.ensures
      c.rows.invariant.told;
}
