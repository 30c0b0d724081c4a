use Rattle.std.proofs.Common.{rules, ℕ, ◌+◌, length, drop, ap, ◌∙◌}
use Rattle.dk_fault.specs.Counts.{capped}
use Rattle.dk_bytes.specs.RowFields.{cell_bytes, row_bytes}
use Rattle.dk_wal.proofs.LengthLemmas.{len_step_at}
use Rattle.dk_wal.proofs.payload_size.lent_len.Goals as goal

pub cells-preserved : goal.cells-preserved
cells-preserved c = record {
  small = search rules;
  told = ap (λ (n : ℕ). capped (n + length (row_bytes (drop (c.cells.j + 1) c.args.row.now)))) c.saturating_add-len.ensures
      ∙ len_step_at cell_bytes c.args.row.now c.cells.j _ c.cells.len c.cell_len.result _ c.get.ensures c.cell_len.ensures
      c.cells.invariant.told;
}
