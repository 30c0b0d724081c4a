-- A log without records, while Main is written.
use Rattle.std.specs.Prelude.{◌≡◌, Option, IfSome, List, ℕ}
use Rattle.std.proofs.Common.{sym, ◌∙◌, subst}
use Rattle.dk_device.specs.declared.device.Disk.{Ghosts}
use Rattle.dk_device.specs.declared.device.FileId.TheVariants.{Main}
use Rattle.dk_device.specs.Changes.{ChangesAlone}
use Rattle.dk_device.proofs.ChangeLemmas.{synced_other}
use Rattle.dk_header.specs.LogLayout.{log_header_bytes}
use Rattle.dk_block_file.specs.Effects.{HasNewLog}

-- a new log stays while Main is written
pub log_stays : {D : Type 0} (g : Ghosts D) (S : List ℕ → List ℕ → Type 0) (b c : D) → HasNewLog g b
    → ChangesAlone g S Main b c → HasNewLog g c
log_stays g S b c log alone = record {
  content = subst (λ (o : Option (List ℕ)). IfSome o (λ (wal : List ℕ). wal ≡ log_header_bytes 1))
      (sym alone.content) log.content;
  extent = alone.extent ∙ log.extent;
  synced = synced_other g S Main b c alone.images alone.content log.synced;
}
