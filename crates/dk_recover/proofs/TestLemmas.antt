-- A manager of blocks of which none is used.
use Rattle.std.specs.Prelude.{◌≡◌, ℕ, false, List, []}
use Rattle.std.proofs.Common.{ap}
use Rattle.dk_block_man.specs.Used.{is_among, AreBelow}

pub none_used : (n : ℕ) (used : List ℕ) → used ≡ [] → AreBelow n used
none_used n used none k on =
    let off : is_among used k ≡ false = ap (λ (l : List ℕ). is_among l k) none in absurd cc
