-- What a call answers of readings one after the other, on a disk whose content may be unknown.
use Rattle.std.specs.Prelude.{◌≡◌, ℕ, List, length, Option, Some, None, IfSome, Result, Ok, Err, refl}
use Rattle.std.proofs.Common.{sym, subst}
use Rattle.dk_types.specs.declared.damage.Damage.{Damage}
use Rattle.dk_block_file.specs.declared.fault.BlockFault.{BlockFault}
use Rattle.dk_block_file.specs.declared.fault.BlockFault.TheVariants.{DiskFault, Damaged, OutOfMemory}
use Rattle.dk_strings.specs.Chains.{◌>>=◌}
use Rattle.dk_strings.specs.Effects.{Tells}

module _ {X Y Z W : Type 0} (v : X → Y) (w : Z → W) where
  -- a fault of the first is one of both
  pub fault_of : (r : Result Y Damage) (f : Y → Result W Damage) (fault : BlockFault) → Tells v r (Err fault)
      → Tells w (r >>= f) (Err fault)
  fault_of r f DiskFault h = tt
  fault_of r f (Damaged damage) h = rw h refl
  fault_of r f OutOfMemory h = tt

  -- behind the first the second tells
  pub then_of : (r : Result Y Damage) (f : Y → Result W Damage) (x : X) (result : Result Z BlockFault)
      → Tells v r (Ok x) → Tells w (f (v x)) result → Tells w (r >>= f) result
  then_of r f x result h told = rw h told

  pub fault_if : (c : Option (List ℕ)) (r : List ℕ → Result Y Damage) (f : List ℕ → Y → Result W Damage)
      (fault : BlockFault) → IfSome c (λ main. Tells v (r main) (Err fault))
      → IfSome c (λ main. Tells w (r main >>= f main) (Err fault))
  fault_if None r f fault h = tt
  fault_if (Some main) r f fault h = fault_of (r main) (f main) fault h

  pub then_if : (c : Option (List ℕ)) (r : List ℕ → Result Y Damage) (f : List ℕ → Y → Result W Damage) (x : X)
      (result : Result Z BlockFault) → IfSome c (λ main. Tells v (r main) (Ok x))
      → IfSome c (λ main. Tells w (f main (v x)) result) → IfSome c (λ main. Tells w (r main >>= f main) result)
  then_if None r f x result h told = tt
  then_if (Some main) r f x result h told = then_of (r main) (f main) x result h told

-- what holds of any content
pub if_some : (c : Option (List ℕ)) (P : List ℕ → Type 0) → ((main : List ℕ) → P main) → IfSome c P
if_some None P h = tt
if_some (Some main) P h = h main

-- the content of one disk is that of another
pub if_same : (c d : Option (List ℕ)) (P : List ℕ → Type 0) → d ≡ c → IfSome d P → IfSome c P
if_same c d P same h = subst (λ (o : Option (List ℕ)). IfSome o P) same h

-- a length by another name
pub if_rw : (c : Option (List ℕ)) (have extent : ℕ) → have ≡ extent → IfSome c (λ main. length main ≡ extent)
    → IfSome c (λ main. length main ≡ have)
if_rw c have extent is long = subst (λ (n : ℕ). IfSome c (λ main. length main ≡ n)) (sym is) long
