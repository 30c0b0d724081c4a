-- A file that is cut to nothing and written anew.
use Rattle.std.specs.Prelude.{◌≡◌, ℕ, ◌+◌, List, ◌++◌, length, take, Option, None, Some, IfSome, refl}
use Rattle.std.proofs.Common.{option_map, inl, inr, ◌∙◌, ap, arith}
use Rattle.std.proofs.lemmas.List.{drop_all, append-nil, length-take}
use Rattle.dk_device.specs.declared.device.Disk.{Ghosts}
use Rattle.dk_device.specs.declared.device.FileId.{FileId}
use Rattle.dk_device.specs.Disk.{overlay, TornWrite, TornCut, FrontOrShort}
use Rattle.dk_device.specs.Changes.{images_of, IsSynced, ChangesAlone}
use Rattle.dk_device.proofs.ChangeLemmas.{alone_less, alone_then}

-- a file that is known behind a change is known before it
pub known : (f : List ℕ → List ℕ) (old new : Option (List ℕ)) (c : List ℕ) → new ≡ option_map f old → new ≡ Some c
    → (m : List ℕ) × (old ≡ Some m) × (c ≡ f m)
known f None new c is told = absurd cc
known f (Some m) new c is told = (m, refl, cc)

-- a file without bytes is what was written
pub all_written : (bytes m : List ℕ) → length m ≡ 0 → overlay 0 bytes m ≡ bytes
all_written bytes m none =
    ap (λ (l : List ℕ). bytes ++ l) (drop_all (0 + length bytes) m (omega arith)) ∙ append-nil bytes

-- and so is one that was cut to nothing
pub replaced : (bytes : List ℕ) (old mid new : Option (List ℕ)) → mid ≡ option_map (take 0) old
    → new ≡ option_map (overlay 0 bytes) mid → IfSome new (λ (w : List ℕ). w ≡ bytes)
replaced bytes None mid new cut written = rw (written, cut) tt
replaced bytes (Some m) mid new cut written =
    rw (written, cut) (all_written bytes (take 0 m) (omega (arith, length-take 0 m)))

module _ {D : Type 0} (g : Ghosts D) (file : FileId) (n : ℕ) (a b : D) where
  pub emptied_alone : ChangesAlone g (TornCut 0) file a b → ChangesAlone g (FrontOrShort n) file a b
  emptied_alone cut = alone_less g (TornCut 0) (FrontOrShort n) file a b (λ d c left torn. inl torn.front) cut

  pub replaced_alone : (c : D) → g.content b file ≡ option_map (take 0) (g.content a file) → IsSynced g b file
      → ChangesAlone g (TornCut 0) file a b → ChangesAlone g (TornWrite 0 n (g.extent b file)) file b c
      → ChangesAlone g (FrontOrShort n) file a c
  replaced_alone c emptied synced first second =
      alone_then g (TornCut 0) (TornWrite 0 n (g.extent b file)) (FrontOrShort n) file a b c
      (λ x y left cut. inl cut.front) both first second
    where
      both : (x y z : List ℕ) → images_of g a file x → images_of g b file y → TornCut 0 x y
          → TornWrite 0 n (g.extent b file) y z → FrontOrShort n x z
      both x y z left behind cut torn =
          let is = known (take 0) (g.content a file) (g.content b file) y emptied (synced y behind) in
          let len = ap (λ (l : List ℕ). length l) is.2 ∙ length-take 0 is.0 in
          inr (omega (arith, torn.no_longer, len))
