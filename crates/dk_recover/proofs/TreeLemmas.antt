-- The tree, read from its chain.
use Rattle.std.specs.Prelude.{◌≡◌, ◌≢◌, ℕ, List, Option, Some, None, IfSome, IfOk, Result, Ok, Err, refl}
use Rattle.std.proofs.Common.{subst}
use Rattle.dk_types.specs.declared.damage.Damage.{Damage}
use Rattle.dk_types.specs.declared.damage.Part.TheVariants as part
use Rattle.dk_block_file.specs.declared.fault.BlockFault.{BlockFault}
use Rattle.dk_pages.specs.declared.tree.TableEntry.{TableEntry}
use Rattle.dk_header.specs.declared.header.TheConstants.{NO_ROOT}
use Rattle.dk_meta.specs.Strings.{IsString}
use Rattle.dk_meta.specs.Tree.{IsTree, tree_bytes, tree_at}
use Rattle.dk_meta.proofs.TreeLemmas.{tree_field}
use Rattle.dk_meta.proofs.StringLemmas.{string_again}
use Rattle.dk_strings.specs.Chains.{◌>>=◌, Chain, IsChain, string_at}
use Rattle.dk_strings.proofs.ChainLemmas.{chain_again}
use Rattle.dk_strings.specs.Effects.{Tells, chain_of}
use Rattle.dk_strings.specs.declared.string.Found.{Found}
use Rattle.dk_recover.specs.declared.tree.FoundTree.{FoundTree}
use Rattle.dk_recover.specs.Tree.{tables_in, stored_tree, no_tree, IsStoredTree, IsTreeAt}
use Rattle.dk_recover.proofs.TellingLemmas.{fault_if, then_if, fault_of, then_of, if_some}

abbrev chain_read : ℕ → List ℕ → List ℕ → Result Chain Damage
chain_read root used main = string_at (record { root = root; part = part.Tree }) used main

abbrev found : Chain → List TableEntry → Result FoundTree Damage
found chain tables = Ok (record { tables = tables; blocks = chain.blocks })

abbrev behind : Chain → Result FoundTree Damage
behind chain = tables_in chain.bytes >>= found chain

abbrev itself : FoundTree → FoundTree
itself tree = tree

module _ (c : Option (List ℕ)) (root : ℕ) (used : List ℕ) where
  pub chain_fault : (fault : BlockFault) → IfSome c (λ main. Tells chain_of (chain_read root used main) (Err fault))
      → IfSome c (λ main. Tells itself (stored_tree root used main) (Err fault))
  unfolding stored_tree
  chain_fault fault h = fault_if chain_of itself c (chain_read root used) (λ main. behind) fault h

  pub tables_fault : (chain : Found) (fault : BlockFault) (bytes : List ℕ) → bytes ≡ chain.bytes.items
      → IfSome c (λ main. Tells chain_of (chain_read root used main) (Ok chain))
      → Tells (λ (t : List TableEntry). t) (tables_in bytes) (Err fault)
      → IfSome c (λ main. Tells itself (stored_tree root used main) (Err fault))
  unfolding stored_tree
  tables_fault chain fault bytes same h told =
      then_if chain_of itself c (chain_read root used) (λ main. behind) chain (Err fault) h
      (if_some c _ (λ main. fault_of (λ (t : List TableEntry). t) itself (tables_in chain.bytes.items)
      (found (chain_of chain)) fault
      (subst (λ (b : List ℕ). Tells (λ (t : List TableEntry). t) (tables_in b) (Err fault)) same told)))

  pub tables_found : (chain : Found) (tables : List TableEntry) (bytes : List ℕ) → bytes ≡ chain.bytes.items
      → IfSome c (λ main. Tells chain_of (chain_read root used main) (Ok chain))
      → Tells (λ (t : List TableEntry). t) (tables_in bytes) (Ok tables)
      → IfSome c (λ main. Tells itself (stored_tree root used main)
      (Ok (record { tables = tables; blocks = chain.blocks })))
  unfolding stored_tree
  tables_found chain tables bytes same h told =
      then_if chain_of itself c (chain_read root used) (λ main. behind) chain
      (Ok (record { tables = tables; blocks = chain.blocks })) h
      (if_some c _ (λ main. then_of (λ (t : List TableEntry). t) itself (tables_in chain.bytes.items)
      (found (chain_of chain)) tables (Ok (record { tables = tables; blocks = chain.blocks }))
      (subst (λ (b : List ℕ). Tells (λ (t : List TableEntry). t) (tables_in b) (Ok tables)) same told) refl))

  -- ---- the grammar

  pub stored_found : (chain : Found) (tables : List TableEntry) (bytes : List ℕ) → bytes ≡ chain.bytes.items
      → IfSome c (λ main. IsChain main used root (chain_of chain)) → IsString IsTree tree_bytes tables bytes
      → IfSome c (λ main. IsStoredTree main used root (record { tables = tables; blocks = chain.blocks }))
  stored_found chain tables bytes same stands spelled = at c stands
    where
      at : (o : Option (List ℕ)) → IfSome o (λ main. IsChain main used root (chain_of chain))
          → IfSome o (λ main. IsStoredTree main used root (record { tables = tables; blocks = chain.blocks }))
      at None stands = tt
      at (Some main) stands = record {
        chain = chain_of chain;
        stands = stands;
        spelled = subst (λ (b : List ℕ). IsString IsTree tree_bytes tables b) same spelled;
        blocks = refl;
      }

  -- a stored tree is read
  stored_again : (main : List ℕ) (tree : FoundTree) → IsStoredTree main used root tree
      → stored_tree root used main ≡ Ok tree
  unfolding stored_tree
  stored_again main tree is =
      let bytes = string_again tree_at IsTree tree_bytes tree_field is.chain.bytes tree.tables is.spelled in
      rw (chain_again (record { root = root; part = part.Tree }) used main is.chain is.stands, bytes, is.blocks) refl

  pub tree_found : (r : Result FoundTree BlockFault) → root ≢ NO_ROOT
      → IfSome c (λ main. IfOk r (λ tree. IsStoredTree main used root tree))
      → IfSome c (λ main. IfOk r (λ tree. IsTreeAt main used root tree))
  tree_found r other found = at c r found
    where
      at : (o : Option (List ℕ)) (r : Result FoundTree BlockFault)
          → IfSome o (λ main. IfOk r (λ tree. IsStoredTree main used root tree))
          → IfSome o (λ main. IfOk r (λ tree. IsTreeAt main used root tree))
      at None r found = tt
      at (Some main) (Err fault) found = tt
      at (Some main) (Ok tree) found = record { none = λ e. absurd (other e); some = λ _. found }

  pub no_tree_found : root ≡ NO_ROOT → IfSome c (λ main. IsTreeAt main used root no_tree)
  no_tree_found is = if_some c _ (λ main. record { none = λ _. refl; some = λ other. absurd (other is) })

  -- what is in the grammar is answered
  pub stored_only : (r : Result FoundTree BlockFault) → root ≢ NO_ROOT
      → IfSome c (λ main. Tells itself (stored_tree root used main) r)
      → IfSome c (λ main. (tree : FoundTree) → IsTreeAt main used root tree → Tells itself (Ok tree) r)
  stored_only r other told = at c told
    where
      at : (o : Option (List ℕ)) → IfSome o (λ main. Tells itself (stored_tree root used main) r)
          → IfSome o (λ main. (tree : FoundTree) → IsTreeAt main used root tree → Tells itself (Ok tree) r)
      at None told = tt
      at (Some main) told = λ tree h. subst (λ (reading : Result FoundTree Damage). Tells itself reading r)
          (stored_again main tree (h.some other)) told
