-- A part behind a net makes a net.
use Rattle.std.proofs.Common.{◌≡◌, Bool, true, List, [], ◌∷◌, ◌++◌, sym, refl, arith, subst}
use Rattle.std.specs.Prelude.{Result, Ok, Err, OnOk, OnErr}
use Rattle.std.specs.List.{list_all}
use Rattle.std.proofs.lemmas.List.Folds.{list_all-append}
use Rattle.std.proofs.lemmas.Bool.{and_from, and_parts}
use Rattle.dk_types.specs.declared.net.TableNet.{TableNet}
use Rattle.dk_types.specs.Nets.{changes, all_below, ascends, IsNet}

-- a test that all items pass, and one more behind them
pub all_more : {T : Type 0} → (test : T → Bool) → (xs : List T) → (x : T)
    → list_all test xs ≡ true → test x ≡ true → list_all test (xs ++ x ∷ []) ≡ true
all_more test xs x all one = rw (list_all-append test xs (x ∷ [])) (grind (arith, all, one))

pub ascends_more : (parts : List TableNet) → (part : TableNet)
    → ascends parts ≡ true → all_below part.table parts ≡ true → ascends (parts ++ part ∷ []) ≡ true
ascends_more [] part up below = refl
ascends_more (first ∷ parts) part up below =
    let u = and_parts _ _ up in
    let b = and_parts _ _ below in
    and_from _ _ (all_more _ parts part u.0 b.0) (ascends_more parts part u.1 b.1)

pub net_more : (parts : List TableNet) → (part : TableNet)
    → IsNet parts → changes part ≡ true → all_below part.table parts ≡ true → IsNet (parts ++ part ∷ [])
net_more parts part net full below =
    (ascends_more parts part net.0 below, all_more changes parts part net.1 full)

-- whether the part was added or not
pub net_pushed : {T E : Type 0} → (result : Result T E) → (new old : List TableNet) → (part : TableNet)
    → OnOk result (new ≡ old ++ part ∷ []) → OnErr result (new ≡ old)
    → IsNet old → changes part ≡ true → all_below part.table old ≡ true → IsNet new
net_pushed (Ok done) new old part added kept net full below =
    let P : List TableNet → Type 0 = IsNet in
    subst P (sym added) (net_more old part net full below)
net_pushed (Err fault) new old part added kept net full below =
    let P : List TableNet → Type 0 = IsNet in
    subst P (sym kept) net
