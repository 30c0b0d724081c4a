-- A test of all sessions but one.
use Rattle.std.proofs.Common.{◌≡◌, Bool, List, ◌++◌, ap, ◌∙◌}
use Rattle.std.specs.List.{list_all}
use Rattle.std.specs.Prelude.{◌&&◌}
use Rattle.std.proofs.lemmas.List.Folds.{list_all-append}

pub all_of_both : {T : Type 0} → (test : T → Bool) (all xs ys : List T) → all ≡ xs ++ ys
    → list_all test all ≡ (list_all test xs && list_all test ys)
all_of_both test all xs ys is = ap (list_all test) is ∙ list_all-append test xs ys
