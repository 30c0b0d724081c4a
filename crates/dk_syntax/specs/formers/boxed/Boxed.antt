-- `Boxed` as a type that may hold the type that holds it: it stands for the one value behind it.
use mathlib.Core.Path.{◌≡◌, refl}
use mathlib.Core.Former.{Former, this, const, pair, via}
use denote.RattleType.{RattleType}
use denote.HoleLaws.{Alike}
use denote.HolePlaces.{Recodes, struct_places, laid, stays}
use denote.Hole.Fix.{over}
use denote.Param.Weighed.{Weighed}
use denote.Model.Placed.{view_places}
use Rattle.std.specs.declared.cmp.PartialEq as eq
use Rattle.std.specs.declared.alloc.Global.{Global}
use Rattle.std.specs.contracts.alloc.Global as heap
use Rattle.sqlite_items.specs.formers.boxed.Boxed as below
use Rattle.dk_syntax.specs.declared.boxed.Boxed.TheInside.{Inside}
use Rattle.dk_syntax.specs.declared.boxed.Boxed.TheView.{view, invariant}
use Rattle.dk_syntax.specs.contracts.boxed.Boxed as C
use Rattle.dk_syntax.specs.contracts.boxed.Boxed.TheInside as I

abbrev pub the_former : Former {0} → Former {0}
the_former g = g

abbrev pub the_weighed : {g : Former {0}} → Weighed g → Weighed (the_former g)
the_weighed w = w

abbrev fields : Former {0}
fields = via (pair this (const Global)) Inside (λ X boxed. (boxed.inner, boxed.alloc))
    (λ X v. record { inner = v.0; alloc = v.1 }) (λ X boxed. refl) (λ X v. refl)

module _ (R S : RattleType) (h : R.Denot → S.Denot) where
  pub the_places : Alike R S h → Alike (C.the_row R) (C.the_row S) ((the_former this).map R.Denot S.Denot h)
  the_places a = view_places fields this view (λ X Y k u. refl) (λ X u. refl) R.Denot S.Denot h (C.the_row R).coded (C.the_row S).coded
      (invariant R.Denot) (invariant S.Denot) (λ u p q. refl) (λ u p q. refl) (λ u e. tt) (λ u e. tt)
      (over (I.the_row R)) (over (I.the_row S))
      (struct_places (I.the_type R) (I.the_type S) (h, (λ alloc. alloc, tt)) _ (λ d. refl) refl
      (laid _ _ _ (below.the_places R S h a), (stays heap.the_row, tt)))

  pub the_codes_placed : Recodes R S h → Recodes (C.the_row R) (C.the_row S) ((the_former this).map R.Denot S.Denot h)
  the_codes_placed e d = e d

pub the_eq_natural : (X Y : Type 0) (h : X → Y) (V : eq.Ghosts Y) (a b : X) → V.eq (h a) (h b) ≡ V.eq (h a) (h b)
the_eq_natural X Y h V a b = refl
