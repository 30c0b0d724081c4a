-- A function over one item has its contract where the walk through its code meets its clauses.
use seplogic.Ra.Ura.{Ura}
use mir.Syntax.{Fn}
use prog.Model.{Model}
use prog.Routine.{Callee}
use prog.Wp.{WpFn, Tables, Closed}
use types.Logic.{Logic}
use contract.Running.{Running, tables, tables_of}
use denote.RattleType.{RattleType}
use denote.Triple.Carry.{grown, spared}
use denote.Triple.Clauses.{Clauses, Ended, closing}
use denote.Triple.Spec.{Meets, triple_of}
use denote.Triple.Statement.{Triple}
use denote.Triple.Table.{entered, run_framed}

module _ {M : Type 1} (𝓤 : Ura M) (𝓛 : Logic 𝓤) (𝓜 : Model 𝓤 𝓛.H) (𝓡 : Running 𝓤 𝓛.H 𝓜) where
  -- what a call and a loop are known by
  abbrev pub known : Tables 𝓤 𝓛.H
  known = tables_of 𝓤 𝓛.H 𝓜 (tables 𝓤 𝓛.H 𝓜 𝓡 𝓡.env)

  -- the code needs no token of the item's lifetime, and carries it
  pub by_walk : (X : RattleType) (e : Ended) (spec : Clauses 𝓤 e) (k : Callee) (f : Fn)
      → Closed 𝓤 𝓛.H known.C known.Λ k f → Meets 𝓛 e.signature (WpFn 𝓤 𝓛.H known.C known.Λ f) (closing 𝓛 e spec)
      → Triple 𝓤 (𝓡.run (𝓡.env k)) (grown 𝓛 e.signature 1 (X.lives, tt) (closing 𝓛 e spec))
  unfolding tables_of
  by_walk X e spec k f closed meets =
      spared 𝓛 e.signature (𝓡.run (𝓡.env k)) (run_framed 𝓤 𝓛.H 𝓜 𝓡 (𝓡.env k)) 1 (X.lives, tt) (closing 𝓛 e spec)
      (entered 𝓤 𝓛.H (triple_of 𝓛 e.signature (closing 𝓛 e spec)) known.C known.Λ k f closed meets)
