-- Fronts of texts that a sink took.
use Rattle.std.proofs.Common.{ℕ, ◌≤◌, ◌+◌, List, ◌++◌, length, take, Option, subst, sym, arith, length-append}
use Rattle.std.proofs.lemmas.List.{take-append-le}
use Rattle.std.proofs.Math.Seq.{take-append-add}
use Rattle.std.proofs.KnownBytes.{Appends-trans}
use Rattle.std.specs.Io.KnownBytes.{Appends}
use Rattle.dk_io.specs.Sinks.{TakesFront}

-- a front of a text is one of each longer text
pub front_longer : (old new : Option (List ℕ)) (text more : List ℕ) → TakesFront old new text
    → TakesFront old new (text ++ more)
front_longer old new text more front =
    let within : front.0 ≤ length text = front.1 in (
      front.0,
      simp length-append (omega arith),
      subst (Appends old new)
          (sym (take-append-le front.0 text more within)) front.2,
    )

-- a front behind a text that was taken
pub front_after : (old mid new : Option (List ℕ)) (text more : List ℕ) → Appends old mid text
    → TakesFront mid new more → TakesFront old new (text ++ more)
front_after old mid new text more taken front =
    let within : front.0 ≤ length more = front.1 in (
      length text + front.0,
      simp length-append (omega arith),
      subst (Appends old new) (sym (take-append-add text more front.0))
          (Appends-trans old mid new text (take front.0 more) taken front.2),
    )

pub appends_after : (old mid new : Option (List ℕ)) (text more : List ℕ) → Appends old mid text → Appends mid new more
    → Appends old new (text ++ more)
appends_after old mid new text more = Appends-trans old mid new text more
