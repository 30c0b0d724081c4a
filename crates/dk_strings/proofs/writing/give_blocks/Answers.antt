-- The last block that is left was taken last.
use Rattle.std.specs.Prelude.{◌≡◌, ℕ, [], ◌∷◌, ◌++◌, Option}
use Rattle.std.proofs.Common.{◌∙◌, ap, option_to_list}
use Rattle.dk_strings.proofs.TakingLemmas.{last_used, give_last}
use Rattle.dk_strings.proofs.writing.give_blocks.Goals as goal

pub give-requires : goal.give-requires
give-requires c =
    let items : c.given.left.items ≡ c.pop.new.self.items ++ c.in-Some.block ∷ [] =
    c.pop.ensures.items ∙ ap (λ (o : Option ℕ). c.pop.new.self.items ++ option_to_list o) c.in-Some.is in
    last_used c.given.left.items c.pop.new.self.items c.in-Some.block c.given.invariant.some.0 c.given.man.used items
    c.given.invariant.some.1

pub given-preserved : goal.given-preserved
given-preserved c =
    let items : c.given.left.items ≡ c.pop.new.self.items ++ c.in-Some.block ∷ [] =
    c.pop.ensures.items ∙ ap (λ (o : Option ℕ). c.pop.new.self.items ++ option_to_list o) c.in-Some.is in
    record {
      some = (
        c.given.invariant.some.0,
        give_last c.given.left.items c.pop.new.self.items c.in-Some.block c.given.invariant.some.0 c.given.man.used
            c.give.new.self.used items c.give.ensures.given c.given.invariant.some.1,
      );
      same = λ before takes.
          give_last c.given.left.items c.pop.new.self.items c.in-Some.block before c.given.man.used
          c.give.new.self.used items c.give.ensures.given (c.given.invariant.same before takes);
    }
