-- What is found so far, with what the rest holds, are the literals of all.
use Rattle.std.specs.Prelude.{◌≡◌, ◌++◌}
use Rattle.std.specs.List.{filter_map}
use Rattle.std.proofs.Common.{drop}
use Rattle.dk_syntax.specs.Literals.{literal_of}
use Rattle.dk_syntax.proofs.expression.literals_among.Given as goal

abbrev pub invariant-loop-expr : goal.invariant-loop-expr
invariant-loop-expr l = l.values ++ filter_map literal_of (drop l.expr-index l.exprs) ≡ filter_map literal_of l.exprs
