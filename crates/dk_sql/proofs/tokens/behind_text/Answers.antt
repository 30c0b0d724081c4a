-- A piece goes on with the text, or the text ends behind it.
use Rattle.std.proofs.Common.{sym, arith, rules}
use Rattle.dk_sql.proofs.TextLemmas.{ends_turn, ends_behind}
use Rattle.dk_sql.proofs.tokens.behind_text.Goals as goal

pub pieces-preserved : goal.pieces-preserved
pieces-preserved c = record {
  told = ends_turn c.pieces.closed.now c.pieces.inside.now c.split_at.result.1.now c.in-Some.more.now _
      c.piece_len-len.result c.piece_len-len.ensures.len (omega arith) c.piece_len-len.ensures.within
      (search rules) (sym c.in-Some.ensures.exact) c.in-Some.ensures.shorter c.pieces.invariant.told;
  closed = omega (arith, c.split_at.ensures.back_len, c.pieces.invariant.inside);
  inside = omega (arith, c.split_at.ensures.back_len, c.pieces.invariant.inside, c.in-Some.ensures.shorter);
}

pub returns-in_default-clause-exact : goal.returns-in_default-clause-exact
returns-in_default-clause-exact c =
    ends_behind c.pieces.closed.now c.pieces.inside.now c.split_at.result.1.now _
    c.piece_len-len.result c.piece_len-len.ensures.len (omega arith) c.piece_len-len.ensures.within
    (search rules) (sym c.in_default.ensures.exact) c.pieces.invariant.told
