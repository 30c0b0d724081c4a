-- The bytes that were passed are no longer held.
use Rattle.std.proofs.Common.{◌+◌, ◌-◌, ◌≤◌, length, drop, sym, ◌∙◌, ap, arith}
use Rattle.std.proofs.lemmas.List.{length-take}
use Rattle.dk_io.proofs.WindowLemmas.{window_moves}
use Rattle.dk_io.proofs.pieces.Piece.pass.Goals as goal

-- the rest of what is held begins further on in the buffer
pub returns-clause-rest : goal.returns-clause-rest
returns-clause-rest c =
    let p = c.self.inside in
    let size = ap length (sym c.self.view_is) ∙ length-take (p.end - p.start) (drop p.start p.bytes.items) in
    let within : p.start + c.args.count ≤ p.end = omega (arith, c.requires, size, c.self.invariant) in
    window_moves p.bytes.items p.start p.end c.args.count within ∙ ap (drop c.args.count) c.self.view_is
