use Rattle.std.proofs.Common.{List, arith, rules}
use Rattle.dk_values.specs.declared.value.Value.{Value}
use Rattle.dk_bytes.proofs.OutcomeLemmas.{gives_found, gives_only}
use Rattle.dk_segment.specs.declared.encoding.Encoding.{Encoding}
use Rattle.dk_segment.specs.Segment.{IsSegment}
use Rattle.dk_segment.proofs.SegmentLemmas.{segment_found, segment_again}
use Rattle.dk_segment.proofs.reading.decode.Goals as goal

pub returns-clause-found : goal.returns-clause-found
returns-clause-found c =
    gives_found (λ v. v.items) (λ (vs : List Value). (encoding : Encoding) × IsSegment c.args.kind encoding vs c.args.bytes.now) c.read.result _ c.read.ensures
    (λ vs e. segment_found c.args.kind c.args.bytes.now vs (λ i. omega (arith, c.type_inv.bytes i)) (search rules) e)

pub returns-clause-only : goal.returns-clause-only
returns-clause-only c = λ encoding vs s. gives_only (λ v. v.items) c.read.result _ vs c.read.ensures (segment_again c.args.kind encoding vs c.args.bytes.now s)
