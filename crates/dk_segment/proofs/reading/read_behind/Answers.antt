use Rattle.std.proofs.Common.{◌<◌, ◌^◌, arith, rules}
use Rattle.std.proofs.Math.Facts.{Fits-of_lt}
use Rattle.dk_segment.proofs.reading.read_behind.Goals as goal

pub overflow_add-result : goal.overflow_add-result
overflow_add-result c =
    let within = c.in-Err-Malformed.ensures.within c.in-Err-Malformed.at c.in-Err-Malformed.field-0-is in
    let small : c.at-end.result < 2 ^ 64 = search rules in
    Fits-of_lt (omega (arith, within, c.in_ok-bytes.ensures.found.at, c.at-start.ensures, c.at-end.ensures, small))
