-- How large a transaction may be.
use Rattle.std.specs.List.{list_any}
use Rattle.std.specs.Prelude.{Bool, ◌||◌, List, length, Option, Some, None, nat_le, nat_lt, if◌then◌else◌}
use Rattle.dk_types.specs.declared.net.TableNet.{TableNet}
use Rattle.dk_types.specs.declared.reply.Refusal.{Refusal}
use Rattle.dk_types.specs.declared.reply.Refusal.TheVariants as refusal
use Rattle.dk_si.specs.declared.limits.TheConstants.{GROUP_ROWS, MAX_NEW_ROWS, MAX_WEIGHT}
use Rattle.dk_si.specs.Nets.{new_rows}
use Rattle.dk_si.specs.Weight.{cap, weight}

-- until rows are stored in blocks, a transaction has less than a row group of new rows of one table
abbrev pub has_full_group : List TableNet → Bool
has_full_group net = list_any (λ part. nat_le GROUP_ROWS (length part.rows)) net

abbrev pub is_too_large : List TableNet → Bool
is_too_large net = nat_lt MAX_WEIGHT (weight net) || nat_lt MAX_NEW_ROWS (new_rows net)

-- why a transaction may not have a net, if it may not for its size
abbrev pub size_refusal : List TableNet → Option Refusal
size_refusal net =
    if has_full_group net then Some refusal.Unsupported
    else (if is_too_large net then Some (refusal.TooLarge (weight net) (cap (new_rows net))) else None)
