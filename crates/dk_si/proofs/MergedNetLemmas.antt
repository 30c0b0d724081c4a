-- A net stays a net where a statement's changes join it.
use Rattle.std.proofs.Common.{◌≡◌, ℕ, Bool, true, false, List, [], ◌∷◌, ap, ◌∙◌, sym, refl, subst}
use Rattle.std.specs.Prelude.{not, ◌==◌, ◌&&◌, if◌then◌else◌}
use Rattle.std.specs.List.{filter}
use Rattle.dk_types.specs.declared.net.TableNet.{TableNet}
use Rattle.dk_types.specs.Nets.{changes, all_above, ascends, IsNet}
use Rattle.dk_si.specs.Nets.{rises}
use Rattle.dk_si.specs.Nets.{put_by, without, merged_net, merged_part, part_of}
use Rattle.dk_si.proofs.RisingLemmas.{all_kept, all_put, rises_kept, rises_put}

ascends_rises : (parts : List TableNet) → ascends parts ≡ rises (λ part. part.table) parts
ascends_rises [] = refl
ascends_rises (part ∷ parts) = ap (λ rest. all_above part.table parts && rest) (ascends_rises parts)

pub ascends_kept : (keep : TableNet → Bool) → (parts : List TableNet) → ascends parts ≡ true
    → ascends (filter keep parts) ≡ true
ascends_kept keep parts up =
    ascends_rises (filter keep parts) ∙ rises_kept (λ part. part.table) keep parts (sym (ascends_rises parts) ∙ up)

pub ascends_put : (part : TableNet) → (parts : List TableNet) → ascends parts ≡ true
    → ascends (put_by (λ item. item.table) part parts) ≡ true
ascends_put part parts up =
    ascends_rises (put_by (λ item. item.table) part parts) ∙ rises_put (λ item. item.table) part parts
    (sym (ascends_rises parts) ∙ up)

with_net : (part : TableNet) → (net : List TableNet) → (full : Bool) → changes part ≡ full → IsNet net
    → IsNet (if full then put_by (λ part. part.table) part net else net)
with_net part net true full is = (ascends_put part net is.0, all_put (λ item. item.table) changes part net full is.1)
with_net part net false full is = is

-- a net with a statement's changes is a net
pub further_net : (count : ℕ) → (net : List TableNet) → (change : TableNet) → IsNet net
    → IsNet (merged_net count net change)
further_net count net change is =
    let part = merged_part count (part_of net change.table) change in
    let keep : TableNet → Bool = λ other. not (other.table == change.table) in
    with_net part (without net change.table) (changes part) refl
    (ascends_kept keep net is.0, all_kept keep changes net is.1)

pub net_is : (parts : List TableNet) → (count : ℕ) → (net : List TableNet) → (change : TableNet) → parts
    ≡ merged_net count net change
    → IsNet net → IsNet parts
net_is parts count net change same is = subst IsNet (sym same) (further_net count net change is)
