-- Versions on both sides of a session's own seat, and what a walk over commits or rows finds at its end.
use Rattle.std.proofs.Common.{◌≡◌, ℕ, ◌+◌, ◌-◌, ◌≤◌, true, false, List, [], ◌∷◌, ◌++◌, Some, None, take, drop, length, ap, ◌∙◌, sym, refl, arith}
use Rattle.std.specs.Prelude.{Bool, Option, zero, suc, min, ◌||◌, ◌&&◌, ◌==◌, if◌then◌else◌}
use Rattle.std.proofs.Math.ListN.{drop_of_length-le}
use Rattle.std.proofs.lemmas.List.Folds.{list_any-append}
use Rattle.dk_types.specs.declared.net.Commit.{Commit}
use Rattle.dk_si.specs.Answer.{last_change, least_where}
use Rattle.dk_si.specs.HeldRows.{commit_has}
use Rattle.dk_si.specs.Nets.{net_has, part_has}
use Rattle.dk_core.specs.declared.seat.Seat.{Seat}
use Rattle.dk_core.specs.Core.{all_but, unstamped}
use Rattle.dk_core.specs.Findings.{writer_in, writer_among, stamper_in, stamper_among}
use Rattle.dk_slow_seats.specs.Folds.{first_of, last_from, lesser}

pub net_has_both : (seat : Seat) (table row : ℕ)
    → net_has (unstamped seat) table row ≡ (net_has seat.made table row || net_has seat.versions table row)
net_has_both seat table row =
    list_any-append (λ part. part.table == table && part_has part row) seat.made seat.versions

-- ---- the first of two lists of seats

both_of : (found a b c : Option ℕ) → a ≡ first_of b c
    → elim found as (λ x. Option ℕ) [ None ↦ a | Some number ↦ Some number ]
    ≡ first_of (elim found as (λ x. Option ℕ) [ None ↦ b | Some number ↦ Some number ]) c
both_of None a b c is = is
both_of (Some number) a b c is = refl

pub writer_both : (table row : ℕ) (seats others : List Seat)
    → writer_among table row (seats ++ others)
    ≡ first_of (writer_among table row seats) (writer_among table row others)
writer_both table row [] others = refl
writer_both table row (seat ∷ seats) others =
    both_of (writer_in table row seat) _ _ _ (writer_both table row seats others)

pub stamper_both : (n table row : ℕ) (seats others : List Seat)
    → stamper_among n table row (seats ++ others)
    ≡ first_of (stamper_among n table row seats) (stamper_among n table row others)
stamper_both n table row [] others = refl
stamper_both n table row (seat ∷ seats) others =
    both_of (stamper_in n table row seat) _ _ _ (stamper_both n table row seats others)

-- the seats of all sessions but one are those before it and those behind it
pub writer_beside : (table row number n : ℕ) (seats before behind : List Seat) (found other first : Option ℕ)
    → n ≡ number - 1 → before ≡ take n seats → behind ≡ drop number seats
    → found ≡ writer_among table row before → other ≡ writer_among table row behind → first ≡ first_of found other
    → first ≡ writer_among table row (all_but number seats)
writer_beside table row number n seats before behind found other first n_is before_is behind_is found_is other_is is =
    is ∙ (ap (λ x. first_of x other)
    (found_is ∙ ap (writer_among table row) (before_is ∙ ap (λ k. take k seats) n_is))
    ∙ (ap (first_of (writer_among table row (take (number - 1) seats)))
    (other_is ∙ ap (writer_among table row) behind_is)
    ∙ sym (writer_both table row (take (number - 1) seats) (drop number seats))))

pub stamper_beside : (c table row number n : ℕ) (seats before behind : List Seat) (found other first : Option ℕ)
    → n ≡ number - 1 → before ≡ take n seats → behind ≡ drop number seats
    → found ≡ stamper_among c table row before → other ≡ stamper_among c table row behind
    → first ≡ first_of found other
    → first ≡ stamper_among c table row (all_but number seats)
stamper_beside c table row number n seats before behind found other first n_is before_is behind_is found_is other_is is =
    is ∙ (ap (λ x. first_of x other)
    (found_is ∙ ap (stamper_among c table row) (before_is ∙ ap (λ k. take k seats) n_is))
    ∙ (ap (first_of (stamper_among c table row (take (number - 1) seats)))
    (other_is ∙ ap (stamper_among c table row) behind_is)
    ∙ sym (stamper_both c table row (take (number - 1) seats) (drop number seats))))

-- ---- the last commit that changed a row

-- a number behind so many others, or the one before these where there is none
abbrev counted : ℕ → ℕ → ℕ → ℕ
counted before last zero = last
counted before last (suc n) = before + suc n

count_step : (before last n : ℕ) (has : Bool)
    → counted (before + 1) (if has then before + 1 else last) n
    ≡ counted before last (elim n as (λ x. ℕ) [ zero ↦ if has then 1 else 0 | suc k ↦ suc (suc k) ])
count_step before last zero true = refl
count_step before last zero false = refl
count_step before last (suc n) has = omega arith

last_counted : (table row before last : ℕ) (commits : List Commit)
    → last_from table row before last commits ≡ counted before last (last_change table row commits)
last_counted table row before last [] = refl
last_counted table row before last (commit ∷ commits) =
    last_counted table row (before + 1) (if commit_has table row commit then before + 1 else last) commits
    ∙ count_step before last (last_change table row commits) (commit_has table row commit)

counted_all : (n : ℕ) → counted 0 0 n ≡ n
counted_all zero = refl
counted_all (suc n) = omega arith

pub last_all : (table row : ℕ) (commits : List Commit)
    → last_from table row 0 0 commits ≡ last_change table row commits
last_all table row commits = last_counted table row 0 0 commits ∙ counted_all (last_change table row commits)

pub last_end : (table row number last index : ℕ) (commits : List Commit) → length commits ≤ index
    → last_from table row number last (drop index commits) ≡ last_from table row 0 0 commits
    → last ≡ last_change table row commits
last_end table row number last index commits end same =
    sym (ap (last_from table row number last) (drop_of_length-le commits end)) ∙ (same ∙ last_all table row commits)

-- ---- the least row of a walk

lesser_more : (least other : Option ℕ) (id : ℕ)
    → lesser least (Some (elim other as (λ x. ℕ) [ None ↦ id | Some more ↦ min id more ]))
    ≡ lesser (lesser least (Some id)) other
lesser_more None None id = refl
lesser_more None (Some more) id = refl
lesser_more (Some a) None id = refl
lesser_more (Some a) (Some more) id = ap Some (grind arith)

lesser_step : (least other : Option ℕ) (id : ℕ) (is : Bool)
    → lesser least (if is then Some (elim other as (λ x. ℕ) [ None ↦ id | Some more ↦ min id more ]) else other)
    ≡ lesser (if is then lesser least (Some id) else least) other
lesser_step least other id true = lesser_more least other id
lesser_step least other id false = refl

pub least_more : (test : ℕ → Bool) (least : Option ℕ) (id : ℕ) (ids : List ℕ)
    → lesser least (least_where test (id ∷ ids))
    ≡ lesser (if test id then lesser least (Some id) else least) (least_where test ids)
least_more test least id ids = lesser_step least (least_where test ids) id (test id)

pub least_end : (least : Option ℕ) → lesser least None ≡ least
least_end None = refl
least_end (Some id) = refl
