-- What is kept of stops and iterations behind all entries, and that it decides as what stands of them does.
use Rattle.std.proofs.Common.{◌≡◌, ℕ, ◌+◌, Bool, true, false, List, [], ◌∷◌, ◌++◌, None, Some, length, ap, ◌∙◌, refl, arith}
use Rattle.std.specs.Prelude.{if◌then◌else◌}
use Rattle.std.specs.List.{fold}
use Rattle.dk_si.specs.declared.history.Entry.{Entry}
use Rattle.dk_si.specs.declared.history.Entry.TheVariants as entry
use Rattle.dk_si.specs.declared.standing.Standing.{Standing}
use Rattle.dk_si.specs.ShortStanding.{StepsOn, first_short, short_and, short_behind, short_stands_on, fallen}
use Rattle.dk_si.specs.Standing.{standing_after, stands_on}
use Rattle.dk_si.proofs.ShortLemmas.{short_answers_alike, short_stands_well}
use Rattle.dk_core.specs.declared.event.Event.TheVariants as event
use Rattle.dk_core.specs.Core.{Core}
use Rattle.dk_core.specs.Entries.{entry_of, stands_with}
use Rattle.dk_core.specs.Findings.{is_full}
use Rattle.dk_slow_rules.specs.Scenes.{StandWell}

place_behind : (opened : ℕ) (short : Standing) (entry : Entry) → (short_behind opened short entry).place ≡ short.place + 1
place_behind opened short (entry.Call session asked) = refl
place_behind opened short (entry.Begun session number start) = refl
place_behind opened short (entry.Reply session reply) = refl

place_if : (well : Bool) (behind : Standing) (place : ℕ) → behind.place ≡ place
    → (if well then behind else fallen place).place ≡ place
place_if true behind place is = is
place_if false behind place is = refl

pub place_after : (opened : ℕ) (short : Standing) (entry : Entry) → (short_and opened short entry).place ≡ short.place + 1
place_after opened short entry =
    place_if (short_stands_on opened short entry) (short_behind opened short entry) (short.place + 1)
    (place_behind opened short entry)

place_from : (opened : ℕ) (short : Standing) (entries : List Entry)
    → (fold (short_and opened) short entries).place ≡ short.place + length entries
place_from opened short [] = omega arith
place_from opened short (entry ∷ entries) =
    place_from opened (short_and opened short entry) entries
    ∙ (ap (λ n. n + length entries) (place_after opened short entry)
    ∙ omega arith)

-- its place is that of the next entry
pub place_is : (iteration : ℕ) (entries : List Entry) (standing : Standing) → StandWell iteration entries standing
    → standing.place ≡ length entries
place_is iteration entries standing stand =
    ap (λ (short : Standing). short.place) stand.behind ∙ (place_from iteration first_short entries ∙ omega arith)

pub stands_alike : (iteration : ℕ) (entries : List Entry) (entry : Entry) (standing : Standing) (stands : Bool)
    → StandWell iteration entries standing → stands ≡ short_stands_on iteration standing entry
    → stands ≡ stands_on iteration (standing_after iteration entries) entry
stands_alike iteration entries entry standing stands stand is =
    is ∙ (ap (λ short. short_stands_on iteration short entry) stand.behind
    ∙ short_answers_alike iteration entries entry stand.well)

pub stand_well_behind : (iteration : ℕ) (entries : List Entry) (entry : Entry) (standing behind : Standing)
    → StandWell iteration entries standing
    → stands_on iteration (standing_after iteration entries) entry ≡ true
    → StepsOn iteration entry standing behind
    → StandWell iteration (entries ++ entry ∷ []) behind
stand_well_behind iteration entries entry standing behind stand stands steps = record {
  behind = steps entries stand.behind;
  well = short_stands_well iteration entries entry
      ∙ (short_answers_alike iteration entries entry stand.well
      ∙ stands);
}

begun_stands : (core : Core) (begun : Entry) (full : Bool) → (true ≡ stands_with core (Some begun))
    → true ≡ stands_with core (if full then None else Some begun)
begun_stands core begun true is = refl
begun_stands core begun false is = is

pub begin_stands : (core : Core) (number : ℕ) → true ≡ stands_with core (entry_of core (event.Begin number))
begin_stands core number = begun_stands core _ (is_full core) refl
