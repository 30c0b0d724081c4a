-- What is kept of a standing answers as the full one does.
use Rattle.std.proofs.Common.{arith, ◌≡◌, ℕ, ◌+◌, ◌-◌, Bool, true, false, List, [], ◌∷◌, ◌++◌, Option, Some, None}
use Rattle.std.proofs.Common.{ap, ◌∙◌, sym, refl, subst, append-nil, append_assoc}
use Rattle.std.specs.Prelude.{◌&&◌, ◌||◌, not, nat_lt, if◌then◌else◌}
use Rattle.std.specs.List.{filter, fold, list_all, list_any}
use Rattle.std.proofs.lemmas.Bool.{and_from, and_parts, or_right, lt-ltb}
use Rattle.std.proofs.lemmas.List.Sums.{fold-append}
use Rattle.std.proofs.lemmas.List.Folds.{list_all-append, list_any-append}
use Rattle.dk_types.specs.declared.reply.Reply.{Reply}
use Rattle.dk_si.specs.declared.history.Entry.{Entry}
use Rattle.dk_si.specs.declared.history.Entry.TheVariants as history
use Rattle.dk_si.specs.declared.standing.Flight.{Flight}
use Rattle.dk_si.specs.declared.standing.Standing.{Standing}
use Rattle.dk_si.specs.declared.standing.Written.{Written}
use Rattle.dk_si.specs.Exchanges.{is_checkpoint}
use Rattle.dk_si.specs.Machine.{asks_for}
use Rattle.dk_si.specs.ReplyTests.{iteration_of}
use Rattle.dk_si.specs.Standing.{FullStanding, first_standing, is_of}
use Rattle.dk_si.specs.Standing.{may_end_all, may_pay}
use Rattle.dk_si.specs.Standing.{standing_after, standing_and, stands_on, written_at, written_by}
use Rattle.dk_si.specs.ShortStanding.{fallen, first_short, greatest_past, is_beside}
use Rattle.dk_si.specs.ShortStanding.{is_last, reply_behind, short_and}
use Rattle.dk_si.specs.ShortStanding.{short_needs_after, short_stands_on}
use Rattle.dk_si.specs.ShortStanding.{DecidesBehind, StepsOn, short_after, stand_well}
use Rattle.dk_si.specs.ShortStanding.{ShortAndOne, ShortAnswersAlike, ShortStandsWell}
use Rattle.dk_si.proofs.FrontLemmas.{all_by}
use Rattle.dk_si.proofs.StandingStateLemmas.{all_if, and_on}
use Rattle.dk_si.proofs.StandingLemmas.{stands_well, standing_and_one}
use Rattle.dk_si.proofs.TestLemmas.{all_flat, all_same, every}
use Rattle.dk_si.proofs.AmongLemmas.{all_given, filter_given}
use Rattle.dk_si.proofs.ShortIterationLemmas.{Keeps, Rest, greatest_short, is_written_before, left, may_end_short}
use Rattle.dk_si.proofs.ShortIterationLemmas.{news, short_of, spent_short, written_short}
use Rattle.dk_si.proofs.ShortNeedLemmas.{before_next, later_is, needs_early_short, needs_short, payable_monotone}

-- one more reply
and_same : (a b p q : Bool) → a ≡ b → (a ≡ true → p ≡ q) → (a && p) ≡ (b && q)
and_same true b p q is by = by refl ∙ ap (λ x. x && q) is
and_same false b p q is by = ap (λ x. x && q) is

pub reply_stands_short : (opened session : ℕ) (reply : Reply) (full : FullStanding) (rest : Rest) → Keeps full rest
    → stands_on opened full (history.Reply session reply) ≡ short_stands_on opened (short_of full rest)
    (history.Reply session reply)
reply_stands_short opened session reply full rest keeps =
    and_same (may_end_all opened full session reply) _ _ _ (may_end_short opened session reply full rest keeps)
    (λ may. needs_short opened session reply full rest keeps may
    (λ need. list_any (may_pay need) (left session full.flights)) (payable_monotone (left session full.flights)))

written_next : (place : ℕ) (all : List Written) → list_all (is_written_before place) all ≡ true
    → list_all (is_written_before (place + 1)) all ≡ true
written_next place all early =
    all_by (is_written_before place) (is_written_before (place + 1)) all
    (λ written h. later_is written.place place (place + 1) (omega arith) h) early

news_next : (full : FullStanding) (session : ℕ) (reply : Reply)
    → list_all (is_written_before (full.place + 1)) (news full session reply) ≡ true
news_next full session reply =
    all_flat (is_written_before (full.place + 1)) (written_by session full.place reply) full.flights
    ∙ (all_same _ (λ flight. true) full.flights
    (λ flight. all_if (is_written_before (full.place + 1)) _ (is_of session flight)
    ∙ or_right (not (is_of session flight)) _ (at_next flight (if flight.checkpoint then iteration_of reply else None)))
    ∙ every full.flights)
  where
    at_next : (flight : Flight) (iteration : Option ℕ)
        → list_all (is_written_before (full.place + 1)) (written_at full.place flight iteration) ≡ true
    at_next flight None = refl
    at_next flight (Some i) =
        and_from (nat_lt full.place (full.place + 1)) true (lt-ltb full.place (full.place + 1) (omega arith)) refl

-- what is kept behind an entry is what the full one keeps
pub record Shortens (full : FullStanding) (short : Standing) : Type 0 where
  pub rest : Rest
  pub is : short ≡ short_of full rest
  pub keeps : Keeps full rest

reply_shortens : (opened session : ℕ) (reply : Reply) (full : FullStanding) (rest : Rest) → Keeps full rest
    → may_end_all opened full session reply ≡ true
    → Shortens (standing_and opened full (history.Reply session reply))
    (reply_behind opened (short_of full rest) session reply)
reply_shortens opened session reply full rest keeps may =
    let now = standing_and opened full (history.Reply session reply) in
    let kept = filter (is_beside full.flights) full.written ++ news full session reply in
    let later : Rest = record {
      greatest = greatest_past (left session full.flights) rest.greatest kept;
      spent = rest.spent || list_any is_last kept;
      needs = short_needs_after opened (short_of full rest) session reply;
    } in record {
      rest = later;
      is = ap (λ list. record (short_of now later) { written = list }) (written_short session reply full);
      keeps = record {
        early = list_all-append (is_written_before (full.place + 1)) full.written (news full session reply)
            ∙ and_from _ _ (written_next full.place full.written keeps.early) (news_next full session reply);
        greatest = greatest_short session reply full rest keeps;
        spent = spent_short session reply full rest keeps;
        needs_early = needs_early_short opened session reply full rest keeps may;
        needs = needs_short opened session reply full rest keeps may;
      };
    }

-- one more call
beside_call : (flights : List Flight) (call : Flight) (written : Written) → nat_lt written.place call.place ≡ true
    → is_beside (flights ++ call ∷ []) written ≡ is_beside flights written
beside_call flights call written before =
    list_any-append (λ flight. flight.checkpoint && not (nat_lt written.place flight.place)) flights (call ∷ [])
    ∙ (ap (λ b. is_beside flights written || ((call.checkpoint && not b) || false)) before
    ∙ none (is_beside flights written) call.checkpoint)
  where
    none : (beside checkpoint : Bool) → (beside || ((checkpoint && false) || false)) ≡ beside
    none true checkpoint = refl
    none false true = refl
    none false false = refl

call_shortens : (full : FullStanding) (rest : Rest) → Keeps full rest → (session : ℕ) (checkpoint : Bool)
    → Shortens
    (record full { place = full.place + 1; flights = full.flights ++ record { session = session; place = full.place; checkpoint = checkpoint } ∷ [] })
    (record (short_of full rest) { place = full.place + 1; flights = full.flights ++ record { session = session; place = full.place; checkpoint = checkpoint } ∷ [] })
call_shortens full rest keeps session checkpoint =
    let call : Flight = record { session = session; place = full.place; checkpoint = checkpoint } in
    let now : FullStanding = record full { place = full.place + 1; flights = full.flights ++ call ∷ [] } in record {
      rest = rest;
      is = ap (λ list. record (short_of now rest) { written = list })
          (filter_given (is_written_before full.place) (is_beside full.flights) (is_beside now.flights) full.written
          (λ written before. sym (beside_call full.flights call written before)) keeps.early);
      keeps = record {
        early = written_next full.place full.written keeps.early;
        greatest = λ i. keeps.greatest i
            ∙ ap (λ b. nat_lt 0 i && b)
            (all_given (is_written_before full.place) _ _ full.written
            (λ written before. ap (λ b. b || nat_lt written.iteration i)
            (sym (beside_call full.flights call written before))) keeps.early);
        spent = keeps.spent;
        needs_early = before_next full.place rest.needs keeps.needs_early;
        needs = keeps.needs;
      };
    }

begun_shortens : (full : FullStanding) (rest : Rest) → Keeps full rest
    → Shortens (record full { place = full.place + 1 }) (record (short_of full rest) { place = full.place + 1 })
begun_shortens full rest keeps = record {
  rest = rest;
  is = refl;
  keeps = record {
    early = written_next full.place full.written keeps.early;
    greatest = keeps.greatest;
    spent = keeps.spent;
    needs_early = before_next full.place rest.needs keeps.needs_early;
    needs = keeps.needs;
  };
}

-- what is kept tells as much as the full standing, and whether all stood well
abbrev pub Tells : Bool → FullStanding → Standing → Type 0
Tells true full short = Shortens full short
Tells false full short = short ≡ fallen full.place

-- it decides alike, and goes on so
pub record GoesOn (opened : ℕ) (well : Bool) (full : FullStanding) (short : Standing) (entry : Entry) : Type 0 where
  pub stands : (well && stands_on opened full entry) ≡ short_stands_on opened short entry
  pub tells : Tells (well && stands_on opened full entry) (standing_and opened full entry)
      (short_and opened short entry)

reply_goes : (opened session : ℕ) (reply : Reply) (full : FullStanding) (rest : Rest) → Keeps full rest
    → GoesOn opened true full (short_of full rest) (history.Reply session reply)
reply_goes opened session reply full rest keeps =
    let same = reply_stands_short opened session reply full rest keeps in record {
      stands = same;
      tells = by_stands (stands_on opened full (history.Reply session reply)) refl (sym same);
    }
  where
    by_stands : (stands : Bool) → stands_on opened full (history.Reply session reply) ≡ stands
        → short_stands_on opened (short_of full rest) (history.Reply session reply) ≡ stands_on opened full
        (history.Reply session reply)
        → Tells stands (standing_and opened full (history.Reply session reply))
        (short_and opened (short_of full rest) (history.Reply session reply))
    by_stands true is same =
        let behind = reply_shortens opened session reply full rest keeps
        (and_parts (may_end_all opened full session reply) _ is).0 in record {
          rest = behind.rest;
          is = ap (λ (b : Bool). if b then reply_behind opened (short_of full rest) session reply else fallen
              (full.place + 1)) (same ∙ is) ∙ behind.is;
          keeps = behind.keeps;
        }
    by_stands false is same =
        ap (λ (b : Bool). if b then reply_behind opened (short_of full rest) session reply else fallen
        (full.place + 1)) (same ∙ is)

well_goes : (opened : ℕ) (full : FullStanding) (rest : Rest) → Keeps full rest → (entry : Entry)
    → GoesOn opened true full (short_of full rest) entry
well_goes opened full rest keeps (history.Call session asked) =
    record { stands = refl; tells = call_shortens full rest keeps session (asks_for is_checkpoint (Some asked)) }
well_goes opened full rest keeps (history.Begun session number start) =
    record { stands = refl; tells = begun_shortens full rest keeps }
well_goes opened full rest keeps (history.Reply session reply) = reply_goes opened session reply full rest keeps

fallen_goes : (opened : ℕ) (full : FullStanding) (entry : Entry) → GoesOn opened false full (fallen full.place) entry
fallen_goes opened full (history.Call session asked) = record { stands = refl; tells = refl }
fallen_goes opened full (history.Begun session number start) = record { stands = refl; tells = refl }
fallen_goes opened full (history.Reply session reply) = record { stands = refl; tells = refl }

pub goes_on : (opened : ℕ) (well : Bool) (full : FullStanding) (short : Standing) → Tells well full short
    → (entry : Entry)
    → GoesOn opened well full short entry
goes_on opened true full short tells entry =
    subst (λ now. GoesOn opened true full now entry) (sym tells.is) (well_goes opened full tells.rest tells.keeps entry)
goes_on opened false full short tells entry =
    subst (λ now. GoesOn opened false full now entry) (sym tells) (fallen_goes opened full entry)

-- before the first entry
pub first_tells : Tells true first_standing first_short
first_tells = record {
  rest = record { greatest = 0; spent = false; needs = [] };
  is = refl;
  keeps = record {
    early = refl;
    greatest = λ i. and_on
        (nat_lt 0 i);
    spent = refl;
    needs_early = refl;
    needs = λ test mono. refl;
  };
}

-- over a list of entries
tells_one : (opened : ℕ) (entries : List Entry) (short : Standing)
    → Tells (stand_well opened entries) (standing_after opened entries) short
    → (entry : Entry) → Tells (stand_well opened (entries ++ entry ∷ []))
    (standing_after opened (entries ++ entry ∷ [])) (short_and opened short entry)
tells_one opened entries short tells entry =
    let on = goes_on opened (stand_well opened entries) (standing_after opened entries) short tells entry in
    subst (λ well. Tells well (standing_after opened (entries ++ entry ∷ [])) (short_and opened short entry))
    (sym (stands_well opened entries entry))
    (subst (λ full. Tells (stand_well opened entries && stands_on opened (standing_after opened entries) entry) full
    (short_and opened short entry))
    (sym (standing_and_one opened entries entry)) on.tells)

tells_from : (opened : ℕ) (front : List Entry) (short : Standing)
    → Tells (stand_well opened front) (standing_after opened front) short
    → (entries : List Entry) → Tells (stand_well opened (front ++ entries))
    (standing_after opened (front ++ entries)) (fold (short_and opened) short entries)
tells_from opened front short tells [] =
    subst (λ list. Tells (stand_well opened list) (standing_after opened list) short) (sym (append-nil front)) tells
tells_from opened front short tells (entry ∷ entries) =
    subst (λ list. Tells (stand_well opened list) (standing_after opened list)
    (fold (short_and opened) (short_and opened short entry) entries))
    (append_assoc front (entry ∷ []) entries)
    (tells_from opened (front ++ entry ∷ []) (short_and opened short entry)
    (tells_one opened front short tells entry) entries)

pub tells_all : (opened : ℕ) (entries : List Entry)
    → Tells (stand_well opened entries) (standing_after opened entries) (short_after opened entries)
tells_all opened entries = tells_from opened [] first_short first_tells entries

pub short_stands_well : ShortStandsWell
short_stands_well opened entries entry =
    stands_well opened entries entry
    ∙ (goes_on opened (stand_well opened entries) (standing_after opened entries) (short_after opened entries)
    (tells_all opened entries) entry).stands

pub short_answers_alike : ShortAnswersAlike
short_answers_alike opened entries entry well =
    sym (ap (λ b. b && stands_on opened (standing_after opened entries) entry) (sym well)
    ∙ (goes_on opened (stand_well opened entries) (standing_after opened entries) (short_after opened entries)
    (tells_all opened entries) entry).stands)

pub short_and_one : ShortAndOne
short_and_one opened entries entry = fold-append (short_and opened) first_short entries (entry ∷ [])

-- behind one more entry, by what is carried
pub decides_behind : (opened : ℕ) (entry : Entry) (short : Standing) (stands : Bool)
    → stands ≡ short_stands_on opened short entry
    → DecidesBehind opened entry short stands
decides_behind opened entry short stands is entries behind =
    is ∙ (ap (λ now. short_stands_on opened now entry) behind ∙ sym (short_stands_well opened entries entry))

pub steps_on : (opened : ℕ) (entry : Entry) (short after : Standing) → after ≡ short_and opened short entry
    → StepsOn opened entry short after
steps_on opened entry short after is entries behind =
    is ∙ (ap (λ now. short_and opened now entry) behind ∙ sym (short_and_one opened entries entry))
