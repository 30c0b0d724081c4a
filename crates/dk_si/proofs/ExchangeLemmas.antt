-- The calls of a list of entries with their replies, after one more entry.
use Rattle.std.proofs.Common.{arith, ◌≡◌, ℕ, suc, ◌+◌, ◌<◌, ◌≤◌, Bool, true, false, List, [], ◌∷◌, ◌++◌, length, Option, Some, None, ap, ◌∙◌, sym, refl}
use Rattle.std.specs.Prelude.{◌&&◌, ◌==◌, nat_lt, if◌then◌else◌}
use Rattle.std.specs.List.{list_all}
use Rattle.std.proofs.lemmas.Bool.{and_from, lt-ltb}
use Rattle.dk_types.specs.declared.reply.Reply.{Reply}
use Rattle.dk_si.specs.declared.history.Asked.{Asked}
use Rattle.dk_si.specs.declared.history.Entry.{Entry}
use Rattle.dk_si.specs.declared.history.Entry.TheVariants as history
use Rattle.dk_si.specs.declared.exchange.Replied.{Replied}
use Rattle.dk_si.specs.declared.exchange.Exchange.{Exchange}
use Rattle.dk_si.specs.Machine.{asks_for}
use Rattle.dk_si.specs.Exchanges.{reply_from, is_checkpoint, exchanges_from, exchanges, with_reply, exchanges_and}
use Rattle.dk_si.specs.Laws.{ExchangesAndOne}

-- an exchange by its fields
abbrev pub exchange_of : ℕ → ℕ → Bool → Option Replied → Exchange
exchange_of session place checkpoint replied = record { session = session; place = place; checkpoint = checkpoint; replied = replied }

-- the first reply, or that of one more entry
abbrev reply_or : Option Replied → ℕ → ℕ → Entry → Option Replied
reply_or (Some replied) session place entry = Some replied
reply_or None session place entry = reply_from session place (entry ∷ [])

choose : (a b : Option Replied) (replied : Replied) (session place : ℕ) (entry : Entry) (here : Bool) → a ≡ reply_or b session place entry
    → (if here then Some replied else a) ≡ reply_or (if here then Some replied else b) session place entry
choose a b replied session place entry true is = refl
choose a b replied session place entry false is = is

shifted : (place n : ℕ) → place + 1 + n ≡ place + (n + 1)
shifted place n = omega arith

behind : (n : ℕ) → n + 1 ≡ suc n
behind n = omega arith

place_on : (place : ℕ) (first : Entry) (entries : List Entry) → place + 1 + length entries ≡ place + length (first ∷ entries)
place_on place first entries = shifted place (length entries) ∙ ap (λ n. place + n) (behind (length entries))

reply_more : (session place : ℕ) (entries : List Entry) (entry : Entry)
    → reply_from session place (entries ++ entry ∷ []) ≡ reply_or (reply_from session place entries) session (place + length entries) entry
reply_more session place [] entry =
    let same : place ≡ place + 0 = omega arith in
    ap (λ p. reply_from session p (entry ∷ [])) same
reply_more session place (history.Call caller asked ∷ entries) entry =
    reply_more session (place + 1) entries entry
    ∙ ap (λ p. reply_or (reply_from session (place + 1) entries) session p entry) (place_on place (history.Call caller asked) entries)
reply_more session place (history.Begun caller number start ∷ entries) entry =
    reply_more session (place + 1) entries entry
    ∙ ap (λ p. reply_or (reply_from session (place + 1) entries) session p entry) (place_on place (history.Begun caller number start) entries)
reply_more session place (history.Reply caller reply ∷ entries) entry =
    choose (reply_from session (place + 1) (entries ++ entry ∷ [])) (reply_from session (place + 1) entries) (record { place = place; reply = reply })
    session (place + length (history.Reply caller reply ∷ entries)) entry (caller == session)
    (reply_more session (place + 1) entries entry
    ∙ ap (λ p. reply_or (reply_from session (place + 1) entries) session p entry) (place_on place (history.Reply caller reply) entries))

-- one more call, or transaction that begins, answers nobody
no_reply : (first : Option Replied) (session place caller : ℕ) (asked : Asked) → reply_or first session place (history.Call caller asked) ≡ first
no_reply None session place caller asked = refl
no_reply (Some replied) session place caller asked = refl

none_begun : (first : Option Replied) (session place caller number start : ℕ) → reply_or first session place (history.Begun caller number start) ≡ first
none_begun None session place caller number start = refl
none_begun (Some replied) session place caller number start = refl

pub same_if : {T : Type 0} → (x : T) (here : Bool) → (if here then x else x) ≡ x
same_if x true = refl
same_if x false = refl

-- an exchange that has a reply keeps it
pub replied_stays : (session place : ℕ) (reply : Reply) (caller at : ℕ) (checkpoint : Bool) (replied : Replied)
    → with_reply session place reply (exchange_of caller at checkpoint (Some replied)) ≡ exchange_of caller at checkpoint (Some replied)
replied_stays session place reply caller at checkpoint replied = stays_if session place reply caller at checkpoint replied (session == caller)
  where
    stays_if : (session place : ℕ) (reply : Reply) (caller at : ℕ) (checkpoint : Bool) (replied : Replied) (here : Bool)
        → (if here && false then exchange_of caller at checkpoint (Some (record { place = place; reply = reply })) else exchange_of caller at checkpoint (Some replied))
        ≡ exchange_of caller at checkpoint (Some replied)
    stays_if session place reply caller at checkpoint replied true = refl
    stays_if session place reply caller at checkpoint replied false = refl

answered_if : (session place : ℕ) (reply : Reply) (at : ℕ) (checkpoint here : Bool)
    → exchange_of session at checkpoint (if here then Some (record { place = place; reply = reply }) else None)
    ≡ (if here && true then exchange_of session at checkpoint (Some (record { place = place; reply = reply })) else exchange_of session at checkpoint None)
answered_if session place reply at checkpoint true = refl
answered_if session place reply at checkpoint false = refl

answered : (first : Option Replied) (caller place : ℕ) (reply : Reply) (session at : ℕ) (checkpoint : Bool)
    → exchange_of session at checkpoint (reply_or first session place (history.Reply caller reply))
    ≡ with_reply caller place reply (exchange_of session at checkpoint first)
answered None caller place reply session at checkpoint = answered_if session place reply at checkpoint (caller == session)
answered (Some replied) caller place reply session at checkpoint = sym (replied_stays caller place reply session at checkpoint replied)

-- the first of a list of exchanges, by its reply, and the others
joined : (session at : ℕ) (checkpoint : Bool) (a b : Option Replied) (xs ys : List Exchange) → a ≡ b → xs ≡ ys
    → exchange_of session at checkpoint a ∷ xs ≡ exchange_of session at checkpoint b ∷ ys
joined session at checkpoint a b xs ys one other = cc

both : (x y : Exchange) (xs ys : List Exchange) → x ≡ y → xs ≡ ys → x ∷ xs ≡ y ∷ ys
both x y xs ys one other = cc

more_from : (place : ℕ) (entries : List Entry) (entry : Entry)
    → exchanges_from place (entries ++ entry ∷ []) ≡ exchanges_and (exchanges_from place entries) (place + length entries) entry
more_from place [] (history.Call session asked) =
    let same : place ≡ place + 0 = omega arith in
    ap (λ p. exchange_of session p (asks_for is_checkpoint (Some asked)) None ∷ []) same
more_from place [] (history.Begun session number start) = refl
more_from place [] (history.Reply session reply) = refl
more_from place (history.Call session asked ∷ entries) (history.Call caller other) =
    joined session place (asks_for is_checkpoint (Some asked)) _ _ _ _
    (reply_more session (place + 1) entries (history.Call caller other) ∙ no_reply (reply_from session (place + 1) entries) session (place + 1 + length entries) caller other)
    (more_from (place + 1) entries (history.Call caller other)
    ∙ ap (λ p. exchanges_and (exchanges_from (place + 1) entries) p (history.Call caller other)) (place_on place (history.Call session asked) entries))
more_from place (history.Call session asked ∷ entries) (history.Begun caller number start) =
    joined session place (asks_for is_checkpoint (Some asked)) _ _ _ _
    (reply_more session (place + 1) entries (history.Begun caller number start) ∙ none_begun (reply_from session (place + 1) entries) session (place + 1 + length entries) caller number start)
    (more_from (place + 1) entries (history.Begun caller number start))
more_from place (history.Call session asked ∷ entries) (history.Reply caller reply) =
    both _ _ _ _
    (ap (exchange_of session place (asks_for is_checkpoint (Some asked)))
    (reply_more session (place + 1) entries (history.Reply caller reply)
    ∙ ap (λ p. reply_or (reply_from session (place + 1) entries) session p (history.Reply caller reply)) (place_on place (history.Call session asked) entries))
    ∙ answered (reply_from session (place + 1) entries) caller (place + length (history.Call session asked ∷ entries)) reply session place (asks_for is_checkpoint (Some asked)))
    (more_from (place + 1) entries (history.Reply caller reply)
    ∙ ap (λ p. exchanges_and (exchanges_from (place + 1) entries) p (history.Reply caller reply)) (place_on place (history.Call session asked) entries))
more_from place (history.Begun session number start ∷ entries) entry =
    more_from (place + 1) entries entry
    ∙ ap (λ p. exchanges_and (exchanges_from (place + 1) entries) p entry) (place_on place (history.Begun session number start) entries)
more_from place (history.Reply session reply ∷ entries) entry =
    more_from (place + 1) entries entry
    ∙ ap (λ p. exchanges_and (exchanges_from (place + 1) entries) p entry) (place_on place (history.Reply session reply) entries)

pub exchanges_and_one : ExchangesAndOne
exchanges_and_one entries entry =
    let same : 0 + length entries ≡ length entries = omega arith in
    more_from 0 entries entry ∙ ap (λ p. exchanges_and (exchanges entries) p entry) same

-- a reply stands behind the place from which it is looked for
abbrev Within : ℕ → Option Replied → Type 0
Within most None = Unit {0}
Within most (Some replied) = replied.place < most

chosen_within : (most : ℕ) (replied : Replied) (other : Option Replied) (here : Bool) → replied.place < most → Within most other
    → Within most (if here then Some replied else other)
chosen_within most replied other true first second = first
chosen_within most replied other false first second = second

reply_within : (session place most : ℕ) (entries : List Entry) → place + length entries ≤ most → Within most (reply_from session place entries)
reply_within session place most [] within = tt
reply_within session place most (history.Call caller asked ∷ entries) within =
    reply_within session (place + 1) most entries (omega (arith, within, place_on place (history.Call caller asked) entries))
reply_within session place most (history.Begun caller number start ∷ entries) within =
    reply_within session (place + 1) most entries (omega (arith, within, place_on place (history.Begun caller number start) entries))
reply_within session place most (history.Reply caller reply ∷ entries) within =
    let on = place_on place (history.Reply caller reply) entries in
    chosen_within most (record { place = place; reply = reply }) (reply_from session (place + 1) entries) (caller == session)
    (omega (arith, within, on))
    (reply_within session (place + 1) most entries (omega (arith, within, on)))

-- calls and replies stand before that place
abbrev pub is_before : ℕ → Exchange → Bool
is_before most exchange = nat_lt exchange.place most && elim exchange.replied [ None ↦ true | Some replied ↦ nat_lt replied.place most ]

reply_before : (most : ℕ) (replied : Option Replied) → Within most replied
    → elim replied as (λ x. Bool) [ None ↦ true | Some replied ↦ nat_lt replied.place most ] ≡ true
reply_before most None within = refl
reply_before most (Some replied) within = lt-ltb replied.place most within

before_from : (place most : ℕ) (entries : List Entry) → place + length entries ≤ most → list_all (is_before most) (exchanges_from place entries) ≡ true
before_from place most [] within = refl
before_from place most (history.Call session asked ∷ entries) within =
    let on = place_on place (history.Call session asked) entries in
    let rest : place + 1 + length entries ≤ most = omega (arith, within, on) in
    and_from _ _
    (and_from _ _ (lt-ltb place most (omega (arith, rest))) (reply_before most (reply_from session (place + 1) entries) (reply_within session (place + 1) most entries rest)))
    (before_from (place + 1) most entries rest)
before_from place most (history.Begun session number start ∷ entries) within =
    before_from (place + 1) most entries (omega (arith, within, place_on place (history.Begun session number start) entries))
before_from place most (history.Reply session reply ∷ entries) within =
    before_from (place + 1) most entries (omega (arith, within, place_on place (history.Reply session reply) entries))

-- the calls and replies of a list of entries stand before its end
pub all_before : (entries : List Entry) → list_all (is_before (length entries)) (exchanges entries) ≡ true
all_before entries = before_from 0 (length entries) entries (omega arith)
