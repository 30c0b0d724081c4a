-- The rows that a transaction may change: no commit above its start has them, and no other session has_pending_write them.
use Rattle.std.proofs.Common.{◌≡◌, ⊎_elim, ℕ, ◌<◌, ◌≤◌, true, List, [], ◌∷◌, ◌++◌, length, sym, subst, arith, slice_get, slice_set, Some, length-append}
use Rattle.std.proofs.lemmas.Option.{slice_get_within}
use Rattle.dk_types.specs.declared.net.Commit.{Commit}
use Rattle.dk_si.specs.declared.machine.Session.{Session}
use Rattle.dk_si.specs.declared.machine.Transaction.TheVariants as state
use Rattle.dk_si.specs.HeldRows.{commit_has, has_pending_write}
use Rattle.dk_si.proofs.PlaceLemmas.{last_place, set_place}

-- the start of a session's transaction
abbrev pub start_in : Session → ℕ
start_in session = elim session.transaction [ state.Outside ↦ 0 | state.Aborted ↦ 0 | state.Open active ↦ active.start ]

-- for the session at that place, whose transaction has that start
pub record Free (commits : List Commit) (sessions : List Session) (place start table row : ℕ) : Type 0 where
  pub clear : (k : ℕ) (commit : Commit) → start ≤ k → slice_get commits k ≡ Some commit → commit_has table row commit ≡ true → ⊥
  pub alone : (k : ℕ) (other : Session) → (k ≡ place → ⊥) → slice_get sessions k ≡ Some other → has_pending_write table row other ≡ true → ⊥

-- each row that a transaction has_pending_write is free for it, and of two commits that overlap no row is in both
pub record Fair (commits : List Commit) (sessions : List Session) (starts : List ℕ) : Type 0 where
  pub even : length starts ≡ length commits
  pub seen : (place : ℕ) (session : Session) → slice_get sessions place ≡ Some session → start_in session ≤ length commits
  pub earlier : (k start : ℕ) → slice_get starts k ≡ Some start → start ≤ k
  pub free : (place : ℕ) (session : Session) (table row : ℕ) → slice_get sessions place ≡ Some session → has_pending_write table row session ≡ true
      → Free commits sessions place (start_in session) table row
  pub wins : (earlier later start : ℕ) (first second : Commit) (table row : ℕ)
      → slice_get commits earlier ≡ Some first → slice_get commits later ≡ Some second → slice_get starts later ≡ Some start
      → earlier < later → start ≤ earlier → commit_has table row first ≡ true → commit_has table row second ≡ true → ⊥

-- a row stays free for a session that takes the place of its former state
free_here : (commits : List Commit) (sessions : List Session) (place start table row : ℕ) (new : Session)
    → Free commits sessions place start table row → Free commits (slice_set sessions place new) place start table row
free_here commits sessions place start table row new free = record {
  clear = free.clear;
  alone = λ k other apart at has. ⊎_elim
      (λ h. apart h.0)
      (λ h. free.alone k other apart h.1 has)
      (set_place sessions place new k other at);
}

free_at : (commits : List Commit) (sessions : List Session) (place k table row : ℕ) (new session : Session) → k ≡ place → new ≡ session
    → Free commits sessions place (start_in new) table row → Free commits (slice_set sessions place new) k (start_in session) table row
free_at commits sessions place k table row new session here is free =
    subst (λ at. Free commits (slice_set sessions place new) at (start_in session) table row) (sym here)
    (subst (λ now. Free commits (slice_set sessions place new) place (start_in now) table row) is
    (free_here commits sessions place (start_in new) table row new free))

-- a row stays free for the other sessions
free_there : (commits : List Commit) (sessions : List Session) (place k start table row : ℕ) (new session : Session)
    → (k ≡ place → ⊥) → slice_get sessions k ≡ Some session → has_pending_write table row session ≡ true
    → (has_pending_write table row new ≡ true → Free commits sessions place (start_in new) table row)
    → Free commits sessions k start table row → Free commits (slice_set sessions place new) k start table row
free_there commits sessions place k start table row new session apart at has own free = record {
  clear = free.clear;
  alone = λ m other other_place there keeps_it. ⊎_elim
      (λ h. (own (subst (λ now. has_pending_write table row now ≡ true) (sym h.1) keeps_it)).alone k session apart at has)
      (λ h. free.alone m other other_place h.1 keeps_it)
      (set_place sessions place new m other there);
}

seen_at : (commits : List Commit) (sessions : List Session) (place k : ℕ) (new session : Session) → start_in new ≤ length commits
    → (slice_get sessions k ≡ Some session → start_in session ≤ length commits)
    → slice_get (slice_set sessions place new) k ≡ Some session → start_in session ≤ length commits
seen_at commits sessions place k new session within old at =
    ⊎_elim (λ h. subst (λ now. start_in now ≤ length commits) h.1 within) (λ h. old h.1) (set_place sessions place new k session at)

earlier_behind : (commits : List Commit) (starts : List ℕ) (own_start : ℕ) → length starts ≡ length commits → own_start ≤ length commits
    → ((k start : ℕ) → slice_get starts k ≡ Some start → start ≤ k)
    → (k start : ℕ) → slice_get (starts ++ own_start ∷ []) k ≡ Some start → start ≤ k
earlier_behind commits starts own_start even within old k start at =
    ⊎_elim (old k start) (λ h. let end = h.0 in let is = h.1 in omega arith) (last_place starts own_start k start at)

-- a session takes the place of its former state
pub replaced : (commits : List Commit) (sessions : List Session) (starts : List ℕ) (place : ℕ) (new : Session) → Fair commits sessions starts
    → start_in new ≤ length commits
    → ((table row : ℕ) → has_pending_write table row new ≡ true → Free commits sessions place (start_in new) table row)
    → Fair commits (slice_set sessions place new) starts
replaced commits sessions starts place new fair within own = record {
  even = fair.even;
  seen = λ k session at. seen_at commits sessions place k new session within (fair.seen k session) at;
  earlier = fair.earlier;
  free = λ k session table row at has. ⊎_elim
      (λ h. free_at commits sessions place k table row new session h.0 h.1 (own table row (subst (λ now. has_pending_write table row now ≡ true) (sym h.1) has)))
      (λ h. free_there commits sessions place k (start_in session) table row new session h.0 h.1 has (own table row) (fair.free k session table row h.1 has))
      (set_place sessions place new k session at);
  wins = fair.wins;
}

-- a row of another session stays free behind a commit of rows that nobody else has_pending_write
free_behind : (commits : List Commit) (sessions : List Session) (place k start own_start table row : ℕ) (new session : Session) (commit : Commit)
    → (k ≡ place → ⊥) → slice_get sessions k ≡ Some session → has_pending_write table row session ≡ true
    → (has_pending_write table row new ≡ true → ⊥)
    → (commit_has table row commit ≡ true → Free commits sessions place own_start table row)
    → Free commits sessions k start table row → Free (commits ++ commit ∷ []) (slice_set sessions place new) k start table row
free_behind commits sessions place k start own_start table row new session commit apart at has none own free = record {
  clear = λ n other above there changed. ⊎_elim
      (λ old. free.clear n other above old changed)
      (λ h. (own (subst (λ now. commit_has table row now ≡ true) (sym h.1) changed)).alone k session apart at has)
      (last_place commits commit n other there);
  alone = λ m other other_place there keeps_it. ⊎_elim
      (λ h. none (subst (λ now. has_pending_write table row now ≡ true) (sym h.1) keeps_it))
      (λ h. free.alone m other other_place h.1 keeps_it)
      (set_place sessions place new m other there);
}

-- the law for a list with one commit more
wins_behind : (commits : List Commit) (sessions : List Session) (starts : List ℕ) (place own_start : ℕ) (commit : Commit)
    → Fair commits sessions starts
    → ((table row : ℕ) → commit_has table row commit ≡ true → Free commits sessions place own_start table row)
    → (earlier later start : ℕ) (first second : Commit) (table row : ℕ)
    → slice_get (commits ++ commit ∷ []) earlier ≡ Some first → slice_get (commits ++ commit ∷ []) later ≡ Some second
    → slice_get (starts ++ own_start ∷ []) later ≡ Some start
    → earlier < later → start ≤ earlier → commit_has table row first ≡ true → commit_has table row second ≡ true → ⊥
wins_behind commits sessions starts place own_start commit fair own earlier later start first second table row at_first at_second at_start before unseen one other =
    let even = fair.even in
    ⊎_elim
    (λ second_old. let within = slice_get_within commits later second second_old in
    ⊎_elim
    (λ first_old. ⊎_elim
    (λ start_old. fair.wins earlier later start first second table row first_old second_old start_old before unseen one other)
    (λ start_new. let end = start_new.0 in absurd (omega arith))
    (last_place starts own_start later start at_start))
    (λ first_new. let end = first_new.0 in absurd (omega arith))
    (last_place commits commit earlier first at_first))
    (λ second_new. let end = second_new.0 in
    ⊎_elim
    (λ start_old. let within = slice_get_within starts later start start_old in absurd (omega arith))
    (λ start_new. ⊎_elim
    (λ first_old. let below : own_start ≤ earlier = subst (λ n. n ≤ earlier) (sym start_new.1) unseen in
    (own table row (subst (λ now. commit_has table row now ≡ true) (sym second_new.1) other)).clear earlier first below first_old one)
    (λ first_new. let last = first_new.0 in absurd (omega arith))
    (last_place commits commit earlier first at_first))
    (last_place starts own_start later start at_start))
    (last_place commits commit later second at_second)

-- a session commits rows that are free for it, and has_pending_write none
pub committed : (commits : List Commit) (sessions : List Session) (starts : List ℕ) (place start : ℕ) (new : Session) (commit : Commit)
    → Fair commits sessions starts → start_in new ≤ length commits → start ≤ length commits
    → ((table row : ℕ) → has_pending_write table row new ≡ true → ⊥)
    → ((table row : ℕ) → commit_has table row commit ≡ true → Free commits sessions place start table row)
    → Fair (commits ++ commit ∷ []) (slice_set sessions place new) (starts ++ start ∷ [])
committed commits sessions starts place start new commit fair now_within within none own = record {
  even = let even = fair.even in omega (arith, length-append starts (start ∷ []), length-append commits (commit ∷ []));
  seen = λ k session at. let seen = seen_at commits sessions place k new session now_within (fair.seen k session) at in
      omega (arith, length-append commits (commit ∷ []));
  earlier = earlier_behind commits starts start fair.even within fair.earlier;
  free = λ k session table row at has. ⊎_elim
      (λ h. absurd (none table row (subst (λ now. has_pending_write table row now ≡ true) (sym h.1) has)))
      (λ h. free_behind commits sessions place k (start_in session) start table row new session commit h.0 h.1 has (none table row)
      (own table row) (fair.free k session table row h.1 has))
      (set_place sessions place new k session at);
  wins = wins_behind commits sessions starts place start commit fair own;
}
