-- Databases fit behind commits that fit, and a net fits behind commits of other rows.
use Rattle.std.proofs.Common.{◌≡◌, ℕ, zero, suc, ◌+◌, ◌<◌, ◌≤◌, Bool, true, List, [], ◌∷◌}
use Rattle.std.proofs.Common.{length, Option, Some, None, ap, ◌∙◌, sym, refl, subst, arith, slice_get}
use Rattle.std.specs.Prelude.{option_map}
use Rattle.std.specs.List.{All, list_all}
use Rattle.std.proofs.lemmas.Bool.{and_from, or_left, or_right, eq-eqb, false_from_ne_true}
use Rattle.std.proofs.lemmas.List.Folds.{list_all-append}
use Rattle.std.proofs.lemmas.List.Elements.{All-nil, All-cons, All-head, All-tail}
use Rattle.dk_types.specs.declared.net.Commit.{Commit}
use Rattle.dk_types.specs.declared.net.Commit.TheVariants as commit
use Rattle.dk_types.specs.declared.net.TableNet.{TableNet}
use Rattle.dk_si.specs.declared.database.Table.{Table}
use Rattle.dk_si.specs.Database.{apply, apply_net, after, rows_after}
use Rattle.dk_laws.specs.FittingNets.{fits_row, fits_table, all_fit, FitsTable, FitsPart, FitsNet, FitsCommit}
use Rattle.dk_si.specs.HeldRows.{commit_has}
use Rattle.dk_si.specs.Nets.{has_id, part_has, part_of, net_has}
use Rattle.dk_si.specs.RowLaws.{has_row}
use Rattle.dk_laws.proofs.ConflictLemmas.{at_front}
use Rattle.dk_laws.proofs.FittingMeaningLemmas.{pass_at}
use Rattle.dk_laws.proofs.FittingNetLemmas.{with_rows, part_of_fits, view_at}
use Rattle.dk_laws.proofs.RowListLemmas.{present_pass, after_pass, after_stays}
use Rattle.dk_si.proofs.WriteSetLemmas.{part_is_in}

-- where the item at each place passes, all do
all_from : {T : Type 0} → (test : T → Bool) (xs : List T) → ((n : ℕ) (x : T) → slice_get xs n ≡ Some x → test x ≡ true)
    → list_all test xs ≡ true
all_from test [] each = refl
all_from test (x ∷ xs) each = and_from _ _ (each 0 x refl) (all_from test xs (λ n y at. each (suc n) y at))

-- a table that is seen through an equation
pub mapped_from : (part : TableNet) (found : Option Table) (seen : Table) → option_map (with_rows part) found
    ≡ Some seen
    → (table : Table) × (found ≡ Some table) × (with_rows part table ≡ seen)
mapped_from part None seen is = cc
mapped_from part (Some table) seen is = (table, refl, cc)

-- a table behind a part that fits it
table_fits : (table : Table) (part : TableNet) → FitsTable table part → fits_table table ≡ true
    → fits_table (with_rows part table) ≡ true
table_fits table part fits all =
    present_pass (fits_row table.schema) (rows_after part table.rows)
    ∙ after_pass (fits_row table.schema) part table.rows fits.updates_fit fits.rows_fit
    (sym (present_pass (fits_row table.schema) table.rows) ∙ all)

-- a database fits behind a net that fits it
pub net_applied : (tables : List Table) (net : List TableNet) → FitsNet tables net → all_fit tables ≡ true
    → all_fit (apply_net net tables) ≡ true
net_applied tables net fits all =
    all_from fits_table (apply_net net tables)
    (λ place seen at.
    let from = mapped_from (part_of net place) (slice_get tables place) seen (sym (view_at net tables place fits.is.0)
    ∙ at) in
    subst (λ table. fits_table table ≡ true) from.2
    (table_fits from.0 (part_of net place) (part_of_fits tables net place from.0 fits.parts from.1)
    (pass_at fits_table tables place from.0 all from.1)))

commit_applied : (tables : List Table) (commit : Commit) → FitsCommit tables commit → all_fit tables ≡ true
    → all_fit (apply commit tables) ≡ true
commit_applied tables (commit.Change net) fits all = net_applied tables net fits.1 all
commit_applied tables (commit.Create name schema) fits all =
    list_all-append fits_table tables (record { name = name; schema = schema; rows = [] } ∷ []) ∙ and_from _ _ all refl

-- a table behind a commit is of the same schema, and a row that the commit doesn't change stays
record TableStays (before now : List Table) (place : ℕ) (commit : Commit) (table : Table) : Type 0 where
  later : Table
  is : slice_get now place ≡ Some later
  schema : later.schema ≡ table.schema
  rows : (row : ℕ) → has_row table.rows row ≡ true → (commit_has place row commit ≡ true → ⊥) → has_row later.rows row
      ≡ true

stays_behind : (tables : List Table) (place : ℕ) (commit : Commit) (table : Table) → FitsCommit tables commit
    → slice_get tables place ≡ Some table → TableStays tables (apply commit tables) place commit table
stays_behind tables place (commit.Create name schema) table fits is = record {
  later = table;
  is = at_front tables (record { name = name; schema = schema; rows = [] } ∷ []) place table is;
  schema = refl;
  rows = λ row has not_changed. has;
}
stays_behind tables place (commit.Change net) table fits is =
    let part = part_of net place in
    record {
      later = with_rows part table;
      is = view_at net tables place fits.1.is.0 ∙ ap (option_map (with_rows part)) is;
      schema = refl;
      rows = λ row has not_changed. after_stays part table.rows row has
          (false_from_ne_true (has_id part.deletes row)
          (λ gone. not_changed (part_is_in net place row (or_right _ _ gone))));
    }

later_fits : (table later : Table) (part : TableNet) → later.schema ≡ table.schema
    → ((row : ℕ) → part_has part row ≡ true → has_row later.rows row ≡ true) → FitsTable table part
    → FitsTable later part
later_fits table later part schema there fits = record {
  updates_ascend = fits.updates_ascend;
  deletes_ascend = fits.deletes_ascend;
  apart = fits.apart;
  there = there;
  updates_fit = subst (λ now. list_all (λ update. fits_row now update.1) part.updates ≡ true)
      (sym schema) fits.updates_fit;
  rows_fit = subst (λ now. list_all (fits_row now) part.rows ≡ true) (sym schema) fits.rows_fit;
}

part_behind : (tables : List Table) (commit : Commit) (part : TableNet) → FitsCommit tables commit
    → ((row : ℕ) → part_has part row ≡ true → commit_has part.table row commit ≡ true → ⊥)
    → FitsPart tables part → FitsPart (apply commit tables) part
part_behind tables commit part fit apart fits =
    let stays = stays_behind tables part.table commit fits.table fit fits.is in
    record {
      table = stays.later;
      is = stays.is;
      fits = later_fits fits.table stays.later part stays.schema
          (λ row has. stays.rows row (fits.fits.there row has) (apart row has)) fits.fits;
    }

-- no row of a net is in a commit
abbrev pub AreApart : List TableNet → Commit → Type 0
AreApart net commit = (table row : ℕ) → net_has net table row ≡ true → commit_has table row commit ≡ true → ⊥

parts_behind : (tables : List Table) (commit : Commit) (net : List TableNet) → FitsCommit tables commit
    → AreApart net commit
    → All (FitsPart tables) net → All (FitsPart (apply commit tables)) net
parts_behind tables commit [] fit apart all = All-nil (FitsPart (apply commit tables))
parts_behind tables commit (part ∷ net) fit apart all =
    All-cons (FitsPart (apply commit tables)) part net
    (part_behind tables commit part fit
    (λ row has changed. apart part.table row
    (or_left _ _ (and_from _ _ (eq-eqb part.table part.table refl) has)) changed)
    (All-head (FitsPart tables) part net all))
    (parts_behind tables commit net fit (λ table row has changed. apart table row (or_right _ _ has) changed)
    (All-tail (FitsPart tables) part net all))

-- a net fits behind a commit of other rows
net_behind_one : (tables : List Table) (commit : Commit) (net : List TableNet) → FitsCommit tables commit
    → AreApart net commit
    → FitsNet tables net → FitsNet (apply commit tables) net
net_behind_one tables commit net fit apart fits =
    record { is = fits.is; parts = parts_behind tables commit net fit apart fits.parts }

-- the state after one commit more
after_next : (opened : List Table) (commits : List Commit) (n : ℕ) (commit : Commit) → slice_get commits n ≡ Some commit
    → after opened commits (suc n) ≡ apply commit (after opened commits n)
after_next opened [] n commit at = cc
after_next opened (first ∷ commits) zero commit at =
    let same : first ≡ commit = cc in ap (λ one. apply one opened) same
after_next opened (first ∷ commits) (suc n) commit at = after_next (apply first opened) commits n commit at

after_end : (opened : List Table) (commits : List Commit) (n : ℕ) → slice_get commits n ≡ None
    → after opened commits (suc n) ≡ after opened commits n
after_end opened [] zero at = refl
after_end opened [] (suc n) at = refl
after_end opened (first ∷ commits) zero at = cc
after_end opened (first ∷ commits) (suc n) at = after_end (apply first opened) commits n at

-- each commit fits the database that it is applied to
abbrev pub AllCommitsFit : List Table → List Commit → Type 0
AllCommitsFit opened commits =
    (n : ℕ) (commit : Commit) → slice_get commits n ≡ Some commit → FitsCommit (after opened commits n) commit

next_fits : (opened : List Table) (commits : List Commit) (n : ℕ) (found : Option Commit) → slice_get commits n ≡ found
    → AllCommitsFit opened commits → all_fit (after opened commits n) ≡ true → all_fit (after opened commits (suc n))
    ≡ true
next_fits opened commits n None is fit all =
    subst (λ tables. all_fit tables ≡ true) (sym (after_end opened commits n is)) all
next_fits opened commits n (Some commit) is fit all =
    subst (λ tables. all_fit tables ≡ true) (sym (after_next opened commits n commit is))
    (commit_applied (after opened commits n) commit (fit n commit is) all)

pub after_fits : (opened : List Table) (commits : List Commit) (n : ℕ) → AllCommitsFit opened commits → all_fit opened
    ≡ true
    → all_fit (after opened commits n) ≡ true
after_fits opened commits zero fit all = all
after_fits opened commits (suc n) fit all =
    next_fits opened commits n (slice_get commits n) refl fit (after_fits opened commits n fit all)

-- what stands at a place below the length of a list
at_place : {T : Type 0} → (xs : List T) (n : ℕ) → n < length xs → (x : T) × (slice_get xs n ≡ Some x)
at_place [] n less = absurd (omega (arith, less))
at_place (x ∷ xs) zero less = (x, refl)
at_place (x ∷ xs) (suc n) less = at_place xs n (omega (arith, less))

-- a net fits behind all further commits, where they are of other rows
pub net_behind_all : (opened : List Table) (commits : List Commit) (net : List TableNet) (start more : ℕ)
    → AllCommitsFit opened commits
    → ((n : ℕ) (commit : Commit) → start ≤ n → slice_get commits n ≡ Some commit → AreApart net commit)
    → start + more ≤ length commits → FitsNet (after opened commits start) net
    → FitsNet (after opened commits (start + more)) net
net_behind_all opened commits net start zero fit apart within fits =
    let e : start ≡ start + zero = omega arith in subst (λ n. FitsNet (after opened commits n) net) e fits
net_behind_all opened commits net start (suc more) fit apart within fits =
    let e : suc (start + more) ≡ start + suc more = omega arith in
    let less : start + more < length commits = omega (arith, within) in
    let at = at_place commits (start + more) less in
    subst (λ n. FitsNet (after opened commits n) net) e
    (subst (λ tables. FitsNet tables net) (sym (after_next opened commits (start + more) at.0 at.1))
    (net_behind_one (after opened commits (start + more)) at.0 net (fit (start + more) at.0 at.1)
    (apart (start + more) at.0 (omega arith) at.1)
    (net_behind_all opened commits net start more fit apart (omega (arith, within)) fits)))
