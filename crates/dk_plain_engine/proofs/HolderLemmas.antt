-- Who holds a row, and the least of rows, one after the other.
use Rattle.std.proofs.Common.{◌≡◌, ℕ, zero, suc, ◌+◌, Bool, true, false, List, [], ◌∷◌, ◌++◌, Some, None, Option, ap, ◌∙◌, sym, refl, arith}
use Rattle.std.specs.Prelude.{min, if◌then◌else◌}
use Rattle.dk_types.specs.declared.net.Commit.{Commit}
use Rattle.dk_si.specs.declared.machine.Session.{Session}
use Rattle.dk_si.specs.Answer.{first_with, last_change, least_where}
use Rattle.dk_si.specs.HeldRows.{commit_has}
use Rattle.dk_si.specs.OneThread.{open_with}
use Rattle.dk_plain_engine.specs.Held.{least_with, or_last, last_or, joined, least_or}

-- a commit before others
abbrev before : Bool → ℕ → ℕ
before has n = elim n [ zero ↦ if has then 1 else 0 | suc m ↦ suc (suc m) ]

one_more : (last place : ℕ) (has : Bool) (n : ℕ) → or_last last place (before has n) ≡ or_last (last_or last place has) (place + 1) n
one_more last place true zero = omega arith
one_more last place false zero = refl
one_more last place has (suc n) = omega arith

pub last_more : (table row last place : ℕ) (commit : Commit) (commits : List Commit)
    → or_last last place (last_change table row (commit ∷ commits))
    ≡ or_last (last_or last place (commit_has table row commit)) (place + 1) (last_change table row commits)
last_more table row last place commit commits = one_more last place (commit_has table row commit) (last_change table row commits)

min_assoc : (a b c : ℕ) → min a (min b c) ≡ min (min a b) c
min_assoc a b c = omega arith

least_held : (least : Option ℕ) (id : ℕ) (rest : Option ℕ)
    → joined least (Some (elim rest as (λ x. ℕ) [ None ↦ id | Some other ↦ min id other ])) ≡ joined (Some (least_with least id)) rest
least_held None id None = refl
least_held None id (Some other) = refl
least_held (Some least) id None = refl
least_held (Some least) id (Some other) = ap (λ n. Some n) (min_assoc least id other)

least_next : (least : Option ℕ) (id : ℕ) (held : Bool) (rest : Option ℕ)
    → joined least (if held then Some (elim rest as (λ x. ℕ) [ None ↦ id | Some other ↦ min id other ]) else rest)
    ≡ joined (least_or least id held) rest
least_next least id true rest = least_held least id rest
least_next least id false rest = refl

pub least_more : (test : ℕ → Bool) (least : Option ℕ) (id : ℕ) (ids : List ℕ)
    → joined least (least_where test (id ∷ ids)) ≡ joined (least_or least id (test id)) (least_where test ids)
least_more test least id ids = least_next least id (test id) (least_where test ids)

pub least_end : (least : Option ℕ) → joined least None ≡ least
least_end None = refl
least_end (Some id) = refl

-- sessions before others
abbrev first_or : Option ℕ → Option ℕ → Option ℕ
first_or found more = elim found [ None ↦ more | Some number ↦ Some number ]

first_next : (own rest more : Option ℕ) → first_or own (first_or rest more) ≡ first_or (first_or own rest) more
first_next None rest more = refl
first_next (Some number) rest more = refl

first_both : (table row : ℕ) (xs ys : List Session)
    → first_with table row (xs ++ ys) ≡ first_or (first_with table row xs) (first_with table row ys)
first_both table row [] ys = refl
first_both table row (session ∷ xs) ys =
    ap (λ rest. first_or (open_with table row session) rest) (first_both table row xs ys)
    ∙ first_next (open_with table row session) (first_with table row xs) (first_with table row ys)

pub first_found : (table row : ℕ) (all xs ys : List Session) (number : ℕ) → all ≡ xs ++ ys
    → Some number ≡ first_with table row xs → Some number ≡ first_with table row all
first_found table row all xs ys number is found =
    sym (ap (first_with table row) is ∙ (first_both table row xs ys ∙ ap (λ own. first_or own (first_with table row ys)) (sym found)))

pub first_behind : (table row : ℕ) (all xs ys : List Session) (result : Option ℕ) → all ≡ xs ++ ys
    → None ≡ first_with table row xs → result ≡ first_with table row ys → result ≡ first_with table row all
first_behind table row all xs ys result is none found =
    found ∙ sym (ap (first_with table row) is ∙ (first_both table row xs ys ∙ ap (λ own. first_or own (first_with table row ys)) (sym none)))
