-- What holds of all that a reader can find.
use Rattle.std.proofs.Common.{◌≡◌, ℕ, zero, suc, ◌≤◌, ◌<◌, true, Bool, List, ◌∷◌, length, Option, Some, None, Ok, Err, IfOk, IfSome, refl, arith}
use Rattle.std.specs.List.{list_all}
use Rattle.std.proofs.lemmas.Bool.{and_from}
use Rattle.dk_sql.specs.Readers.{Outcome, Reader, ◌>>=◌}
use Rattle.dk_sql.specs.Tokens.{found_at, mark_after, mark_at}
use Rattle.dk_sql.specs.Lists.{more_after, last_after, more_at, list_at, enclosed_at}

-- a step that finds what is wanted, after whatever was found
pub after_any : {A B : Type 0} (Q : B → Type 0) (f : A → Outcome B) → ((x : A) → IfOk (f x) Q) → (o : Outcome A)
    → IfOk (o >>= f) Q
after_any Q f step (Ok x) = step x
after_any Q f step (Err left) = tt

-- a step that finds what is wanted, after what was found so
pub after : {A B : Type 0} (P : A → Type 0) (Q : B → Type 0) (f : A → Outcome B) → ((x : A) → P x → IfOk (f x) Q)
    → (o : Outcome A) → IfOk o P → IfOk (o >>= f) Q
after P Q f step (Ok x) h = step x h
after P Q f step (Err left) h = tt

-- what stands next, where it is what is wanted
pub of_option : {A : Type 0} (Q : A → Type 0) (text : List ℕ) (found : Option A) → IfSome found Q
    → IfOk (found_at text found) Q
of_option Q text None h = tt
of_option Q text (Some x) h = h

-- members of a list, at most so many
pub record Members {A : Type 0} (P : A → Bool) (most : ℕ) (members : List A) : Type 0 where
  pub lawful : list_all P members ≡ true
  pub count : length members ≤ most

-- a reader of members of which each is lawful
abbrev pub Reads : {A : Type 0} → (A → Bool) → Reader A → Type 0
Reads P item = (text : List ℕ) → IfOk (item text) (λ x. P x.0 ≡ true)

first_of_them : {A : Type 0} (P : A → Bool) (most : ℕ) (first : A) (others : List A) → P first ≡ true
    → Members P most others → Members P (suc most) (first ∷ others)
first_of_them P most first others one more =
    record { lawful = and_from _ _ one more.lawful; count = omega (arith, more.count) }

no_more : {A : Type 0} (P : A → Bool) (most : ℕ) (text : List ℕ) (mark : Option (List ℕ))
    → IfOk (last_after {A = A} text mark) (λ x. Members P most x.0)
no_more P most text None = record { lawful = refl; count = omega arith }
no_more P most text (Some rest) = tt

one_more : {A : Type 0} (P : A → Bool) (item : Reader A) → Reads P item → (most : ℕ) (others : Reader (List A))
    → ((text : List ℕ) → IfOk (others text) (λ x. Members P most x.0)) → (text : List ℕ) (mark : Option (List ℕ))
    → IfOk (more_after item others text mark) (λ x. Members P (suc most) x.0)
one_more P item reads most others more text None = record { lawful = refl; count = omega arith }
one_more {A} P item reads most others more text (Some rest) =
    after {A = A × List ℕ} {B = List A × List ℕ} (λ x. P x.0 ≡ true) (λ x. Members P (suc most) x.0) _
    (λ first one. after {A = List A × List ℕ} {B = List A × List ℕ} (λ x. Members P most x.0)
    (λ x. Members P (suc most) x.0) _
    (λ found found_so. first_of_them P most first.0 found.0 one found_so) (others first.1) (more first.1))
    (item rest) (reads rest)

pub more_lawful : {A : Type 0} (P : A → Bool) (item : Reader A) → Reads P item → (further : ℕ) (text : List ℕ)
    → IfOk (more_at item further text) (λ x. Members P further x.0)
more_lawful P item reads zero text = no_more P 0 text (mark_after 44 text)
more_lawful P item reads (suc further) text =
    one_more P item reads further (more_at item further) (more_lawful P item reads further) text (mark_after 44 text)

-- a list is lawful where its members are, and has one at least
pub record Listed {A : Type 0} (P : A → Bool) (most : ℕ) (members : List A) : Type 0 where
  pub lawful : list_all P members ≡ true
  pub some : 0 < length members
  pub count : length members ≤ most

pub list_lawful : {A : Type 0} (P : A → Bool) (item : Reader A) → Reads P item → (further : ℕ) (text : List ℕ)
    → IfOk (list_at item further text) (λ x. Listed P (suc further) x.0)
unfolding list_at
list_lawful {A} P item reads further text =
    after {A = A × List ℕ} {B = List A × List ℕ} (λ x. P x.0 ≡ true) (λ x. Listed P (suc further) x.0) _
    (λ first one. after {A = List A × List ℕ} {B = List A × List ℕ} (λ x. Members P further x.0)
    (λ x. Listed P (suc further) x.0) _
    (λ found found_so. record {
      lawful = and_from _ _ one found_so.lawful;
      some = omega arith;
      count = omega (arith, found_so.count);
    }) (more_at item further first.1) (more_lawful P item reads further first.1))
    (item text) (reads text)

pub enclosed_lawful : {A : Type 0} (P : A → Bool) (item : Reader A) → Reads P item → (further : ℕ) (text : List ℕ)
    → IfOk (enclosed_at item further text) (λ x. Listed P (suc further) x.0)
unfolding enclosed_at
enclosed_lawful {A} P item reads further text =
    after_any {A = List ℕ} {B = List A × List ℕ} (λ x. Listed P (suc further) x.0) _
    (λ inside. after {A = List A × List ℕ} {B = List A × List ℕ} (λ x. Listed P (suc further) x.0)
    (λ x. Listed P (suc further) x.0) _
    (λ items items_so. after_any {A = List ℕ} {B = List A × List ℕ} (λ x. Listed P (suc further) x.0) _
    (λ rest. items_so) (mark_at 41 items.1))
    (list_at item further inside) (list_lawful P item reads further inside)) (mark_at 40 text)
