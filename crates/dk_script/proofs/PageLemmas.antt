-- Texts on their way to a sink.
use Rattle.std.proofs.Common.{◌≡◌, ℕ, ◌≤◌, ◌+◌, List, [], ◌++◌, length, take, Option, refl, sym, ap, ◌∙◌, subst, append_assoc, arith, length-append}
use Rattle.std.proofs.lemmas.List.{append-nil, take-append-le}
use Rattle.std.proofs.Math.Seq.{take-append_seam, take-append-add}
use Rattle.std.proofs.KnownBytes.{Appends-nil, Appends-trans}
use Rattle.std.specs.Io.KnownBytes.{Appends}
use Rattle.dk_io.specs.Sinks.{TakesFront}
use Rattle.dk_script.specs.Paging.{Paged}

-- a front of the page went out
pub leaves_front : (old mid new : Option (List ℕ)) (page rest all : List ℕ) → TakesFront mid new page
    → Paged old mid page rest all → TakesFront old new all
leaves_front old mid new page rest all front leaves =
    let sent = leaves.sent in
    let n = front.0 in
    let within : n ≤ length page = front.1 in
    let long : length sent + n ≤ length (sent ++ (page ++ rest)) = simp length-append (omega arith) in
    let cut : take (length sent + n) all ≡ sent ++ take n page =
    ap (take (length sent + n)) leaves.whole
    ∙ (take-append-add sent (page ++ rest) n ∙ ap (λ xs. sent ++ xs) (take-append-le n page rest within)) in (
      length sent + n,
      subst (λ (xs : List ℕ). length sent + n ≤ length xs) (sym leaves.whole) long,
      subst (Appends old new) (sym cut) (Appends-trans old mid new sent (take n page) leaves.taken front.2),
    )

-- a page that stays is all there is
pub leaves_kept : (old : Option (List ℕ)) (page : List ℕ) → Paged old old page [] page
leaves_kept old page = record { sent = []; taken = Appends-nil old; whole = sym (append-nil page) }

-- a page that went out left nothing
pub leaves_sent : (old new : Option (List ℕ)) (page after : List ℕ) → Appends old new page → after ≡ []
    → Paged old new after [] page
leaves_sent old new page after sent empty =
    record {
      sent = page;
      taken = sent;
      whole = sym (append-nil page)
          ∙ ap (λ xs. page ++ xs) (sym (append-nil after ∙ empty));
    }

-- nothing is a front of each text
pub front_nothing : (old : Option (List ℕ)) (all : List ℕ) → TakesFront old old all
front_nothing old all = (0, omega arith, Appends-nil old)

-- the next part of the rest was written
pub leaves_more : (old mid new : Option (List ℕ)) (page page' text rest rest' all : List ℕ) → rest ≡ text ++ rest'
    → Paged old mid page rest all → Paged mid new page' [] (page ++ text) → Paged old new page' rest' all
leaves_more old mid new page page' text rest rest' all next leaves more =
    let joined : page ++ (text ++ rest') ≡ more.sent ++ (page' ++ rest') =
    sym (append_assoc page text rest')
    ∙ (ap (λ xs. xs ++ rest') (more.whole ∙ ap (λ xs. more.sent ++ xs) (append-nil page'))
    ∙ append_assoc more.sent page' rest') in
    record {
      sent = leaves.sent ++ more.sent;
      taken = Appends-trans old mid new leaves.sent more.sent leaves.taken more.taken;
      whole = leaves.whole ∙ (ap (λ xs. leaves.sent ++ (page ++ xs)) next
          ∙ (ap (λ xs. leaves.sent ++ xs) joined ∙ sym (append_assoc leaves.sent more.sent (page' ++ rest'))));
    }

-- a front of the next part of the rest went out
pub front_more : (old mid new : Option (List ℕ)) (page text rest rest' all : List ℕ) → rest ≡ text ++ rest'
    → Paged old mid page rest all → TakesFront mid new (page ++ text) → TakesFront old new all
front_more old mid new page text rest rest' all next leaves front =
    leaves_front old mid new (page ++ text) rest' all front
    (record {
      sent = leaves.sent;
      taken = leaves.taken;
      whole =
          leaves.whole ∙ ap (λ xs. leaves.sent ++ xs) (ap (λ xs. page ++ xs) next ∙ sym (append_assoc page text rest'));
    })
