-- A body of one value is read as the values that were written, and the other way round.
use Rattle.dk_bytes.specs.Fields.{IsBytes}
use Rattle.std.proofs.Common.{◌≡◌, ℕ, zero, suc, ◌+◌, List, [], ◌∷◌, ◌++◌, length, Result, Ok, refl, sym, ap, subst, ◌∙◌, replicate}
use Rattle.std.specs.List.{AllByRecursion}
use Rattle.std.proofs.lemmas.List.{append-nil, length-replicate}
use Rattle.dk_values.specs.declared.value.ColType.{ColType}
use Rattle.dk_values.specs.declared.value.Value.{Value}
use Rattle.dk_bytes.specs.Reading.{start, whole, IsBody}
use Rattle.dk_bytes.specs.PlainValue.{plain_bytes, value_at}
use Rattle.dk_bytes.proofs.NumberLemmas.{bind_ok, ok_is}
use Rattle.dk_bytes.proofs.PlainValueLemmas.{value_takes, value_again, after}
use Rattle.dk_bytes.specs.Bodies.{IsCodec}
use Rattle.dk_bytes.proofs.OutcomeLemmas.{whole_ok, whole_at}
use Rattle.dk_seg_run.specs.Constant.{IsConstant, constant_bytes, constant_at}

all_copies : (n : ℕ) (value : Value) → AllByRecursion (λ other. other ≡ value) (replicate n value)
all_copies zero value = tt
all_copies (suc n) value = (refl, all_copies n value)

body_taken : (kind : ColType) (count : ℕ) (bytes : List ℕ) (values : List Value) → IsBytes bytes → constant_at kind count bytes ≡ Ok values
    → IsBody (IsConstant kind) constant_bytes count bytes values
unfolding constant_at
body_taken kind zero bytes values fits e = absurd cc
body_taken kind (suc n) bytes values fits e =
    let b = bind_ok (whole (value_at kind (start bytes))) (λ value. Ok (replicate (suc n) value)) values e in
    let value = b.0 in
    let w = whole_ok (value_at kind (start bytes)) value b.1 in
    let t = value_takes kind (start bytes) (value, w.behind) fits w.told in
    subst (λ (vs : List Value). IsBody (IsConstant kind) constant_bytes (suc n) bytes vs) (ok_is (replicate (suc n) value) values b.2) (record {
      total = length-replicate (suc n) value;
      lawful = (t.plain, all_copies n value);
      spelled = t.takes.passes.rest ∙ ap (λ (l : List ℕ). plain_bytes value ++ l) w.used ∙ append-nil (plain_bytes value);
    })

all_one : (value : Value) (values : List Value) → AllByRecursion (λ other. other ≡ value) values → replicate (length values) value ≡ values
all_one value [] h = refl
all_one value (v ∷ vs) h = ap (λ (u : Value). u ∷ replicate (length vs) value) (sym h.0) ∙ ap (λ (l : List Value). v ∷ l) (all_one value vs h.1)

abbrev ok_values : List Value → Result (List Value) ℕ
ok_values x = Ok x

body_read : (kind : ColType) (values : List Value) → IsConstant kind values → constant_at kind (length values) (constant_bytes values) ≡ Ok values
unfolding constant_at
body_read kind [] h = absurd h
body_read kind (v ∷ vs) h =
    let text = plain_bytes v in
    let read : value_at kind (start text) ≡ Ok (v, after 0 text [])
    = subst (λ (l : List ℕ). value_at kind (record { at = 0; rest = l }) ≡ Ok (v, after 0 text [])) (append-nil text) (value_again kind v [] 0 h.0) in
    let same : replicate (length vs) v ≡ vs = all_one v vs h.1 in
    rw (whole_at (value_at kind (start text)) v (0 + length text) read) (ap (λ (l : List Value). ok_values (v ∷ l)) same)

pub constant_codec : (kind : ColType) → IsCodec (constant_at kind) (IsConstant kind) constant_bytes
constant_codec kind = record { takes = λ count bytes values fits small e. body_taken kind count bytes values fits e; again = body_read kind }
