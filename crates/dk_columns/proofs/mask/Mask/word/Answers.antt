use Rattle.std.proofs.Common.{◌≡◌, ◌+◌, ◌*◌, ◌/◌, ◌%◌, ◌^◌, ◌-◌, ◌==◌, ℕ, List, Bool, Some, length, get_or, ap, sym, ◌∙◌, arith}
use Rattle.std.specs.Prelude.{slice_get}
use Rattle.std.specs.Int.{bit_at}
use Rattle.dk_columns.proofs.MaskLemmas.{flags_len, flags_get}
use Rattle.dk_columns.proofs.mask.Mask.word.Goals as goal

pub returns : goal.returns
returns c j lt within =
    let e = ap (λ (bs : List Bool). length bs) c.self.view_is in
    let place : (64 * c.args.k + j) / 64 ≡ c.args.k = omega (arith, lt) in
    let bit : (64 * c.args.k + j) % 64 ≡ j = omega (arith, lt) in
    let word : get_or c.self.inside.words.items ((64 * c.args.k + j) / 64) (2 ^ 64 - 1) ≡ c.word_at.result =
    ap (λ (k : ℕ). get_or c.self.inside.words.items k (2 ^ 64 - 1)) place ∙ ap (λ (ws : List ℕ). get_or ws c.args.k (2 ^ 64 - 1)) (sym c.deref.ensures.value) ∙ sym c.word_at.ensures in
    ap (λ (bs : List Bool). slice_get bs (64 * c.args.k + j)) (sym c.self.view_is)
    ∙ flags_get c.self.inside.len c.self.inside.words.items (64 * c.args.k + j) (omega (arith, within, e, flags_len c.self.inside.len c.self.inside.words.items))
    ∙ ap (λ (b : ℕ). Some (b == 1)) (ap (λ (i : ℕ). bit_at (get_or c.self.inside.words.items ((64 * c.args.k + j) / 64) (2 ^ 64 - 1)) i) bit ∙ ap (λ (w : ℕ). bit_at w j) word)
