-- A part of a buffer that loses its front.
use Rattle.std.proofs.Common.{◌≡◌, ℕ, ◌+◌, ◌-◌, ◌≤◌, List, [], ◌∷◌, zero, suc, take, drop, refl, sym, ◌∙◌, ap, arith, ◌<◌, length, ◌++◌}
use Rattle.std.specs.Prelude.{slice_get, min}
use Rattle.std.proofs.Math.Seq.{drop-drop, drop-nil}
use Rattle.std.proofs.lemmas.List.{drop-take, take_rest, take-append-drop, length-drop, drop_all}

pub window_moves : (xs : List ℕ) (start end count : ℕ) → start + count ≤ end
    → take (end - (start + count)) (drop (start + count) xs) ≡ drop count (take (end - start) (drop start xs))
window_moves xs start end count fits =
    let e : end - start ≡ count + (end - (start + count)) = omega (arith, fits) in
    ap (λ w. take (end - (start + count)) w) (sym (drop-drop count start xs))
    ∙ sym (drop-take count (end - (start + count)) (drop start xs))
    ∙ ap (λ n. drop count (take n (drop start xs))) (sym e)

-- what stands at a place stands first behind it
pub slice_get-drop : (xs : List ℕ) (n : ℕ) → slice_get (drop n xs) 0 ≡ slice_get xs n
slice_get-drop [] n = ap (λ w. slice_get w 0) (drop-nil {A = ℕ} n)
slice_get-drop (x ∷ xs) zero = refl
slice_get-drop (x ∷ xs) (suc n) = slice_get-drop xs n

-- what was copied is the front of the rest, and the rest goes on behind it
pub front_given : (bytes slice got left : List ℕ) (at n : ℕ) → slice ≡ bytes → left ≡ drop at bytes
    → got ≡ take n (take (length slice - at) (drop at slice)) → left ≡ got ++ drop (at + n) bytes
front_given bytes slice got left at n same is copied =
    let front : got ≡ take n (drop at bytes) =
    copied ∙ ap (λ w. take n (take (length w - at) (drop at w))) same ∙ ap (take n) (take_rest bytes at) in
    is ∙ (sym (take-append-drop n (drop at bytes)) ∙ (ap (λ w. w ++ drop n (drop at bytes)) (sym front)
    ∙ ap (λ w. got ++ w) (drop-drop n at bytes)))

-- where nothing was copied, though there was room, nothing is left
pub nothing_given : (bytes slice : List ℕ) (at n room most : ℕ) → slice ≡ bytes
    → n ≡ min (min (length (take (length slice - at) (drop at slice))) room) most → 0 < room → 0 < most → n ≡ 0
    → drop (at + n) bytes ≡ []
nothing_given bytes slice at n room most same count some much none =
    let size : length (take (length slice - at) (drop at slice)) ≡ length slice - at =
    ap length (take_rest slice at) ∙ length-drop at slice in
    let long : length slice ≡ length bytes = ap length same in
    drop_all (at + n) bytes (omega (arith, size, long, count, some, much, none))
