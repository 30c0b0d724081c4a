-- What a sink has taken after one more write.
use Rattle.std.proofs.Common.{ℕ, ◌+◌, ◌-◌, List, ◌++◌, Option, None, Some, length, take, drop, sym, ◌∙◌, ap, append_assoc}
use Rattle.std.proofs.Math.Seq.{take-add}
use Rattle.std.proofs.lemmas.List.{take_rest}
use Rattle.std.specs.Io.KnownBytes.{Appends}

-- a front of the bytes, and then a front of the rest, is a longer front
pub more_taken : (a b c : Option (List ℕ)) (bytes : List ℕ) (at n : ℕ) → Appends a b (take at bytes)
    → Appends b c (take n (take (length bytes - at) (drop at bytes))) → Appends a c (take (at + n) bytes)
more_taken None b c bytes at n p q = tt
more_taken (Some x) None c bytes at n p q = absurd p
more_taken (Some x) (Some y) None bytes at n p q = absurd q
more_taken (Some x) (Some y) (Some z) bytes at n p q =
    q ∙ ap (λ w. y ++ take n w) (take_rest bytes at) ∙ ap (λ w. w ++ take n (drop at bytes)) p
    ∙ append_assoc x (take at bytes) (take n (drop at bytes)) ∙ ap (λ w. x ++ w) (sym (take-add at n bytes))
