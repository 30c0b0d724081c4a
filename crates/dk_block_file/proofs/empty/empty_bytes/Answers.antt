-- The three headers in their order.
use Rattle.std.proofs.Common.{◌≡◌, ◌++◌, ◌∷◌, [], replicate, List, ℕ, IfOk, subst}
use Rattle.dk_header.specs.declared.header.TheConstants.{HEADER_BYTES, OPEN_GATE, VERSION}
use Rattle.dk_header.specs.Layout.{main_bytes}
use Rattle.dk_block_file.proofs.empty.empty_bytes.Goals as goal

pub returns : goal.returns
returns c =
    let at_main : List ℕ
    → Type 0 = λ main. IfOk c.joined.result
    (λ bytes. bytes.items ≡ main ++ c.body_of.result ++ OPEN_GATE ∷ [] ++ replicate HEADER_BYTES 0) in
    let at_body : List ℕ
    → Type 0 = λ body. IfOk c.joined.result
    (λ bytes. bytes.items ≡ main_bytes VERSION ++ body ++ OPEN_GATE ∷ [] ++ replicate HEADER_BYTES 0) in
    subst at_body c.body_of.ensures.layout (subst at_main c.main_header.ensures.layout c.joined.ensures)
