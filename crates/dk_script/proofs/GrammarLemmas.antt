-- The grammar of a line against its reader, both ways.
use Rattle.std.proofs.Common.{◌≡◌, ℕ, List, Option, Some, None, IfSome, option_map, Bor, sym, ◌∙◌}
use Rattle.dk_script.specs.Requests.{request_of}
use Rattle.dk_script.specs.GrammarLines.{IsRequest}
use Rattle.dk_script.proofs.RequestLemmas.{request_found, request_again}

pub found_request : (result : Option (ℕ × Bor (List ℕ))) (line : List ℕ)
    → option_map (λ x. (x.0, x.1.now)) result ≡ request_of line → IfSome result (λ x. IsRequest line x.0 x.1.now)
found_request None line h = tt
found_request (Some x) line h = request_found line (x.0, x.1.now) (sym h)

pub only_request : (result : Option (ℕ × Bor (List ℕ))) (line : List ℕ) (session : ℕ) (text : List ℕ)
    → option_map (λ x. (x.0, x.1.now)) result ≡ request_of line → IsRequest line session text
    → option_map {U = ℕ × List ℕ} (λ x. (x.0, x.1.now)) result ≡ Some (session, text)
only_request result line session text h is = h ∙ request_again line session text is
