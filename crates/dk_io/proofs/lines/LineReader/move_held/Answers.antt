-- What is held up to a line feed moves to the line that has begun.
use Rattle.std.proofs.Common.{◌≡◌, ◌≢◌, ℕ, List, ◌++◌, true, take, drop, ◌∙◌, ap, subst}
use Rattle.std.specs.Prelude.{All}
use Rattle.dk_io.specs.Lines.{kept_part, contents_after}
use Rattle.dk_io.proofs.LineLemmas.{part_contents}
use Rattle.dk_io.proofs.WindowLemmas.{slice_get-drop}
use Rattle.dk_io.proofs.lines.LineReader.move_held.Goals as goal

-- the part before the line feed goes to the line that has begun
part_moves : (begun held found front kept rest : List ℕ) (n : ℕ) → found ≡ held → All (λ b. b ≢ 10) (take n found)
    → front ≡ take n found → kept ≡ kept_part (begun ++ front) → rest ≡ drop n held
    → (text : List ℕ) → contents_after kept (rest ++ text) ≡ contents_after begun (held ++ text)
part_moves begun held found front kept rest n is none part keeps left text =
    let same : kept ≡ kept_part (begun ++ take n held) =
    keeps ∙ ap (λ w. kept_part (begun ++ w)) (part ∙ ap (take n) is) in
    rw (same, left) (part_contents begun held n text (subst (λ w. All (λ b. b ≢ 10) (take n w)) is none))

pub returns-clause-moved : goal.returns-clause-moved
returns-clause-moved c =
    rw (← c.self.view_is) (record {
      same = part_moves c.self.inside.begun.items c.self.inside.piece c.held-held.result.now _ c.keep.new.begun.items
          _ c.find_end-count.result.0
          c.held-held.ensures c.find_end-count.ensures.before c.split_at.ensures.front c.in_ok-keep.ensures.ok
          c.pass.ensures.rest;
    })

-- the line feed stands first in the rest
pub returns-clause-found : goal.returns-clause-found
returns-clause-found c = λ is.
    let there : c.find_end-count.result.1 ≡ true = cc in
    rw (c.pass.ensures.rest, slice_get-drop) (rw c.held-held.ensures at c.find_end-count.ensures.found there)
