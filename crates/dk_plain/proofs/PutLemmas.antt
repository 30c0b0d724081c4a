-- Lists with one item more.
use Rattle.std.proofs.Common.{◌≡◌, ℕ, List, [], ◌∷◌, ◌++◌, Option, Some, None, ap, refl, ◌∙◌}
use Rattle.std.proofs.lemmas.List.{append-nil}
use Rattle.dk_si.specs.Nets.{put_by, with_waiting}

-- where whatever comes behind the items comes behind those that are done, nothing comes behind
pub put_end : {T : Type 0} → (key : T → ℕ) → (done : List T) → (waiting : Option T) → (item : T)
    → (items all : List T) → ((rest : List T) → done ++ with_waiting key waiting rest
    ≡ put_by key item (items ++ rest)) → all ≡ done ++ with_waiting key waiting [] → all ≡ put_by key item items
put_end key done waiting item items all behind is = is ∙ (behind [] ∙ ap (put_by key item) (append-nil items))
