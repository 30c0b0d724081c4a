-- What a refusal claims of a state.
use Rattle.std.specs.Prelude.{ℕ, Bool, List}
use Rattle.dk_si.specs.declared.database.Table.{Table}
use Rattle.dk_si.specs.declared.machine.Machine.{Machine}
use Rattle.dk_si.specs.HeldRows.{holds}
use Rattle.dk_si.specs.Spent.{is_spent}
use Rattle.dk_legal.specs.declared.since.Claim.{Claim}
use Rattle.dk_legal.specs.declared.since.Claim.TheVariants as claim

-- whether a refusal's claim is so in a state
abbrev pub claim_holds : List Table → ℕ → Claim → Machine → Bool
claim_holds opened session (claim.Held table row by) machine = holds opened session table row by machine
claim_holds opened session (claim.Spent numbers) machine = is_spent opened numbers machine
