-- Receipts count the commits.
use Rattle.std.specs.Prelude.{ℕ, zero, suc, List, [], ◌∷◌, ◌++◌, Option, Some, None, option_to_list}
use Rattle.std.specs.Prelude.{map, length, ◌≡◌, true}
use Rattle.dk_types.specs.declared.reply.Receipt.{Receipt}
use Rattle.dk_types.specs.declared.reply.Reply.{Reply}
use Rattle.dk_types.specs.declared.reply.Reply.TheVariants as reply
use Rattle.dk_si.specs.declared.database.Table.{Table}
use Rattle.dk_si.specs.declared.history.Entry.{Entry}
use Rattle.dk_si.specs.declared.history.Entry.TheVariants as entry
use Rattle.dk_si.specs.IsStep.{are_steps}
use Rattle.dk_si.specs.Laws.{state_after}
use Rattle.dk_si.specs.Machine.{first_state}

-- the receipt that a reply carries
abbrev pub receipt_of : Reply → Option Receipt
receipt_of (reply.Created receipt) = Some receipt
receipt_of (reply.Changed count receipt) = receipt
receipt_of (reply.Committed receipt) = Some receipt
receipt_of other = None

abbrev pub entry_receipts : Entry → List Receipt
entry_receipts (entry.Reply session reply) = option_to_list (receipt_of reply)
entry_receipts other = []

-- the receipts of all replies, in the order of the entries
abbrev pub receipts : List Entry → List Receipt
receipts [] = []
receipts (entry ∷ entries) = entry_receipts entry ++ receipts entries

-- the numbers 1, 2, 3 .. up to this one
abbrev pub numbers_to : ℕ → List ℕ
numbers_to zero = []
numbers_to (suc n) = numbers_to n ++ suc n ∷ []

-- receipts are numbered 1, 2, 3 .., and there are as many as commits
abbrev pub ReceiptsCountCommits : Type 0
ReceiptsCountCommits =
    (opened : List Table) (entries : List Entry) → are_steps opened [] first_state entries ≡ true
    → map (λ receipt. receipt.number) (receipts entries) ≡ numbers_to
    (length (state_after opened first_state entries).commits)
