-- The first tables are those that binding sees.
use Rattle.dk_states.proofs.meaning.entries_of.Goals as goal
use Rattle.dk_states.proofs.EntryLemmas.{first_entries}

pub returns-clause-entries : goal.returns-clause-entries
returns-clause-entries c = first_entries c.args.tables.now c.min-count.result c.in_ok-first.first c.min-count.ensures c.in_ok-first.ensures
