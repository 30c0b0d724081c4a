-- What is read of a line is what the grammar has, both ways.
use Rattle.dk_script.proofs.GrammarLemmas.{found_request, only_request}
use Rattle.dk_script.proofs.line.request_of.Goals as goal

pub returns-clause-found : goal.returns-clause-found
returns-clause-found c = found_request c.read_request.result c.args.line.now c.read_request.ensures.exact

pub returns-clause-only : goal.returns-clause-only
returns-clause-only c session text is =
    only_request c.read_request.result c.args.line.now session text c.read_request.ensures.exact is
