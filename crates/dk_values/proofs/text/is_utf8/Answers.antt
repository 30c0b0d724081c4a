-- The library answers as the fact says, and the test does too.
use Rattle.dk_values.proofs.Utf8Lemmas.{tests_utf8}
use Rattle.dk_values.proofs.text.is_utf8.Goals as goal

pub returns-clause-test : goal.returns-clause-test
returns-clause-test c = tests_utf8 _ _ c.is_utf8.ensures
