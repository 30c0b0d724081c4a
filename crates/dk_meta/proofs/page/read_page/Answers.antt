use Rattle.std.proofs.Common.{arith}
use Rattle.dk_meta.specs.Page.{IsPage, page_bytes, page_at}
use Rattle.dk_meta.proofs.PageLemmas.{page_field}
use Rattle.dk_meta.proofs.StringLemmas.{string_found, string_only}
use Rattle.dk_meta.proofs.page.read_page.Goals as goal

pub returns-clause-found : goal.returns-clause-found
returns-clause-found c =
    string_found (page_at c.args.columns) (IsPage c.args.columns) page_bytes (page_field c.args.columns) (λ x. x) c.whole_page.result c.args.bytes.now c.whole_page.ensures
    (λ i. omega (arith, c.type_inv.bytes i))

pub returns-clause-only : goal.returns-clause-only
returns-clause-only c =
    string_only (page_at c.args.columns) (IsPage c.args.columns) page_bytes (page_field c.args.columns) (λ x. x) c.whole_page.result c.args.bytes.now c.whole_page.ensures
