use Rattle.dk_meta.proofs.PageLemmas.{columns_counted}
use Rattle.dk_meta.proofs.page.write_page.Goals as goal

pub put_page-requires-clause-counts : goal.put_page-requires-clause-counts
put_page-requires-clause-counts c =
    columns_counted c.args.page.now.rows c.args.page.now.columns c.requires.each
