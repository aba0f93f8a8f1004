use Rattle.std.proofs.Common.{rules}
use Rattle.books.proofs.Opening.{reads_opened}
use Rattle.books.proofs.extent.Extent.open.Goals as goal

pub returns-clause-reads : goal.returns-clause-reads
returns-clause-reads c = reads_opened c.args.image.now _ _ (search rules) (search rules)
