use Rattle.books.proofs.Pinning.{table_pinned, table_stays_whole}
use Rattle.books.proofs.table.TableBook.new.Goals as goal

pub returns-clause-pinned : goal.returns-clause-pinned
returns-clause-pinned c = table_pinned

pub returns-clause-whole : goal.returns-clause-whole
returns-clause-whole c = table_stays_whole
