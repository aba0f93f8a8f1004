use Rattle.books.proofs.TablePlaces.{proper_added}
use Rattle.books.proofs.table.TableBook.push.Goals as goal

pub invariant_of-self-clause-proper : goal.invariant_of-self-clause-proper
invariant_of-self-clause-proper c = let b = c.args.self.now in proper_added b.table.now b.count c.args.new b.proper c.requires
