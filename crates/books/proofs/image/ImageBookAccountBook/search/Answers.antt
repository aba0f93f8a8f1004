use Rattle.std.proofs.Common.{is_some, ap, ◌∙◌}
use Rattle.accounts.specs.Books.{accounts}
use Rattle.accounts.proofs.Finding.{found_present}
use Rattle.books.specs.Holding.{records_of}
use Rattle.books.proofs.ImagePlaces.{found_held}
use Rattle.books.proofs.Opening.{legible_opened}
use Rattle.books.proofs.image.ImageBookAccountBook.search.Goals as goal

pub returns : goal.returns
returns c =
    let b = c.args.self.now in
    let l = legible_opened b.image.now b.count b.reads.same_count in
    let e = c.place_of.ensures ∙ found_held b.image.now b.count c.args.account l.0 l.1 in
    record { found = e; test = ap is_some e ∙ found_present c.args.account 0 (accounts (records_of b)) }
