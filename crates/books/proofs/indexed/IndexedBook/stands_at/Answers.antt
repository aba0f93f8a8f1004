use Rattle.std.proofs.Common.{rules, tests, ◌∙◌}
use Rattle.books.proofs.Standing.{answered, standing}
use Rattle.books.proofs.indexed.IndexedBook.stands_at.Goals as goal

pub returns : goal.returns
returns g c = λ s.
    let b = g.B.AccountBook in
    let book = c.args.self.now.book.now in
    answered c.args.account _ _ _ c.is_some_and.ensures (λ r h. search (rules, tests))
    ∙ standing c.args.account c.args.place (b.contents book).records _ (b.proper book s).apart (c.get.ensures s)
