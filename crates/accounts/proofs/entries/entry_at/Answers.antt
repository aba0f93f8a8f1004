use Rattle.std.proofs.Common.{sym, ◌∙◌}
use Rattle.accounts.proofs.Locating.{found_some, in_book, located}
use Rattle.accounts.proofs.entries.entry_at.Goals as goal

pub returns-in-Some-clause-located : goal.returns-in-Some-clause-located
returns-in-Some-clause-located g c a s e =
    located a c.args.place _ _ c.in-Some.holder (g.B.AccountBook.proper c.args.book.now s) e (sym (c.in-Some.ensures s))

pub returns-in_default-clause-value : goal.returns-in_default-clause-value
returns-in_default-clause-value g c s =
    absurd (in_book c.args.place _ _ c.in-Some.holder (g.B.AccountBook.proper c.args.book.now s) (sym (c.in-Some.ensures s)) c.if-in_range.ensures)

pub returns-in_default-clause-located : goal.returns-in_default-clause-located
returns-in_default-clause-located g c a s e =
    in_book c.args.place _ _ c.in-Some.holder (g.B.AccountBook.proper c.args.book.now s) (sym (c.in-Some.ensures s)) c.if-in_range.ensures

pub returns-in_default-2-clause-located : goal.returns-in_default-2-clause-located
returns-in_default-2-clause-located g c a s e =
    found_some a c.args.place _ e (sym (c.get.ensures s) ∙ c.in_default.is)
