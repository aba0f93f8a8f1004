use Rattle.std.proofs.Common.{◌*◌, ◌≤◌, drop}
use Rattle.sharing.proofs.Sharing.{LeftToShare}
use Rattle.sharing.proofs.reading.Reading.judge.Given as goal

-- what is left of each sum; and whatever the book, the shares so far are within their percentages of the reading
abbrev pub invariant-loop-place : goal.invariant-loop-place
invariant-loop-place g l =
    let units = l.self.units in
    (g.B.AccountBook.sound l.book → LeftToShare units l.percentages l.shared (g.B.AccountBook.contents l.book).records (drop l.place (g.B.AccountBook.contents l.book).records))
    × (l.percentages ≤ 100000)
    × (l.shared * 100000 ≤ units * l.percentages)
