use Rattle.std.proofs.Common.{◌≡◌, true, drop}
use Rattle.accounts.specs.Books.{Left, every}
use Rattle.accounts.specs.Ranges.{line_in_range}
use Rattle.ledger.specs.Lines.{FitsLines, enter_all}
use Rattle.ledger.proofs.enrolment.enter_lines.Given as goal

-- the lines left make the same of the records as all lines made of those at first, and there is room for their accounts
abbrev pub invariant-loop-line : goal.invariant-loop-line
invariant-loop-line g l =
    let b = g.B.AccountBook in
    let rs = (b.contents l.book).records in
    let left = drop l.line-index l.lines in
    b.sound l.initial.book → every line_in_range l.lines ≡ true → FitsLines (b.contents l.initial.book) l.lines → Left b.sound b.contents b.same_rest l.initial.book l.book rs × (enter_all rs left ≡ enter_all (b.contents l.initial.book).records l.lines) × FitsLines (b.contents l.book) left
