use Rattle.accounts.specs.declared.record.Record.{Record}
use Rattle.accounts.specs.Books.{Left}
use Rattle.accounts.specs.Records.{Changes}
use Rattle.accounts.proofs.Replacing.{over}
use Rattle.accounts.proofs.entries.replace_each.Given as goal

abbrev pub invariant-loop-place : goal.invariant-loop-place
invariant-loop-place g l =
    let b = g.B.AccountBook in
    let rs = (b.contents l.initial.book).records in
    b.sound l.initial.book → (f : Record → Record) → Changes (goal.F-post g l.change) f rs → Left b.sound b.contents b.same_rest l.initial.book l.book (over f rs l.place)
