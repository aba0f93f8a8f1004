use Rattle.std.proofs.Common.{◌≡◌, ◌≤◌, ◌++◌, length, drop, vec_items, vec_len, vec_capacity}
use Rattle.accounts.specs.Books.{Kept}
use Rattle.ledger.specs.Views.{view}
use Rattle.ledger_run.specs.Laws.{after, answers}
use Rattle.ledger_run.proofs.run.run.Given as goal

-- what the calls left come to, from here, is what all calls come to from the start
abbrev pub invariant-loop-call : goal.invariant-loop-call
invariant-loop-call g l =
    let b = g.B.AccountBook in
    let worth = g.M.CreditMethod.worth in
    let start = view l.initial.ledger (b.contents l.initial.book) in
    let here = view l.ledger (b.contents l.book) in
    let left = drop l.call-index l.calls in
    (b.sound l.initial.book → Kept b.sound b.contents b.same_rest l.initial.book l.book × (after worth here left ≡ after worth start l.calls) × (vec_items l.answers ++ answers worth here left ≡ answers worth start l.calls))
    × (vec_len l.answers ≡ l.call-index)
    × (length l.calls ≤ vec_capacity l.answers)
