use Rattle.std.proofs.Common.{◌≡◌, ◌≤◌, drop}
use Rattle.journal.specs.Numbers.{digits_after, number_of}
use Rattle.journal.proofs.number.number.Given as goal

-- the digits that are left give the word's number
abbrev pub invariant-loop-b : goal.invariant-loop-b
invariant-loop-b l = (digits_after l.most l.n (drop l.b-index l.word) ≡ number_of l.most l.word) × (l.n ≤ l.most)
