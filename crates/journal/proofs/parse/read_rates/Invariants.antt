use Rattle.std.proofs.Common.{◌≡◌, [], length, vec_items}
use Rattle.journal.specs.Fields.{rates_from}
use Rattle.journal.specs.Words.{words}
use Rattle.journal.proofs.parse.read_rates.Given as goal

-- the words that are left give the line's rates
abbrev pub invariant-loop-word : goal.invariant-loop-word
invariant-loop-word l = rates_from (vec_items l.rates) (words l.line.left.now) ≡ rates_from [] (words l.initial.line.left.now)

abbrev pub decreases-loop-word : goal.decreases-loop-word
decreases-loop-word l = length (words l.line.left.now)
