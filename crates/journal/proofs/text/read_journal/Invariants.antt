use Rattle.std.proofs.Common.{◌≡◌, ◌+◌, ◌≤◌, length}
use Rattle.std.specs.Slice.Iter.{split_inclusive_rest}
use Rattle.journal.specs.Journals.{seen, empty, lines_of, read_on}
use Rattle.journal.proofs.text.read_journal.Given as goal

-- No more lines are read than bytes; and what is left, from here, comes to what the whole text comes to.
abbrev pub invariant-loop-line : goal.invariant-loop-line
invariant-loop-line l =
    record {
      can_next : (goal.iterator-loop-line).can_next l.line-iterator;
      finite : (goal.iterator-loop-line).is_finite l.line-iterator;
      counted : l.journal.lines + length (split_inclusive_rest l.line-iterator) ≤ length l.text;
      left : read_on (lines_of (split_inclusive_rest l.line-iterator)) (seen l.journal) ≡ read_on (lines_of l.text) empty;
    }
