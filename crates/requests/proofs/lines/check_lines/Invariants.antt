use Rattle.std.proofs.Common.{◌≡◌, ◌-◌}
use Rattle.requests.specs.Meaning.{lines_from, checked}
use Rattle.requests.proofs.lines.check_lines.Given as goal

-- judging what is left gives what judging all of them gives
abbrev pub invariant-loop-place : goal.invariant-loop-place
invariant-loop-place l =
    checked (lines_from l.file l.place (l.lines - l.place)) ≡ checked (lines_from l.file 0 l.lines)
