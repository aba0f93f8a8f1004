use Rattle.std.proofs.Common.{◌≡◌, ◌+◌, ◌-◌, ◌*◌}
use Rattle.requests.specs.Meaning.{pairs_from}
use Rattle.requests.proofs.pairs.check_pairs.Given as goal

-- judging what is left gives what judging all of them gives
abbrev pub invariant-loop-place : goal.invariant-loop-place
invariant-loop-place l =
    pairs_from l.file l.start l.place (l.lines - l.place) ≡ pairs_from l.file (2 + 6 * l.lines) 0 l.lines
