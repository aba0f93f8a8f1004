use Rattle.std.proofs.Common.{◌≡◌, ◌+◌, ◌*◌, ◌≤◌, map, length, drop}
use Rattle.std.specs.List.{flat_map}
use Rattle.requests.specs.Packing.{item, text, items_from}
use Rattle.requests.proofs.pack.check.Given as goal

-- judging what is left gives what judging all of them gives; what is left makes up the size
abbrev pub invariant-loop-place : goal.invariant-loop-place
invariant-loop-place l =
    (items_from l.place (map item (drop l.place l.lines)) ≡ items_from 0 (map item l.lines))
    × (l.size + length (flat_map text (map item (drop l.place l.lines))) ≡ 2 + 6 * length l.lines + length (flat_map text (map item l.lines)))
    × (l.size ≤ 8000 + 110 * l.place)
