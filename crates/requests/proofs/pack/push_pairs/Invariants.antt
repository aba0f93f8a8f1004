use Rattle.std.proofs.Common.{◌≡◌, ◌+◌, ◌*◌, ◌++◌, map, length, drop, vec_items}
use Rattle.std.specs.List.{flat_map}
use Rattle.requests.specs.Packing.{item, text, pairs}
use Rattle.requests.proofs.pack.push_pairs.Given as goal

-- with the pairs that are left it is what all of them make, and the lines that are left end where the file does
abbrev pub invariant-loop-filed_line : goal.invariant-loop-filed_line
invariant-loop-filed_line l =
    (vec_items l.file ++ pairs l.at (map item (drop l.filed_line-index l.lines)) ≡ vec_items l.initial.file ++ pairs (2 + 6 * length l.lines) (map item l.lines))
    × (l.at + length (flat_map text (map item (drop l.filed_line-index l.lines))) ≡ 2 + 6 * length l.lines + length (flat_map text (map item l.lines)))
