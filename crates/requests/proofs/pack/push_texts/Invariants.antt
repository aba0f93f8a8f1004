use Rattle.std.proofs.Common.{◌≡◌, ◌++◌, map, drop, vec_items}
use Rattle.std.specs.List.{flat_map}
use Rattle.requests.specs.Packing.{item, text}
use Rattle.requests.proofs.pack.push_texts.Given as goal

-- with the lines that are left it is what all of them make
abbrev pub invariant-loop-filed_line : goal.invariant-loop-filed_line
invariant-loop-filed_line l =
    vec_items l.file ++ flat_map text (map item (drop l.filed_line-index l.lines)) ≡ vec_items l.initial.file ++ flat_map text (map item l.lines)
