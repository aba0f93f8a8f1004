use Rattle.std.proofs.Common.{◌≡◌, map, drop}
use Rattle.journal.specs.Orders.{ordered, placed, head_of}
use Rattle.journal.proofs.order.read_head.Given as goal

-- the statements that are left, from here, come to what all come to from the start
abbrev pub invariant-loop-stated : goal.invariant-loop-stated
invariant-loop-stated l =
    ordered l.end (map placed (drop l.stated-index l.statements)) l.stage ≡ head_of l.end (map placed l.statements)
