use Rattle.std.proofs.Common.{◌≡◌, true}
use Rattle.requests.specs.Form.{all_digits, number}
use Rattle.requests.proofs.field.number.Given as goal

-- what is gathered is the number of the digits so far
abbrev pub invariant-loop-byte : goal.invariant-loop-byte
invariant-loop-byte l =
    (l.gathered ≡ number l.line l.at l.byte-index) × (all_digits l.line l.at l.byte-index ≡ true)
