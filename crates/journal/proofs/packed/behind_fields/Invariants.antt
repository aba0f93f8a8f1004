use Rattle.std.proofs.Common.{◌≡◌, ◌≤◌, length}
use Rattle.journal.specs.Packed.{behind_fields}
use Rattle.journal.proofs.packed.behind_fields.Given as goal

-- as many fields are passed as turns were made
abbrev pub invariant-loop-field : goal.invariant-loop-field
invariant-loop-field l = (l.left ≡ behind_fields l._field l.text) × (length l.left ≤ length l.text)
