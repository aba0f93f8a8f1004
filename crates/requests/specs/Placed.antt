-- What a pair that fits tells of its line.
use Rattle.std.specs.Prelude.{ℕ, ◌≤◌}
use Rattle.requests.specs.declared.pairs.Pair.{Pair}
use Rattle.requests.specs.Limits.{field_bytes}
use Rattle.requests.specs.Meaning.{end_of}

-- a line with all its fields, within the file
pub record Placed (size : ℕ) (p : Pair) : Type 0 where
  pub long : field_bytes ≤ p.length
  pub inside : end_of p ≤ size
