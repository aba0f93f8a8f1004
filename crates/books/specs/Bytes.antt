-- Parts of bytes.
use Rattle.std.specs.Prelude.{ℕ, ◌+◌, List, ◌++◌, length, take, drop}

-- so many bytes from a place on
abbrev pub part : ℕ → ℕ → List ℕ → List ℕ
part at width bs = take width (drop at bs)

-- bytes with others put over them from a place on
abbrev pub written : ℕ → List ℕ → List ℕ → List ℕ
written at new bs = take at bs ++ (new ++ drop (at + length new) bs)
