-- A text of lines and remarks, as it is packed into a request file.
use Rattle.std.specs.Prelude.{ℕ, zero, suc, Bool, true, false, cond, not, List, [], ◌∷◌, ◌-◌, length, take, drop, Some, None, Ok, Option, Result, ◌==◌}
use Rattle.std.specs.List.{prefix_len}
use Rattle.accounts.specs.declared.record.Line.{Line}
use Rattle.journal.specs.declared.statement.ParseError.{ParseError}
use Rattle.journal.specs.Fields.{line_of}
use Rattle.journal.specs.Results.{and_then}
use Rattle.journal.specs.Words.{words}

-- an empty line says nothing, nor one that begins with `#`
abbrev pub says_nothing : List ℕ → Bool
says_nothing [] = true
says_nothing (b ∷ bs) = b == 35

-- spaces alone divide the fields of a line, and may stand ahead of the first
abbrev pub in_gap : Bool → ℕ → Bool
in_gap spaces b = cond spaces (b == 32) (not (b == 32))

abbrev pub behind_gap : Bool → List ℕ → List ℕ
behind_gap spaces bs = drop (prefix_len (in_gap spaces) bs) bs

-- what is left of a line behind its first field, and behind its first n
abbrev pub behind_field : List ℕ → List ℕ
behind_field bs = behind_gap false (behind_gap true bs)

abbrev pub behind_fields : ℕ → List ℕ → List ℕ
behind_fields zero bs = bs
behind_fields (suc n) bs = behind_field (behind_fields n bs)

-- the six fields of a line, and the host's remark behind them and a space
abbrev pub fields_of : List ℕ → List ℕ
fields_of bs = take (length bs - length (behind_fields 6 bs)) bs

abbrev pub remark_of : List ℕ → List ℕ
remark_of bs = drop 1 (behind_fields 6 bs)

-- the fields are read as the words of a journal's `line`
abbrev pub packed_of : List ℕ → Result (Option (Line × List ℕ)) ParseError
packed_of bs = cond (says_nothing bs) (Ok None) (and_then (line_of (words (fields_of bs))) λ line. Ok (Some (line, remark_of bs)))
