-- The form of a request file in numbers, each once. The code has the same numbers in `requests::limits`; the most lines
-- of a file are `most_lines` of `base`.
use Rattle.std.specs.Prelude.{ℕ, ◌+◌}

-- the most bytes of a file
abbrev pub most_file : ℕ
most_file = 65_535

-- the bytes of the line count, with which a file begins; no file is shorter
abbrev pub count_bytes : ℕ
count_bytes = 2

-- the bytes of a pair: four of offset, two of length
abbrev pub pair_bytes : ℕ
pair_bytes = 6

-- the bytes of a line's fields, and of a whole line without a remark
abbrev pub field_bytes : ℕ
field_bytes = 30

-- the most bytes of a remark
abbrev pub most_remark : ℕ
most_remark = 79

-- the most bytes of a line: a space stands before the remark
abbrev pub most_line : ℕ
most_line = field_bytes + 1 + most_remark

-- the digits of each number of a line
abbrev pub account_digits : ℕ
account_digits = 11

abbrev pub percentage_digits : ℕ
percentage_digits = 6

abbrev pub savings_digits : ℕ
savings_digits = 4

abbrev pub class_digits : ℕ
class_digits = 2
