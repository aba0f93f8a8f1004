-- The line of a refusal.
use Rattle.std.specs.Prelude.{ℕ, List, ◌++◌, codes, decimal}

-- `WORD: refused NUMBER place PLACE: reason`
abbrev pub refused_text : List ℕ → ℕ → ℕ → List ℕ → List ℕ
refused_text word n p reason =
    word ++ (codes ": refused " ++ (decimal n ++ (codes " place " ++ (decimal p ++ (codes ": " ++ reason)))))
