-- The words of a line.
use Rattle.std.specs.Prelude.{◌≡◌, ℕ, zero, suc, Bool, true, false, cond, not, ◌||◌, List, [], ◌∷◌, ◌++◌, drop, Some, None, Option, ◌==◌}
use Rattle.std.specs.List.{prefix_len}

-- a space, or a line's end: a carriage return or a line feed
abbrev pub is_space : ℕ → Bool
is_space b = b == 32 || (b == 13 || b == 10)

abbrev pub in_run : Bool → ℕ → Bool
in_run spaces b = cond spaces (is_space b) (not (is_space b))

-- a word is not empty
abbrev pub closed : List ℕ → List (List ℕ) → List (List ℕ)
closed [] ws = ws
closed (b ∷ w) ws = (b ∷ w) ∷ ws

-- a space ends the word so far, and any other byte joins it
unfoldable pub words_from : List ℕ → List ℕ → List (List ℕ)
words_from w [] = closed w []
words_from w (b ∷ bs) = cond (is_space b) (closed w (words_from [] bs)) (words_from (w ++ b ∷ []) bs)

abbrev pub words : List ℕ → List (List ℕ)
words bs = words_from [] bs

abbrev pub first : List (List ℕ) → Option (List ℕ)
first [] = None
first (w ∷ ws) = Some w

abbrev pub rest : List (List ℕ) → List (List ℕ)
rest [] = []
rest (w ∷ ws) = ws

-- the words behind the first n
abbrev pub rest_from : ℕ → List (List ℕ) → List (List ℕ)
rest_from zero ws = ws
rest_from (suc n) ws = rest_from n (rest ws)

-- what is left of a line behind its first word, and behind its first n
abbrev pub after_run : Bool → List ℕ → List ℕ
after_run spaces bs = drop (prefix_len (in_run spaces) bs) bs

abbrev pub after_word : List ℕ → List ℕ
after_word bs = after_run false (after_run true bs)

-- what is left of a line, old and new, once its first word is taken
abbrev pub WordTaken : List ℕ → List ℕ → Type 0
WordTaken old new = (words new ≡ rest (words old)) × (new ≡ after_word old)

abbrev pub after_words : ℕ → List ℕ → List ℕ
after_words zero bs = bs
after_words (suc n) bs = after_words n (after_word bs)
