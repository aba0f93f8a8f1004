-- A line's first word and what is left behind it.
use Rattle.std.proofs.Common.{◌≡◌, ℕ, ◌+◌, ◌<◌, true, false, List, [], ◌∷◌, ◌++◌, length, take, drop, sym, refl, ap, ◌∙◌, append_assoc, append-nil, one-add, arith}
use Rattle.std.proofs.lemmas.List.{take_rest}
use Rattle.std.proofs.lemmas.List.Folds.{length-prefix_len}
use Rattle.std.specs.List.{prefix_len}
use Rattle.journal.specs.Words.{in_run, closed, words_from, words}

drop_next : (n b : ℕ) (bs : List ℕ) → drop (1 + n) (b ∷ bs) ≡ drop n bs
drop_next n b bs = rw one-add refl

take_next : (n b : ℕ) (bs : List ℕ) → take (1 + n) (b ∷ bs) ≡ b ∷ take n bs
take_next n b bs = rw one-add refl

-- spaces ahead of the first word do not matter
pub skip : (bs : List ℕ) → words (drop (prefix_len (in_run true) bs) bs) ≡ words bs
unfolding words_from
skip [] = refl
skip (b ∷ bs) = grind (arith, skip bs, drop_next)

-- a word goes on to the next space
pub gather : (w bs : List ℕ) → words_from w bs ≡ closed (w ++ take (prefix_len (in_run false) bs) bs) (words (drop (prefix_len (in_run false) bs) bs))
unfolding words_from
gather w [] = ap (λ x. closed x []) (sym (append-nil w))
gather w (b ∷ bs) = grind (arith, gather (w ++ b ∷ []) bs, append_assoc, append-nil, drop_next, take_next)

-- behind the spaces a word begins, or the line ends
pub begins : (bs : List ℕ) → prefix_len (in_run false) (drop (prefix_len (in_run true) bs) bs) ≡ 0 → drop (prefix_len (in_run true) bs) bs ≡ []
begins [] = λ h. refl
begins (b ∷ bs) = λ h. grind (arith, begins bs, drop_next)

pub closed_some : (w : List ℕ) (ws : List (List ℕ)) → 0 < length w → closed w ws ≡ w ∷ ws
closed_some w ws h = grind arith

-- what is left behind the spaces, and the word at its front
abbrev pub front : List ℕ → List ℕ
front bs = drop (prefix_len (in_run true) bs) bs

abbrev pub front_len : List ℕ → ℕ
front_len bs = prefix_len (in_run false) (front bs)

words_cut : (bs : List ℕ) → words bs ≡ closed (take (front_len bs) (front bs)) (words (drop (front_len bs) (front bs)))
words_cut bs = sym (skip bs) ∙ gather [] (front bs)

long : (bs : List ℕ) → length (take (front_len bs) (front bs)) ≡ front_len bs
long bs = length-prefix_len (in_run false) (front bs)

pub word_first : (bs : List ℕ) → 0 < front_len bs → words bs ≡ take (front_len bs) (front bs) ∷ words (drop (front_len bs) (front bs))
word_first bs h = words_cut bs ∙ closed_some (take (front_len bs) (front bs)) _ (omega (arith, long bs))

pub word_none : (bs : List ℕ) → front_len bs ≡ 0 → (words bs ≡ []) × (words (drop (front_len bs) (front bs)) ≡ [])
unfolding words_from
word_none bs h =
    let nil : front bs ≡ [] = begins bs h in
    (sym (skip bs) ∙ ap words nil, rw h (ap words nil))

pub ruleset cuts = (word_first, word_none, take_rest)
