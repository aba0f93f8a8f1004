-- Whatever a line says is read again when it is written.
use Rattle.std.proofs.Common.{◌≡◌, ℕ, true, false, not, List, [], ◌∷◌, ◌++◌, Some, None, Ok, Option, refl, arith}
use Rattle.std.proofs.lemmas.Bool.{and_parts, cond_both}
use Rattle.journal.specs.declared.keyword.Keyword.{Keyword}
use Rattle.journal.specs.Fields.{request_of}
use Rattle.journal.specs.Keywords.{keyword_of}
use Rattle.journal.specs.Meanings.{Meaning, says, says_named, statement_of, words_say}
use Rattle.journal.specs.Texts.{no_space, is_word, readable}
use Rattle.journal.specs.Words.{is_space, closed, words_from, words}
use Rattle.journal.proofs.Again.{AreWords}

more : (w : List ℕ) (b : ℕ) → no_space w ≡ true → is_space b ≡ false → no_space (w ++ b ∷ []) ≡ true
more [] b h e = grind (arith, e)
more (x ∷ w) b h e =
    let p = and_parts (not (is_space x)) (no_space w) h in
    grind (arith, p, more w b p.1 e)

closed_words : (w : List ℕ) (ws : List (List ℕ)) → no_space w ≡ true → AreWords ws → AreWords (closed w ws)
closed_words [] ws h a = a
closed_words (b ∷ w) ws h a = (grind (arith, h), a)

-- each word of a line is one
are_words : (w bs : List ℕ) → no_space w ≡ true → AreWords (words_from w bs)
unfolding words_from
are_words w [] h = closed_words w [] h tt
are_words w (b ∷ bs) h =
    cond_both (is_space b) (closed w (words_from [] bs)) (words_from (w ++ b ∷ []) bs) AreWords
    (λ _. closed_words w (words_from [] bs) h (are_words [] bs refl))
    (λ e. are_words (w ++ b ∷ []) bs (more w b h e))

request : (ws : List (List ℕ)) (name : List ℕ) → AreWords ws → request_of ws ≡ Ok name → is_word name ≡ true
request [] name a e = grind (arith, e)
request (w ∷ ws) name a e = grind (arith, e, a)

by_keyword : (k : Keyword) (ws : List (List ℕ)) (m : Meaning) → AreWords ws → says k ws ≡ Ok m → readable m ≡ true
by_keyword k ws m a e = grind (arith, e, a, request)

named : (o : Option Keyword) (ws : List (List ℕ)) (m : Meaning) → AreWords ws → says_named o ws ≡ Ok (Some m) → readable m ≡ true
named None ws m a e = grind (arith, e)
named (Some k) ws m a e = grind (arith, e, by_keyword k ws m a)

by_words : (ws : List (List ℕ)) (m : Meaning) → AreWords ws → words_say ws ≡ Ok (Some m) → readable m ≡ true
by_words [] m a e = grind (arith, e)
by_words (w ∷ ws) m a e = grind (arith, e, named (keyword_of w) ws m a.1)

pub says_readable : (bs : List ℕ) (m : Meaning) → statement_of bs ≡ Ok (Some m) → readable m ≡ true
says_readable bs m e = by_words (words bs) m (are_words [] bs refl) e
