-- A line's first word says how the others are read.
use Rattle.std.proofs.Common.{◌≡◌, ℕ, false, List, ◌∷◌, Some, Ok, Err, Option, Result, MatchResult, IsOkAnd, arith}
use Rattle.std.specs.Option.{option_map, ok_or}
use Rattle.journal.specs.declared.keyword.Keyword.{Keyword}
use Rattle.journal.specs.declared.statement.Expected.TheVariants as what
use Rattle.journal.specs.declared.statement.ParseError.{ParseError}
use Rattle.journal.specs.declared.statement.ParseError.TheVariants.{Expected as expected}
use Rattle.journal.specs.declared.statement.Statement.{Statement}
use Rattle.journal.specs.Keywords.{keyword_of}
use Rattle.journal.specs.Meanings.{meaning, says, says_named, is_remark, words_say, Reads}
use Rattle.journal.specs.Words.{first, rest}

pub split : (xs : List (List ℕ)) (w : List ℕ) (ws : List (List ℕ)) → Some w ≡ first xs → ws ≡ rest xs → xs ≡ w ∷ ws
split xs w ws e k = grind arith

-- a line that is no remark says what its first word makes of the others
says_named_of : (xs : List (List ℕ)) (w : List ℕ) (ws : List (List ℕ)) (k : Option Keyword) → Some w ≡ first xs → ws ≡ rest xs → is_remark w ≡ false → keyword_of w ≡ k → words_say xs ≡ says_named k ws
says_named_of xs w ws k head tail plain named = grind (arith, split xs w ws head tail)

some_of_ok_or : {X E : Type 0} (o : Option X) (x : X) (e : E) → Ok x ≡ ok_or o e → o ≡ Some x
some_of_ok_or o x e h = grind arith

pub statement_read : (xs : List (List ℕ)) (w : List ℕ) (ws : List (List ℕ)) (k : Keyword) → Some w ≡ first xs → ws ≡ rest xs → is_remark w ≡ false → Ok k ≡ ok_or (keyword_of w) (expected what.Statement) → (r : Result Statement ParseError) → Reads meaning (says k ws) r → (q : Result (Option Statement) ParseError) → MatchResult r (λ s. IsOkAnd q (λ o. o ≡ Some s)) (λ e. q ≡ Err e) → Reads (option_map meaning) (words_say xs) q
statement_read xs w ws k head tail plain named r t q m =
    grind (arith, says_named_of xs w ws (Some k) head tail plain (some_of_ok_or _ _ _ named))

pub ruleset saying = (split, statement_read)
