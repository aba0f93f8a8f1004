-- What the chains over the lines of a request come to.
use Rattle.std.proofs.Common.{◌≡◌, ℕ, ◌+◌, Bool, true, false, cond, ◌||◌, eqb, is_some, List, [], ◌∷◌, ◌++◌, length, take, Some, refl, ap, ◌∙◌, append_assoc}
use Rattle.std.proofs.lemmas.List.{length_push, map_push}
use Rattle.std.proofs.Math.Seq.{take-append_seam}
use Rattle.std.specs.List.{enumerate_from, list_any, position_from}
use Rattle.accounts.specs.declared.record.Kind.TheVariants.{Member}
use Rattle.accounts.specs.declared.record.Line.{Line}
use Rattle.accounts.specs.declared.record.Size.TheVariants.{Small}
use Rattle.accounts.specs.Books.{present}
use Rattle.ledger.specs.Lines.{line_accounts, repeated_from}

-- a search by place finds one where an element passes
pub found_any : {X : Type 0} (t : X → Bool) (j : ℕ) (xs : List X) → is_some (position_from t j xs) ≡ list_any t xs
found_any t j [] = refl
found_any t j (x ∷ xs) =
    elim (t x) as (λ b. is_some (cond b (Some j) (position_from t (j + 1) xs)) ≡ (b || list_any t xs)) [ true ↦ refl | false ↦ found_any t (j + 1) xs ]

-- what a place past the end reads as
abbrev pub zero_line : Line
zero_line = record { account = 0; percentage = 0; savings = 0; class = 0; size = Small; kind = Member }

-- the account of a line stands on one of those ahead of it
abbrev pub repeats : List Line → ℕ × Line → Bool
repeats ls p = list_any (λ l. eqb l.account p.1.account) (take p.0 ls)

any_present : (a : ℕ) (ls : List Line) → list_any (λ l. eqb l.account a) ls ≡ present a (line_accounts ls)
any_present a [] = refl
any_present a (l ∷ ls) = ap (λ b. eqb l.account a || b) (any_present a ls)

repeated_on : (ahead later : List Line) → position_from (repeats (ahead ++ later)) (length ahead) (enumerate_from (length ahead) later) ≡ repeated_from (length ahead) (line_accounts ahead) (line_accounts later)
repeated_on ahead [] = refl
repeated_on ahead (l ∷ later) =
    let here : repeats (ahead ++ l ∷ later) (length ahead, l) ≡ present l.account (line_accounts ahead) =
    ap (list_any (λ (x : Line). eqb x.account l.account)) (take-append_seam ahead (l ∷ later)) ∙ any_present l.account ahead in
    rw here
    (ap (cond (present l.account (line_accounts ahead)) (Some (length ahead)))
    (simp (append_assoc, length_push, map_push) at (repeated_on (ahead ++ l ∷ []) later)))

-- so the search for such a line finds the first account that is repeated
pub first_is_repeated : (ls : List Line) → position_from (repeats ls) 0 (enumerate_from 0 ls) ≡ repeated_from 0 [] (line_accounts ls)
first_is_repeated ls = repeated_on [] ls
