-- What the lines of a request make of the records: who has a record and which, how many there are, and their sums.
use Rattle.std.proofs.Common.{◌≡◌, ℕ, ◌+◌, ◌≤◌, true, false, cond, eqb, List, [], ◌∷◌, length, is_some, Some, None, Option, sym, refl, ◌∙◌, arith, sum_by}
use Rattle.std.proofs.lemmas.List.{length_push, map_push}
use Rattle.std.proofs.lemmas.Bool.Decides.{nat_tests}
use Rattle.accounts.proofs.Finding.{present_push}
use Rattle.accounts.specs.declared.record.Line.{Line}
use Rattle.accounts.specs.declared.record.Record.{Record}
use Rattle.accounts.specs.Books.{accounts, present, distinct}
use Rattle.ledger.specs.Lines.{enter, enter_all, is_new, joins, line_accounts, new_accounts}
use Rattle.ledger.specs.Records.{allocated, joining}
use Rattle.accounts.specs.Records.{record_of}
use Rattle.accounts.proofs.Found.{found_account, push_found, put_found, put_length, put_sum, present_found, accounts_put}
use Rattle.std.proofs.lemmas.List.Sums.{sum_by-cons, sum_by_push}

-- a line's values for an account that has a record, or has none
abbrev pub placed : Line → Option Record → Record
placed l None = joining l
placed l (Some r) = allocated l r

-- what the lines make of an account's record
abbrev pub entry : ℕ → List Line → Option Record → Option Record
entry a [] o = o
entry a (l ∷ ls) o = cond (eqb l.account a) (Some (placed l o)) (entry a ls o)

entry_other : (a : ℕ) (ls : List Line) (o : Option Record) → present a (line_accounts ls) ≡ false → entry a ls o ≡ o
entry_other a [] o e = refl
entry_other a (l ∷ ls) o e = let ih = entry_other a ls o in grind (arith, nat_tests)

enter_found : (a : ℕ) (rs : List Record) (l : Line) (o : Option Record) → record_of l.account rs ≡ o → record_of a (enter o rs l) ≡ cond (eqb l.account a) (Some (placed l o)) (record_of a rs)
enter_found a rs l None e = push_found a (joining l) rs e
enter_found a rs l (Some r) e =
    put_found a l.account (allocated l r) rs r (found_account l.account rs r e) e

-- each account's record after all lines are entered, none of them repeated
pub entered_found : (a : ℕ) (rs : List Record) (ls : List Line) → distinct (line_accounts ls) ≡ true → record_of a (enter_all rs ls) ≡ entry a ls (record_of a rs)
entered_found a rs [] e = refl
entered_found a rs (l ∷ ls) e =
    let one = enter_found a rs l (record_of l.account rs) refl in
    let rest = entered_found a (enter (record_of l.account rs) rs l) ls in
    let other = entry_other l.account ls (Some (placed l (record_of l.account rs))) in
    grind (arith, nat_tests)

-- no account is lost, and a record joins only for a new one
enter_present : (a : ℕ) (rs : List Record) (l : Line) (o : Option Record) → present a (accounts rs) ≡ true → present a (accounts (enter o rs l)) ≡ true
enter_present a rs l None p =
    let e = present_push a l.account (accounts rs) in
    rw map_push (grind (arith, nat_tests))
enter_present a rs l (Some r) p = rw accounts_put p

enter_length : (rs₀ rs : List Record) (l : Line) (o : Option Record) → (present l.account (accounts rs₀) ≡ true → is_some o ≡ true) → length (enter o rs l) ≤ length rs + cond (is_new rs₀ l) 1 0
enter_length rs₀ rs l None sub = let n = length_push rs (joining l) in grind (arith, nat_tests)
enter_length rs₀ rs l (Some r) sub = omega (arith, put_length (allocated l r) rs)

-- the lines enter no more records than there are new accounts
pub entered_length : (rs₀ rs : List Record) (ls : List Line) → ((a : ℕ) → present a (accounts rs₀) ≡ true → present a (accounts rs) ≡ true) → length (enter_all rs ls) ≤ length rs + new_accounts rs₀ ls
entered_length rs₀ rs [] sub = omega arith
entered_length rs₀ rs (l ∷ ls) sub =
    let o : Option Record = record_of l.account rs in
    let one = enter_length rs₀ rs l o (λ p. sym (present_found l.account rs) ∙ sub l.account p) in
    let ih = entered_length rs₀ (enter o rs l) ls (λ a p. enter_present a rs l o (sub a p)) in
    omega (arith, sum_by-cons (joins rs₀) l ls)

enter_percentages : (rs : List Record) (l : Line) (o : Option Record) → record_of l.account rs ≡ o → sum_by (λ r. r.percentage) (enter o rs l) ≤ sum_by (λ r. r.percentage) rs + l.percentage
enter_percentages rs l None e = omega (arith, sum_by_push (λ r. r.percentage) rs (joining l))
enter_percentages rs l (Some r) e =
    omega (arith, put_sum (λ r. r.percentage) l.account (allocated l r) rs r (found_account l.account rs r e) e)

pub entered_percentages : (rs : List Record) (ls : List Line) → sum_by (λ r. r.percentage) (enter_all rs ls) ≤ sum_by (λ r. r.percentage) rs + sum_by (λ l. l.percentage) ls
entered_percentages rs [] = omega arith
entered_percentages rs (l ∷ ls) =
    let one = enter_percentages rs l (record_of l.account rs) refl in
    let ih = entered_percentages (enter (record_of l.account rs) rs l) ls in
    omega (arith, sum_by-cons (λ (x : Line). x.percentage) l ls)

enter_held : (rs : List Record) (l : Line) (o : Option Record) → record_of l.account rs ≡ o → sum_by (λ r. r.held) (enter o rs l) ≡ sum_by (λ r. r.held) rs
enter_held rs l None e = omega (arith, sum_by_push (λ r. r.held) rs (joining l))
enter_held rs l (Some r) e =
    omega (arith, put_sum (λ r. r.held) l.account (allocated l r) rs r (found_account l.account rs r e) e)

pub entered_held : (rs : List Record) (ls : List Line) → sum_by (λ r. r.held) (enter_all rs ls) ≡ sum_by (λ r. r.held) rs
entered_held rs [] = refl
entered_held rs (l ∷ ls) =
    entered_held (enter (record_of l.account rs) rs l) ls ∙ enter_held rs l (record_of l.account rs) refl
