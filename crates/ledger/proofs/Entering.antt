-- What the lines of a request make of the records.
use Rattle.std.proofs.Common.{◌≡◌, ℕ, zero, suc, ◌+◌, ◌<◌, ◌≤◌, true, false, cond, not, List, [], ◌∷◌, ◌++◌, map, length, get_or, is_some, Some, None, Option, sym, refl, ap, ◌∙◌, arith, count_by}
use Rattle.std.proofs.lemmas.Bool.{and_parts}
use Rattle.std.proofs.lemmas.List.{length_push, map_push}
use Rattle.std.proofs.lemmas.List.Sums.{sum_by-cons}
use Rattle.std.proofs.lemmas.Bool.Decides.{nat_tests}
use Rattle.std.specs.List.{position_from}
use Rattle.accounts.proofs.Finding.{found_present, present_push}
use Rattle.accounts.specs.Books.{accounts, find, present, takes, every}
use Rattle.accounts.specs.declared.record.Line.{Line}
use Rattle.accounts.specs.declared.record.Record.{Record}
use Rattle.accounts.specs.Ranges.{in_range, line_in_range}
use Rattle.ledger.specs.Lines.{joins, new_accounts, enter}
use Rattle.accounts.proofs.Found.{present_found, accounts_put, put_length}
use Rattle.ledger.proofs.Scanning.{zero_line}
use Rattle.accounts.specs.Records.{record_of}
use Rattle.ledger.specs.Records.{unallocated, allocated, joining}

pub unallocated_in_range : (r : Record) → in_range r ≡ true → in_range (unallocated r) ≡ true
unallocated_in_range r h = grind (arith, nat_tests)

pub joining_in_range : (l : Line) → line_in_range l ≡ true → in_range (joining l) ≡ true
joining_in_range l k = grind (arith, nat_tests)

-- an account that a search does not find is not present
pub absent : (a : ℕ) (rs : List Record) → find a (accounts rs) ≡ None → present a (accounts rs) ≡ false
absent a rs e = sym (found_present a 0 (accounts rs)) ∙ ap is_some e

joins_absent : (rs : List Record) (l : Line) → present l.account (accounts rs) ≡ false → joins rs l ≡ 1
joins_absent rs l p = ap (λ b. cond (not b) 1 0) p

-- a new account is taken where there is room for it
pub takes_joining : (rs : List Record) (room : ℕ) (l : Line) → line_in_range l ≡ true → length rs + joins rs l ≤ room → present l.account (accounts rs) ≡ false → takes rs room (joining l) ≡ true
takes_joining rs room l k fits p =
    let one = joins_absent rs l p in
    let ranged = joining_in_range l k in
    grind (arith, nat_tests)

push_new : (rs : List Record) (r : Record) (ls : List Line) → new_accounts (rs ++ r ∷ []) ls ≤ new_accounts rs ls
push_new rs r [] = omega arith
push_new rs r (l ∷ ls) =
    let ih = push_new rs r ls in
    let all = sum_by-cons (joins rs) l ls in
    let more = sum_by-cons (joins (rs ++ r ∷ [])) l ls in
    let p = ap (present l.account) (map_push (λ (x : Record). x.account) rs r) ∙ present_push l.account r.account (accounts rs) in
    grind (arith, nat_tests)

-- one line entered: there is room for the new accounts of the lines left
pub enter_fits : (rs : List Record) (l : Line) (ls : List Line) (room : ℕ) (o : Option Record) → record_of l.account rs ≡ o → length rs + new_accounts rs (l ∷ ls) ≤ room → length (enter o rs l) + new_accounts (enter o rs l) ls ≤ room
enter_fits rs l ls room None e h =
    let p : present l.account (accounts rs) ≡ false = present_found l.account rs ∙ ap is_some e in
    omega (arith, joins_absent rs l p, sum_by-cons (joins rs) l ls, length_push rs (joining l), push_new rs (joining l) ls)
enter_fits rs l ls room (Some r) e h =
    let n = put_length (allocated l r) rs in
    let all = sum_by-cons (joins rs) l ls in
    let a = ap (λ xs. count_by (λ (x : Line). not (present x.account xs)) ls) (accounts_put (allocated l r) rs) in
    omega arith

-- lines of which none is out of range
pub none_out : (i : ℕ) (ls : List Line) → position_from (λ l. not (line_in_range l)) i ls ≡ None → every line_in_range ls ≡ true
none_out i [] e = refl
none_out i (l ∷ ls) e =
    let ih = none_out (i + 1) ls in
    grind arith

pub every_at : (ls : List Line) (i : ℕ) → i < length ls → every line_in_range ls ≡ true → line_in_range (get_or ls i zero_line) ≡ true
every_at [] i h e = absurd (omega arith)
every_at (l ∷ ls) zero h e = (and_parts (line_in_range l) (every line_in_range ls) e).0
every_at (l ∷ ls) (suc i) h e = every_at ls i (omega arith) (and_parts (line_in_range l) (every line_in_range ls) e).1

-- taking percentages away leaves the accounts
pub unallocated_accounts : (rs : List Record) → accounts (map unallocated rs) ≡ accounts rs
unallocated_accounts [] = refl
unallocated_accounts (r ∷ rs) = ap (λ xs. r.account ∷ xs) (unallocated_accounts rs)
