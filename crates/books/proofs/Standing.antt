-- In a list with no account twice, an account that stands at a place is found there and nowhere else.
use Rattle.std.proofs.Common.{◌≡◌, ℕ, zero, suc, ◌+◌, ◌<◌, Bool, true, false, not, eqb, List, [], ◌∷◌, Some, None, Option, MatchOption, refl, ap, ◌∙◌, arith}
use Rattle.std.proofs.lemmas.Bool.{and_parts}
use Rattle.std.proofs.lemmas.Bool.Decides.{nat_tests}
use Rattle.std.specs.List.{slice_get}
use Rattle.accounts.specs.declared.record.Record.{Record}
use Rattle.accounts.specs.Books.{accounts, find_from, find, present, distinct}
use Rattle.books.specs.Hints.{is_at}

-- whether the record at a place, if there is one, has the account
abbrev pub has : Option Record → ℕ → Bool
has None a = false
has (Some r) a = eqb r.account a

-- what a test of that record answers
pub answered : (a : ℕ) (o : Option Record) (b : Bool) (Tested : Record → Type 0) → MatchOption o (b ≡ false) Tested → ((r : Record) → Tested r → b ≡ eqb r.account a) → b ≡ has o a
answered a None b Tested h f = h
answered a (Some r) b Tested h f = f r h

-- an account that stands at a place is present
standing_present : (a i : ℕ) (rs : List Record) → has (slice_get rs i) a ≡ true → present a (accounts rs) ≡ true
standing_present a i [] h = h
standing_present a zero (r ∷ rs) h = grind (arith, nat_tests)
standing_present a (suc i) (r ∷ rs) h = let ih = standing_present a i rs h in grind (arith, nat_tests)

-- a search that counts from n finds no place before n
found_later : (n a i : ℕ) (xs : List ℕ) → i < n → is_at (find_from n a xs) i ≡ false
found_later n a i [] h = refl
found_later n a i (x ∷ xs) h = let ih = found_later (n + 1) a i xs (omega arith) in grind (arith, nat_tests)

-- the same of a search that counts from n
standing_from : (n a i : ℕ) (rs : List Record) → distinct (accounts rs) ≡ true → has (slice_get rs i) a ≡ is_at (find_from n a (accounts rs)) (n + i)
standing_from n a i [] d = refl
standing_from n a zero (r ∷ rs) d =
    let later = found_later (n + 1) a (n + 0) (accounts rs) (omega arith) in
    grind (arith, nat_tests)
standing_from n a (suc i) (r ∷ rs) d =
    let p = standing_present a i rs in
    let ds = and_parts (not (present r.account (accounts rs))) (distinct (accounts rs)) d in
    let ih = standing_from (n + 1) a i rs ds.1 in
    let e : n + 1 + i ≡ n + suc i = omega arith in
    grind (arith, nat_tests)

-- the record that a book has at a place tells whether an account is found there
pub standing : (a i : ℕ) (rs : List Record) (o : Option Record) → distinct (accounts rs) ≡ true → o ≡ slice_get rs i → has o a ≡ is_at (find a (accounts rs)) i
standing a i rs o d e =
    let s = standing_from 0 a i rs d in
    let z : 0 + i ≡ i = omega arith in
    ap (λ r. has r a) e ∙ rw z at s
