-- The record of an account in a list of records, after one is put in its place, all are changed, or one joins.
use Rattle.std.proofs.Common.{◌≡◌, ℕ, ◌+◌, ◌≤◌, Bool, false, cond, eqb, List, [], ◌∷◌, ◌++◌, map, length, is_some, Some, None, option_map, refl, arith, sum_by}
use Rattle.std.proofs.lemmas.Bool.Decides.{nat_tests}
use Rattle.std.proofs.lemmas.List.Sums.{sum_by-cons}
use Rattle.std.specs.List.{position_from}
use Rattle.accounts.specs.declared.record.Record.{Record}
use Rattle.accounts.specs.Records.{record_of, put}
use Rattle.accounts.specs.Books.{accounts, present}

-- the record that is found is of the account
pub found_account : (a : ℕ) (rs : List Record) (r : Record) → record_of a rs ≡ Some r → r.account ≡ a
found_account a [] r e = cc
found_account a (x ∷ rs) r e = let ih = found_account a rs r in grind (arith, nat_tests)

-- and a number of it is at most that of all records together
pub found_within : (f : Record → ℕ) (a : ℕ) (rs : List Record) (r : Record) → record_of a rs ≡ Some r → f r ≤ sum_by f rs
found_within f a [] r e = cc
found_within f a (x ∷ rs) r e = let ih = found_within f a rs r in let all = sum_by-cons f x rs in grind (arith, nat_tests)

pub put_length : (n : Record) (rs : List Record) → length (put n rs) ≡ length rs
put_length n [] = refl
put_length n (x ∷ rs) = let ih = put_length n rs in grind (arith, nat_tests)

-- n is put in the place of r, the record of account a
pub put_sum : (f : Record → ℕ) (a : ℕ) (n : Record) (rs : List Record) (r : Record) → n.account ≡ a → record_of a rs ≡ Some r → sum_by f (put n rs) + f r ≡ sum_by f rs + f n
put_sum f a n [] r same e = cc
put_sum f a n (x ∷ rs) r same e =
    let ih = put_sum f a n rs r same in
    let all = sum_by-cons f x rs in
    let here = sum_by-cons f n rs in
    let there = sum_by-cons f x (put n rs) in
    grind (arith, nat_tests)

pub put_found : (b a : ℕ) (n : Record) (rs : List Record) (r : Record) → n.account ≡ a → record_of a rs ≡ Some r → record_of b (put n rs) ≡ cond (eqb a b) (Some n) (record_of b rs)
put_found b a n [] r same e = cc
put_found b a n (x ∷ rs) r same e = let ih = put_found b a n rs r same in grind (arith, nat_tests)

pub map_found : (f : Record → Record) → ((r : Record) → (f r).account ≡ r.account) → (a : ℕ) (rs : List Record) → record_of a (map f rs) ≡ option_map f (record_of a rs)
map_found f same a [] = refl
map_found f same a (x ∷ rs) = let ih = map_found f same a rs in let e = same x in grind (arith, nat_tests)

pub push_found : (a : ℕ) (n : Record) (rs : List Record) → record_of n.account rs ≡ None → record_of a (rs ++ n ∷ []) ≡ cond (eqb n.account a) (Some n) (record_of a rs)
push_found a n [] e = refl
push_found a n (x ∷ rs) e = let ih = push_found a n rs in grind (arith, nat_tests)

-- an account is present where it has a record
pub present_found : (a : ℕ) (rs : List Record) → present a (accounts rs) ≡ is_some (record_of a rs)
present_found a [] = refl
present_found a (r ∷ rs) = let ih = present_found a rs in grind (arith, nat_tests)

pub accounts_put : (n : Record) (rs : List Record) → accounts (put n rs) ≡ accounts rs
accounts_put n [] = refl
accounts_put n (r ∷ rs) = let ih = accounts_put n rs in grind (arith, nat_tests)

-- a test that passes nowhere
pub nowhere : {X : Type 0} (i : ℕ) (test : X → Bool) (x : X) (xs : List X) → position_from test i (x ∷ xs) ≡ None → (test x ≡ false) × (position_from test (i + 1) xs ≡ None)
nowhere i test x xs e = (grind arith, grind arith)
