-- Where an account stands in a list of accounts.
use Rattle.std.proofs.Common.{◌≡◌, ℕ, ◌+◌, true, false, cond, not, ◌&&◌, ◌||◌, eqb, List, [], ◌∷◌, ◌++◌, map, is_some, Some, refl, ap, ◌∙◌, arith}
use Rattle.std.proofs.lemmas.Bool.Decides.{nat_tests}
use Rattle.std.proofs.lemmas.Iterator.Adapters.{position_from-zero}
use Rattle.std.specs.List.{position, position_from}
use Rattle.accounts.specs.Books.{find_from, find, present, distinct}

found_from : {X : Type 0} (f : X → ℕ) (a i : ℕ) (xs : List X) → position_from (λ x. eqb (f x) a) i xs ≡ find_from i a (map f xs)
found_from f a i [] = refl
found_from f a i (x ∷ xs) = ap (cond (eqb (f x) a) (Some i)) (found_from f a (i + 1) xs)

-- the first place of a number is where a search finds it
pub find_position : {X : Type 0} (f : X → ℕ) (a : ℕ) (xs : List X) → position (λ x. eqb (f x) a) xs ≡ find a (map f xs)
find_position f a xs = position_from-zero (λ x. eqb (f x) a) xs ∙ found_from f a 0 xs

-- a search finds an account exactly where it is present
pub found_present : (a i : ℕ) (xs : List ℕ) → is_some (find_from i a xs) ≡ present a xs
found_present a i [] = refl
found_present a i (x ∷ xs) = let ih = found_present a (i + 1) xs in grind (arith, nat_tests)

pub present_push : (a b : ℕ) (xs : List ℕ) → present a (xs ++ b ∷ []) ≡ (present a xs || eqb b a)
present_push a b [] = grind (arith, nat_tests)
present_push a b (x ∷ xs) = let ih = present_push a b xs in grind (arith, nat_tests)

pub distinct_more : (b : ℕ) (xs : List ℕ) → distinct (xs ++ b ∷ []) ≡ (distinct xs && not (present b xs))
distinct_more b [] = refl
distinct_more b (x ∷ xs) =
    let e = present_push x b xs in
    let ih = distinct_more b xs in
    grind (arith, nat_tests)

pub distinct_push : (b : ℕ) (xs : List ℕ) → distinct xs ≡ true → present b xs ≡ false → distinct (xs ++ b ∷ []) ≡ true
distinct_push b xs h p = let e = distinct_more b xs in grind (arith, nat_tests)
