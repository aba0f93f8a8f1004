-- Sums over lists.
use Rattle.std.proofs.Common.{◌≡◌, ℕ, ◌+◌, ◌≤◌, List, [], ◌∷◌, map, sum_by, refl, mul-add, arith}
use Rattle.std.proofs.lemmas.List.Folds.{fold-map}
use Rattle.std.proofs.lemmas.List.Recursion.{is_sum_by}
use Rattle.std.proofs.lemmas.List.Sums.{sum_by-cons}
use Rattle.sharing.specs.Shares.{share}

pub sum_by-map : {X Y : Type 0} (f : Y → ℕ) (g : X → Y) (xs : List X) → sum_by f (map g xs) ≡ sum_by (λ x. f (g x)) xs
sum_by-map f g xs = fold-map (λ n y. n + f y) g 0 xs

pub sum_by_plus : {X : Type 0} (f g : X → ℕ) (xs : List X) → sum_by f xs + sum_by g xs ≡ sum_by (λ x. f x + g x) xs
sum_by_plus f g =
    is_sum_by (λ xs. sum_by f xs + sum_by g xs) (λ x. f x + g x) refl
    (λ x xs. omega (arith, sum_by-cons f x xs, sum_by-cons g x xs))

pub sum_by_nothing : {X : Type 0} (xs : List X) → 0 ≡ sum_by (λ (x : X). 0) xs
sum_by_nothing = is_sum_by (λ _. 0) (λ _. 0) refl (λ _ _. refl)

-- shares rounded down are together at most the share of the percentages together
pub shares_within : {X : Type 0} (units : ℕ) (f : X → ℕ) (xs : List X) → sum_by (λ x. share units (f x)) xs ≤ share units (sum_by f xs)
shares_within units f [] = omega arith
shares_within units f (x ∷ xs) =
    let ih = shares_within units f xs in
    rw (sum_by-cons f x xs, sum_by-cons (λ y. share units (f y)) x xs) (omega (arith, mul-add units (f x) (sum_by f xs)))
