-- Adding and replacing keep a book proper.
use Rattle.std.proofs.Common.{◌≡◌, ℕ, zero, suc, Bool, true, List, [], ◌∷◌, ◌++◌, set, Some, refl, ap, arith}
use Rattle.std.proofs.lemmas.Bool.Decides.{nat_tests}
use Rattle.std.proofs.lemmas.List.{map_push, length_push, length-set}
use Rattle.std.proofs.lemmas.Option.{none-some}
use Rattle.std.specs.List.{slice_get}
use Rattle.accounts.specs.declared.record.Record.{Record}
use Rattle.accounts.specs.Ranges.{in_range}
use Rattle.accounts.specs.Books.{accounts, every, Proper, takes, same_account, suits}
use Rattle.accounts.proofs.Answering.{takes_parts, suits_parts}
use Rattle.accounts.proofs.Finding.{distinct_push}

pub every_push : {X : Type 0} (p : X → Bool) (xs : List X) (x : X) → every p xs ≡ true → p x ≡ true → every p (xs ++ x ∷ []) ≡ true
every_push p [] x h e = grind (arith, nat_tests)
every_push p (y ∷ xs) x h e = let ih = every_push p xs x in grind (arith, nat_tests)

pub every_set : {X : Type 0} (p : X → Bool) (xs : List X) (i : ℕ) (x : X) → every p xs ≡ true → p x ≡ true → every p (set xs i x) ≡ true
every_set p [] i x h e = refl
every_set p (y ∷ xs) zero x h e = grind (arith, nat_tests)
every_set p (y ∷ xs) (suc i) x h e = let ih = every_set p xs i x in grind (arith, nat_tests)

-- what holds of every element holds of the one at a place
pub every_nth : {X : Type 0} (p : X → Bool) (xs : List X) (i : ℕ) (x : X) → every p xs ≡ true → slice_get xs i ≡ Some x → p x ≡ true
every_nth p [] i x h e = absurd (none-some x e)
every_nth p (y ∷ xs) zero x h e = grind (arith, nat_tests)
every_nth p (y ∷ xs) (suc i) x h e = let ih = every_nth p xs i x in grind (arith, nat_tests)

pub accounts_set : (rs : List Record) (i : ℕ) (r : Record) → same_account (slice_get rs i) r ≡ true → accounts (set rs i r) ≡ accounts rs
accounts_set [] i r e = refl
accounts_set (x ∷ rs) zero r e = grind (arith, nat_tests)
accounts_set (x ∷ rs) (suc i) r e = ap (λ xs. x.account ∷ xs) (accounts_set rs i r e)

pub proper_add : (rs : List Record) (room : ℕ) (r : Record) → Proper rs room → takes rs room r ≡ true → Proper (rs ++ r ∷ []) room
proper_add rs room r p t =
    let known = takes_parts rs room r t in
    record {
      ranged = every_push in_range rs r p.ranged known.1;
      apart = rw map_push (distinct_push r.account (accounts rs) p.apart (grind (arith, nat_tests)));
      fits = omega (arith, length_push rs r, known.0);
      bounded = p.bounded;
    }

pub proper_replace : (rs : List Record) (room i : ℕ) (r : Record) → Proper rs room → suits rs i r ≡ true → Proper (set rs i r) room
proper_replace rs room i r p t =
    record {
      ranged = every_set in_range rs i r p.ranged (suits_parts rs i r t).1;
      apart = rw (accounts_set rs i r (grind (arith, nat_tests))) p.apart;
      fits = simp length-set p.fits;
      bounded = p.bounded;
    }
