-- A search's place, and the record of the account that was sought.
use Rattle.std.proofs.Common.{◌≡◌, ℕ, zero, suc, ◌+◌, ◌≤◌, false, List, [], ◌∷◌, set, is_some, Some, None, Option, sym, refl, ap, ◌∙◌, arith, zero-add}
use Rattle.std.proofs.lemmas.Bool.{both_ways}
use Rattle.std.proofs.lemmas.Bool.Decides.{nat_tests}
use Rattle.std.specs.List.{slice_get}
use Rattle.accounts.proofs.Answering.{suits_same}
use Rattle.accounts.proofs.Finding.{found_present}
use Rattle.accounts.proofs.Keeping.{every_nth}
use Rattle.accounts.specs.declared.record.Record.{Record}
use Rattle.accounts.specs.Books.{accounts, find_from, find, Proper}
use Rattle.accounts.specs.Ranges.{in_range}
use Rattle.accounts.specs.Records.{record_of, put, Located}
use Rattle.accounts.proofs.Found.{found_account, present_found}

-- a search from j on finds no place before it
found_past : (a j i : ℕ) (rs : List Record) → find_from j a (accounts rs) ≡ Some i → j ≤ i
found_past a j i [] e = cc
found_past a j i (x ∷ rs) e = let ih = found_past a (j + 1) i rs in grind (arith, nat_tests)

-- the record that a search from j on found k places further is the account's
found_told : (a j k : ℕ) (rs : List Record) (r : Record) → find_from j a (accounts rs) ≡ Some (j + k) → slice_get rs k ≡ Some r → record_of a rs ≡ Some r
found_told a j k [] r e n = cc
found_told a j zero (x ∷ rs) r e n = let past = found_past a (j + 1) (j + 0) rs in grind (arith, nat_tests)
found_told a j (suc k) (x ∷ rs) r e n =
    let shift : j + suc k ≡ j + 1 + k = omega arith in
    let ih = found_told a (j + 1) k rs r in
    grind (arith, nat_tests)

found_put : (a j k : ℕ) (rs : List Record) (new : Record) → find_from j a (accounts rs) ≡ Some (j + k) → new.account ≡ a → set rs k new ≡ put new rs
found_put a j k [] new e w = cc
found_put a j zero (x ∷ rs) new e w = let past = found_past a (j + 1) (j + 0) rs in grind (arith, nat_tests)
found_put a j (suc k) (x ∷ rs) new e w =
    let shift : j + suc k ≡ j + 1 + k = omega arith in
    let ih = found_put a (j + 1) k rs new in
    grind (arith, nat_tests)

found_is : (a j k : ℕ) (rs : List Record) → find_from j a (accounts rs) ≡ Some (j + k) → slice_get rs k ≡ None → ⊥
found_is a j k [] e n = cc
found_is a j zero (x ∷ rs) e n = cc
found_is a j (suc k) (x ∷ rs) e n =
    let shift : j + suc k ≡ j + 1 + k = omega arith in
    let ih = found_is a (j + 1) k rs in
    grind (arith, nat_tests)

-- where a search gave a place, the record there is the account's
pub located : (a i room : ℕ) (rs : List Record) (r : Record) → Proper rs room → find a (accounts rs) ≡ Some i → slice_get rs i ≡ Some r → Located rs a i r
located a i room rs r p e n =
    let here : find_from 0 a (accounts rs) ≡ Some (0 + i) = rw zero-add e in
    let told = found_told a 0 i rs r here n in
    let whose = found_account a rs r told in
    record {
      found = told;
      ranged = every_nth in_range rs i r p.ranged n;
      whose = whose;
      fitting = λ new w k. suits_same rs i new r n (whose ∙ sym w) k;
      putting = λ new w. found_put a 0 i rs new here w;
    }

-- and there is a record
pub found_some : (a i : ℕ) (rs : List Record) → find a (accounts rs) ≡ Some i → slice_get rs i ≡ None → ⊥
found_some a i rs e n = found_is a 0 i rs (rw zero-add e) n

-- a record of a book is in range
pub in_book : (i room : ℕ) (rs : List Record) (r : Record) → Proper rs room → slice_get rs i ≡ Some r → false ≡ in_range r → ⊥
in_book i room rs r p n out = both_ways _ (sym out) (every_nth in_range rs i r p.ranged n)

-- where a search gave nothing, the account has no record
none_of : {X : Type 0} (o : Option X) → is_some o ≡ false → o ≡ None
none_of None e = refl
none_of (Some x) e = cc

pub missing : (a : ℕ) (rs : List Record) → find a (accounts rs) ≡ None → record_of a rs ≡ None
missing a rs e = none_of _ (sym (present_found a rs) ∙ sym (found_present a 0 (accounts rs)) ∙ ap is_some e)
