-- When adding and replacing are accepted.
use Rattle.std.proofs.Common.{◌≡◌, ℕ, ◌<◌, true, List, length, Some, arith}
use Rattle.std.proofs.lemmas.Bool.Decides.{nat_tests}
use Rattle.std.proofs.lemmas.Option.{slice_get_past}
use Rattle.std.specs.List.{slice_get}
use Rattle.accounts.specs.declared.record.Record.{Record}
use Rattle.accounts.specs.Ranges.{in_range}
use Rattle.accounts.specs.Books.{takes, suits}

pub suits_same : (rs : List Record) (i : ℕ) (r old : Record) → slice_get rs i ≡ Some old → old.account ≡ r.account → in_range r ≡ true → suits rs i r ≡ true
suits_same rs i r old e h ok = rw e (grind (arith, nat_tests))

-- what is known where a record is taken or suits
pub takes_parts : (rs : List Record) (room : ℕ) (r : Record) → takes rs room r ≡ true → (length rs < room) × (in_range r ≡ true)
takes_parts rs room r t = (grind (arith, nat_tests), grind (arith, nat_tests))

pub suits_parts : (rs : List Record) (i : ℕ) (r : Record) → suits rs i r ≡ true → (i < length rs) × (in_range r ≡ true)
suits_parts rs i r t = let past = slice_get_past rs i in (grind (arith, nat_tests), grind (arith, nat_tests))
