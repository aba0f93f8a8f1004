-- The record of an account in a list of records.
use Rattle.std.specs.Prelude.{◌≡◌, ℕ, Bool, true, false, cond, List, [], ◌∷◌, Some, None, Option, ◌==◌, slice_set}
use Rattle.std.specs.List.{slice_get}
use Rattle.accounts.specs.declared.record.Record.{Record}
use Rattle.accounts.specs.declared.record.State.TheVariants.{Open, Closed}
use Rattle.accounts.specs.declared.record.State as state
use Rattle.accounts.specs.declared.entry.Entry.{Entry}
use Rattle.accounts.specs.Books.{suits}
use Rattle.accounts.specs.Ranges.{in_range}

-- the record of an account, or nothing where there is none
abbrev pub record_of : ℕ → List Record → Option Record
record_of a [] = None
record_of a (r ∷ rs) = cond (r.account == a) (Some r) (record_of a rs)

-- a record in the place of its account's
abbrev pub put : Record → List Record → List Record
put new [] = []
put new (r ∷ rs) = cond (r.account == new.account) (new ∷ rs) (r ∷ put new rs)

abbrev pub is_closed : state.State → Bool
is_closed Open = false
is_closed Closed = true

-- with other units held
abbrev pub holding : ℕ → Record → Record
holding units r = record r { held = units }

-- the record of an account that a search found at a place: another record of the account in range suits the place, and
-- replaces the account's record there
pub record Located (rs : List Record) (account place : ℕ) (r : Record) : Type 0 where
  pub found : record_of account rs ≡ Some r
  pub ranged : in_range r ≡ true
  pub whose : r.account ≡ account
  pub fitting : (new : Record) → new.account ≡ account → in_range new ≡ true → suits rs place new ≡ true
  pub putting : (new : Record) → new.account ≡ account → slice_set rs place new ≡ put new rs

-- what a search for an account's record found: the record and its place, or nothing where there is none
abbrev pub Sought : List Record → ℕ → Option Entry → Type 0
Sought rs account None = record_of account rs ≡ None
Sought rs account (Some x) = Located rs account x.place x.holder

-- a change of records gives what f makes of each, which is of the same account, and in range where the record was
pub record Changes (gives : Entry → Record → Type 0) (f : Record → Record) (rs : List Record) : Type 0 where
  pub computed : (x : Entry) (new : Record) → gives x new → new ≡ f x.holder
  pub whose : (r : Record) → (f r).account ≡ r.account
  pub ranged : (i : ℕ) (r : Record) → slice_get rs i ≡ Some r → in_range r ≡ true → in_range (f r) ≡ true
