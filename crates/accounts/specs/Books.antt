-- What an account book means: its records, one behind the other as they were added.
use Rattle.std.specs.Prelude.{◌≡◌, ℕ, ◌+◌, ◌≤◌, Bool, true, false, cond, not, ◌&&◌, ◌||◌, List, [], ◌∷◌, ◌++◌, map, length, Some, None, Option, ◌==◌, nat_lt, slice_set}
use Rattle.std.specs.List.{slice_get}
use Rattle.base.specs.Limits.{most_records}
use Rattle.accounts.specs.declared.record.Record.{Record}
use Rattle.accounts.specs.Ranges.{in_range}

abbrev pub accounts : List Record → List ℕ
accounts rs = map (λ r. r.account) rs

-- the place of the first account that is sought, counted from i
abbrev pub find_from : ℕ → ℕ → List ℕ → Option ℕ
find_from i a [] = None
find_from i a (x ∷ xs) = cond (x == a) (Some i) (find_from (i + 1) a xs)

-- the place of an account, or nothing where the list lacks it
abbrev pub find : ℕ → List ℕ → Option ℕ
find a xs = find_from 0 a xs

abbrev pub present : ℕ → List ℕ → Bool
present a [] = false
present a (x ∷ xs) = x == a || present a xs

-- no account twice
abbrev pub distinct : List ℕ → Bool
distinct [] = true
distinct (x ∷ xs) = not (present x xs) && distinct xs

abbrev pub every : {X : Type 0} → (X → Bool) → List X → Bool
every test [] = true
every test (x ∷ xs) = test x && every test xs

-- a proper book: each record in range, no account twice, and no more records than its room, which has a limit
pub record Proper (rs : List Record) (room : ℕ) : Type 0 where
  pub ranged : every in_range rs ≡ true
  pub apart : distinct (accounts rs) ≡ true
  pub fits : length rs ≤ room
  pub bounded : room ≤ most_records

-- adding is accepted where there is room, the record is in range and its account is new
abbrev pub takes : List Record → ℕ → Record → Bool
takes rs room r = nat_lt (length rs) room && (in_range r && not (present r.account (accounts rs)))

abbrev pub added : Bool → List Record → Record → List Record
added accepted rs r = cond accepted (rs ++ r ∷ []) rs

abbrev pub same_account : Option Record → Record → Bool
same_account None r = false
same_account (Some old) r = old.account == r.account

-- replacing is accepted where the record is in range and the place has its account already
abbrev pub suits : List Record → ℕ → Record → Bool
suits rs place r = in_range r && same_account (slice_get rs place) r

abbrev pub replaced : Bool → List Record → ℕ → Record → List Record
replaced accepted rs place r = cond accepted (slice_set rs place r) rs

-- what a book shows: its records in order of adding, how many it has room for, numbers kept beside the records, and the ghost
-- names of the memory that is lent to it
pub record Contents : Type 0 where
  pub records : List Record
  pub room : ℕ
  pub side : List ℕ
  pub loans : List ℕ

-- whether a book with these contents takes one more record
abbrev pub accepts : Contents → Record → Bool
accepts shown r = takes shown.records shown.room r

-- The interface's members: `sound` says that a book is proper, `contents` what it shows, and `same_rest old new` that the lent
-- memory which holds no record is as it was.
module _ {B : Type 0} (sound : B → Type 0) (contents : B → Contents) (same_rest : B → B → Type 0) where
  -- what every call keeps: a proper book still, and its room, its side list, what is lent to it and the rest of that as before
  pub record Kept (old new : B) : Type 0 where
    pub stays : sound new
    pub same_room : (contents new).room ≡ (contents old).room
    pub same_side : (contents new).side ≡ (contents old).side
    pub same_loans : (contents new).loans ≡ (contents old).loans
    pub beyond : same_rest old new

  -- a call that leaves these records, and keeps the rest
  pub record Left (old new : B) (then : List Record) : Type 0 where
    pub kept : Kept old new
    pub list : (contents new).records ≡ then

  -- of a proper book
  abbrev pub Keeps : B → B → Type 0
  Keeps old new = sound old → Kept old new

  -- of a proper book, with the records that a function makes of those before
  abbrev pub Leaves : B → B → (List Record → List Record) → Type 0
  Leaves old new make = sound old → Left old new (make (contents old).records)
