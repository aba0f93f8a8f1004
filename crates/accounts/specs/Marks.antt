-- How a record's size, kind and state are written.
use Rattle.std.specs.Prelude.{ℕ, cond, List, ◌++◌, Some, None, Option, ◌==◌, codes, decimal}
use Rattle.accounts.specs.declared.record.Size.{Size}
use Rattle.accounts.specs.declared.record.Size.TheVariants.{Small, Large}
use Rattle.accounts.specs.declared.record.Kind.{Kind}
use Rattle.accounts.specs.declared.record.Kind.TheVariants.{Member, Anchor}
use Rattle.accounts.specs.declared.record.State.{State}
use Rattle.accounts.specs.declared.record.State.TheVariants.{Open, Closed}

-- the letters S and L
abbrev pub size_letter : Size → ℕ
size_letter Small = 83
size_letter Large = 76

abbrev pub size_of : ℕ → Option Size
size_of b = cond (b == 83) (Some Small) (cond (b == 76) (Some Large) None)

abbrev pub size_text : Size → List ℕ
size_text Small = codes "S"
size_text Large = codes "L"

-- the letters M and X
abbrev pub kind_letter : Kind → ℕ
kind_letter Member = 77
kind_letter Anchor = 88

abbrev pub kind_of : ℕ → Option Kind
kind_of b = cond (b == 77) (Some Member) (cond (b == 88) (Some Anchor) None)

abbrev pub kind_text : Kind → List ℕ
kind_text Member = codes "M"
kind_text Anchor = codes "X"

-- in an image a state is a number, in print a word
abbrev pub state_number : State → ℕ
state_number Open = 1
state_number Closed = 2

abbrev pub state_of : ℕ → Option State
state_of b = cond (b == 1) (Some Open) (cond (b == 2) (Some Closed) None)

abbrev pub state_text : State → List ℕ
state_text Open = codes "open"
state_text Closed = codes "closed"

-- a byte that marks none of the three, in words
abbrev pub unknown_text : ℕ → List ℕ
unknown_text b = codes "no size, kind or state has the mark " ++ decimal b
