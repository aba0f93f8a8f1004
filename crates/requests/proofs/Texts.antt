-- The bytes of a line, and their count.
use Rattle.std.proofs.Common.{◌≡◌, ℕ, zero, suc, ◌+◌, ◌/◌, List, [], ◌∷◌, ◌++◌, length, refl, arith}
use Rattle.std.proofs.lemmas.List.{append_assoc, length-append, length_push}
use Rattle.accounts.specs.declared.record.Line.{Line}
use Rattle.requests.specs.Packing.{digits, form, behind, Item, text}

-- a number in w digits has w bytes
pub length_digits : (w n : ℕ) → length (digits w n) ≡ w
unfolding digits
length_digits zero n = refl
length_digits (suc w) n = rw length_push (omega (arith, length_digits w (n / 10)))

-- the fields of a line have their bytes
pub length_form : (l : Line) → length (form l) ≡ 30
unfolding form digits
length_form l = refl

-- a line has the bytes of its fields and of what stands behind them
pub length_text : (e : Item) → length (text e) ≡ 30 + length (behind e.1)
unfolding text
length_text e = rw (length-append, length_form)

-- behind the fields of a line without a remark stands nothing
pub behind_none : (r : List ℕ) → length r ≡ 0 → behind r ≡ []
behind_none [] h = refl
behind_none (b ∷ r) h = absurd (omega arith)

-- before a remark stands a space
pub behind_some : (r : List ℕ) → (length r ≡ 0 → ⊥) → behind r ≡ 32 ∷ r
behind_some [] h = absurd (h refl)
behind_some (b ∷ r) h = refl

-- pieces pushed one after another
pub three : (a x y z : List ℕ) → ((a ++ x) ++ y) ++ z ≡ a ++ (x ++ (y ++ z))
three a x y z = simp append_assoc
