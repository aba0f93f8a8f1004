-- Judging the pairs and the lines of a file one by one.
use Rattle.std.proofs.Common.{◌≡◌, ℕ, zero, suc, ◌+◌, ◌-◌, ◌<◌, ◌≤◌, true, cond, List, [], ◌∷◌, length, get_or, take, drop, Ok, Err, Result, refl, ap, inl, inr, add-zero, arith}
use Rattle.requests.specs.declared.fault.FieldFault.{FieldFault}
use Rattle.std.proofs.lemmas.Bool.{cases_order}
use Rattle.std.proofs.lemmas.Bool.Decides.{nat_tests}
use Rattle.accounts.specs.declared.record.Line.{Line}
use Rattle.requests.specs.declared.pairs.Pair.{Pair}
use Rattle.requests.specs.Form.{then, line_of}
use Rattle.requests.specs.Meaning.{pair_at, end_of, fits, pairs_from, of_line, line_at, lines_from, checked}
use Rattle.requests.specs.Placed.{Placed}

-- judging pairs from a place on looks at that place first
pub pairs_step : (file : List ℕ) (start place n : ℕ) → place < n → pairs_from file start place (n - place) ≡ cond (fits (length file) start (pair_at file place)) (pairs_from file (end_of (pair_at file place)) (place + 1) (n - (place + 1))) (Err (record { place = place }))
unfolding pairs_from
pairs_step file start place n l = let left : n - place ≡ suc (n - (place + 1)) = omega arith in rw left

-- no pair is left to judge
pub pairs_all : (file : List ℕ) (start place n : ℕ) → n ≤ place → pairs_from file start place (n - place) ≡ Ok tt
unfolding pairs_from
pairs_all file start place n l = let left : n - place ≡ 0 = omega arith in rw left

-- a pair that fits has room for its line
pub fits_placed : (size start : ℕ) (p : Pair) → fits size start p ≡ true → Placed size p
fits_placed size start p h = record { long = grind (arith, nat_tests); inside = grind (arith, nat_tests) }

-- where no pair is at fault, each fits the file
pub pairs_placed : (file : List ℕ) (start a n place : ℕ) → pairs_from file start a n ≡ Ok tt → a ≤ place → place < a + n → Placed (length file) (pair_at file place)
unfolding pairs_from
pairs_placed file start a zero place h low high = absurd (omega arith)
pairs_placed file start a (suc n) place h low high =
    let pair = pair_at file a in
    let good : fits (length file) start pair ≡ true = grind (arith, nat_tests) in
    let next : pairs_from file (end_of pair) (a + 1) n ≡ Ok tt = grind (arith, nat_tests) in
    elim (cases_order a place) [
      | inl same ↦ rw (← same) (fits_placed (length file) start pair good)
      | inr (inl less) ↦ pairs_placed file (end_of pair) (a + 1) n place next (omega arith) (omega arith)
      | inr (inr more) ↦ absurd (omega arith)
    ]

-- the lines read, none where there is a fault
abbrev pub values : {E : Type 0} → Result (List Line) E → List Line
values (Ok lines) = lines
values (Err fault) = []

-- the line that a pair names, by the bytes between its ends
pub line_is : (file : List ℕ) (place : ℕ) (p : Pair) → p ≡ pair_at file place → (r : Result Line FieldFault) → r ≡ line_of (take (end_of p - p.offset) (drop p.offset file)) → of_line place r ≡ line_at file place
unfolding line_at
line_is file place p is r h =
    let long : end_of p - p.offset ≡ p.length = omega arith in
    cc

-- judging lines from a place on looks at that place first
pub lines_step : (file : List ℕ) (place n : ℕ) → place < n → checked (lines_from file place (n - place)) ≡ then (line_at file place) (λ _. checked (lines_from file (place + 1) (n - (place + 1))))
unfolding lines_from
lines_step file place n l =
    let left : n - place ≡ suc (n - (place + 1)) = omega arith in
    rw left (grind arith)

-- no line is left to judge
pub lines_all : (file : List ℕ) (place n : ℕ) → n ≤ place → checked (lines_from file place (n - place)) ≡ Ok tt
unfolding lines_from
lines_all file place n l = let left : n - place ≡ 0 = omega arith in rw left

-- where both parts are in order, the first gave something
pub then_ok : {A B E : Type 0} (r : Result A E) (f : A → Result B E) (b : B) → then r f ≡ Ok b → (a : A) × (r ≡ Ok a) × (f a ≡ Ok b)
then_ok (Ok a) f b h = (a, refl, h)
then_ok (Err e) f b h = cc

-- the first line of several in form, and the others
pub lines_split : (file : List ℕ) (a n : ℕ) (l : Line) (ls : List Line) → lines_from file a (suc n) ≡ Ok (l ∷ ls) → (line_at file a ≡ Ok l) × (lines_from file (a + 1) n ≡ Ok ls)
unfolding lines_from
lines_split file a n l ls h = (grind arith, grind arith)

-- as many lines are read as were to be
pub length_lines : (file : List ℕ) (a n : ℕ) (ls : List Line) → lines_from file a n ≡ Ok ls → length ls ≡ n
unfolding lines_from
length_lines file a zero [] h = refl
length_lines file a zero (l ∷ ls) h = cc
length_lines file a (suc n) [] h = grind arith
length_lines file a (suc n) (l ∷ ls) h = ap suc (length_lines file (a + 1) n ls (lines_split file a n l ls h).1)

-- each line that was read stands at its place
pub lines_at : (file : List ℕ) (a n i : ℕ) (d : Line) (ls : List Line) → lines_from file a n ≡ Ok ls → i < length ls → line_at file (a + i) ≡ Ok (get_or ls i d)
unfolding lines_from
lines_at file a n i d [] h l = absurd (omega arith)
lines_at file a zero i d (x ∷ ls) h l = cc
lines_at file a (suc n) zero d (x ∷ ls) h l = rw add-zero (lines_split file a n x ls h).0
lines_at file a (suc n) (suc i) d (x ∷ ls) h l =
    let e : a + suc i ≡ a + 1 + i = omega arith in
    rw e (lines_at file (a + 1) n i d ls (lines_split file a n x ls h).1 (omega arith))

-- lines that are in form are read
pub ok_values : {E : Type 0} (r : Result (List Line) E) → checked r ≡ Ok tt → r ≡ Ok (values r)
ok_values (Ok lines) h = refl
ok_values (Err fault) h = cc
