-- The records of a book, which are read by place.
use Rattle.std.proofs.Common.{◌≡◌, ℕ, ◌≤◌, ◌<◌, List, [], ◌∷◌, ◌++◌, length, Some, None, Option, sym, refl, ap, subst, true≢false, append_assoc, length-append, arith, add-one}
use Rattle.std.specs.Iterator.{Yields}
use Rattle.std.specs.Iterator.Adapters.{filter_map_source, filter_map_steps}
use Rattle.std.specs.List.{slice_get, filter_map, range_with_len}
use Rattle.std.specs.Option.{MatchOption, is_some}
use Rattle.std.specs.declared.iter.FilterMap.{FilterMap}
use Rattle.std.proofs.lemmas.Iterator.Adapters.{YieldsAtMost}
use denote.Param.Members.{Mut}

read_here : {X : Type 0} (done : List X) (x : X) (xs : List X) → slice_get (done ++ x ∷ xs) (length done) ≡ Some x
read_here [] x xs = refl
read_here (d ∷ done) x xs = read_here done x xs

read_on : {X : Type 0} (done xs : List X) → filter_map (slice_get (done ++ xs)) (range_with_len (length done) (length xs)) ≡ xs
read_on done [] = refl
read_on done (x ∷ xs) = grind (arith, read_here done x xs, read_on (done ++ x ∷ []) xs, append_assoc, length-append, add-one)

-- each place of a list, read in order, gives the list
pub read_all : {X : Type 0} (xs : List X) → filter_map (slice_get xs) (range_with_len 0 (length xs)) ≡ xs
read_all xs = read_on [] xs

-- `filter_map` takes an item or more of its source for each that it gives
module _ {S A B F : Type 0} (steps : S → Option A → S → Type 0) (g : Mut F (A × Unit {0}) (Option B)) where
  joined : (xs ys : List A) (s t u : S) → Yields steps s xs t → Yields steps t ys u → Yields steps s (xs ++ ys) u
  joined [] ys s t u a b = subst (λ k. Yields steps k ys u) (sym a) b
  joined (x ∷ xs) ys s t u a b = (a.0, a.1, joined xs ys a.0 t u a.2 b)

  taken : (xs : List A) (s t u : S) (o : Option A) (y : B) (P : Type 0) (Q : A → Type 0) → Yields steps s xs t → steps t o u → MatchOption o ((Some y ≡ None) × P) Q → (zs : List A) × Yields steps s zs u × (0 < length zs)
  taken xs s t u None y P Q a b c = absurd (true≢false (ap is_some c.0))
  taken xs s t u (Some x) y P Q a b c = (xs ++ x ∷ [], joined xs (x ∷ []) s t u a (u, b, refl), omega (arith, length-append xs (x ∷ [])))

  behind : (ys : List B) (s t : FilterMap S F) → Yields (filter_map_steps steps g) s ys t → (zs : List A) × Yields steps (filter_map_source s) zs (filter_map_source t) × (length ys ≤ length zs)
  behind [] s t a = ([], ap filter_map_source a, omega arith)
  behind (y ∷ ys) s t a =
      let p = a.1 in
      let first = taken p.0 (filter_map_source s) p.3.0 (filter_map_source a.0) p.1 y _ _ p.3.1 p.3.2 p.5 in
      let others = behind ys a.0 t a.2 in
      (first.0 ++ others.0, joined first.0 others.0 _ _ _ first.1 others.1, omega (arith, first.2, others.2, length-append first.0 others.0))

pub at_most_from_filter_map : {S A B F : Type 0} {steps : S → Option A → S → Type 0} {s : FilterMap S F} {n : ℕ} (g : Mut F (A × Unit {0}) (Option B)) → YieldsAtMost steps (filter_map_source s) n → YieldsAtMost (filter_map_steps steps g) s n
at_most_from_filter_map {steps = steps} {s = s} g few = record { runs = λ ys t a. let b = behind steps g ys s t a in omega (arith, b.2, few.runs b.0 _ b.1) }

pub at_most_at : {S A : Type 0} {steps : S → Option A → S → Type 0} {s t : S} {n : ℕ} → s ≡ t → YieldsAtMost steps t n → YieldsAtMost steps s n
at_most_at {steps = steps} {n = n} e few = subst (λ u. YieldsAtMost steps u n) (sym e) few
