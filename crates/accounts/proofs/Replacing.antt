-- A loop that replaces each record of a book by what a function makes of it.
use Rattle.std.proofs.Common.{◌≡◌, ℕ, zero, suc, ◌+◌, ◌<◌, Bool, List, [], ◌∷◌, ◌++◌, map, length, take, drop, set, Some, None, sym, refl, ap, ◌∙◌, arith}
use Rattle.std.proofs.lemmas.List.Edits.{map_over_more}
use Rattle.std.proofs.lemmas.Option.{get_or_from_slice_get, slice_get_within}
use Rattle.std.proofs.lemmas.Bool.{cond-true}
use Rattle.std.specs.List.{slice_get}
use Rattle.accounts.proofs.Answering.{suits_same}
use Rattle.accounts.proofs.Leaving.{left_as, left_on}
use Rattle.accounts.specs.declared.record.Record.{Record}
use Rattle.accounts.specs.declared.entry.Entry.{Entry}
use Rattle.accounts.specs.Books.{Contents, Left, suits, replaced}
use Rattle.accounts.specs.Records.{Changes}

pub nth_below : {X : Type 0} (xs : List X) (i : ℕ) → i < length xs → None ≡ slice_get xs i → ⊥
nth_below [] i h e = absurd (omega arith)
nth_below (x ∷ xs) zero h e = cc
nth_below (x ∷ xs) (suc i) h e = nth_below xs i (omega arith) e

module _ (f : Record → Record) where
  -- the records up to a place are replaced, those from it on are as they were
  abbrev pub over : List Record → ℕ → List Record
  over rs i = map f (take i rs) ++ drop i rs

  pub nth_over : (rs : List Record) (i : ℕ) → slice_get (over rs i) i ≡ slice_get rs i
  nth_over [] zero = refl
  nth_over [] (suc i) = refl
  nth_over (r ∷ rs) zero = refl
  nth_over (r ∷ rs) (suc i) = nth_over rs i

  set_over : (rs ys : List Record) (i : ℕ) (r : Record) → ys ≡ over rs i → slice_get ys i ≡ Some r → slice_get rs i ≡ Some r → set ys i (f r) ≡ over rs (i + 1)
  set_over rs ys i r o e at = map_over_more f rs ys i r (slice_get_within rs i r at) o (sym (get_or_from_slice_get ys i r r e))

  pub replace_more : {B : Type 0} {sound : B → Type 0} {contents : B → Contents} {rest : B → B → Type 0} (follows : (a b c : B) → rest a b → rest b c → rest a c) {gives : Entry → Record → Type 0} (rs : List Record) (i : ℕ) (x : Entry) (new : Record) (answer : Bool) (first here there : B) → Changes gives f rs → gives x new → Left sound contents rest first here (over rs i) → (sound here → Some x.holder ≡ slice_get (contents here).records i) → (sound here → answer ≡ suits (contents here).records i new) → (sound here → Left sound contents rest here there (replaced answer (contents here).records i new)) → Left sound contents rest first there (over rs (i + 1))
  replace_more {contents = contents} follows rs i x new answer first here there k gave h told says leaves =
      let r = x.holder in
      let ys = (contents here).records in
      let is : new ≡ f r = k.computed x new gave in
      let e = sym (told h.kept.stays) in
      let at = sym (nth_over rs i) ∙ sym (ap (λ zs. slice_get zs i) h.list) ∙ e in
      let taken = says h.kept.stays ∙ ap (suits ys i) is ∙ suits_same ys i (f r) r e (sym (k.whose r)) (k.ranged i r at x.ranged) in
      left_on follows h (left_as (leaves h.kept.stays) (cond-true answer (set ys i new) ys taken ∙ ap (set ys i) is ∙ set_over rs ys i r h.list e at))
