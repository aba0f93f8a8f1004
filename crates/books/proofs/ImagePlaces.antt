-- The records of an image's first places.
use Rattle.std.proofs.Common.{◌≡◌, ℕ, zero, suc, ◌+◌, ◌<◌, ◌≤◌, Bool, true, false, eqb, List, [], ◌∷◌, ◌++◌, map, length, get_or, take, is_some, MatchOption, Some, None, Option, sym, refl, ap, ◌∙◌, subst, ⊎_elim, add-one, arith}
use Rattle.std.proofs.lemmas.List.{length_push, map_push, get_or_append_left, get_or_at}
use Rattle.std.proofs.lemmas.List.FromFn.{map-range_with_len_more}
use Rattle.std.proofs.lemmas.Simd.{map-map}
use Rattle.std.proofs.lemmas.Option.{none-some, slice_get-get_or}
use Rattle.std.proofs.lemmas.Bool.{and_parts, not-true, cond_both, cases_eq}
use Rattle.std.specs.List.{slice_get, range_with_len, position}
use Rattle.std.specs.Option.{option_to_list}
use Rattle.accounts.specs.declared.record.Record.{Record}
use Rattle.accounts.specs.Ranges.{in_range}
use Rattle.accounts.specs.Books.{accounts, find, present, distinct, every}
use Rattle.accounts.proofs.Finding.{find_position, distinct_more, found_present, distinct_push}
use Rattle.accounts.proofs.Keeping.{every_push}
use Rattle.books.specs.Codec.{decoded}
use Rattle.books.proofs.Inverse.{holds_decoded, in_range_decoded}
use Rattle.books.specs.Images.{capacity_of, slot, slots_in, record_at, held, account_in}
use Rattle.books.specs.ImageRefusals.{unfit_after, unfit, first_unfit}
use Rattle.books.specs.Reading.{Legible}
use Rattle.books.proofs.Slots.{first_slots, record_here}

pub some_of : {X : Type 0} (o : Option X) → is_some o ≡ true → (x : X) × (o ≡ Some x)
some_of None h = grind arith
some_of (Some x) h = (x, refl)

legible_of : (earlier : List ℕ) (o : Option Record) → unfit_after earlier o ≡ false → is_some o ≡ true
legible_of earlier None h = grind arith
legible_of earlier (Some r) h = refl

module _ (bs : List ℕ) where
  pub held_more : (n : ℕ) (r : Record) → decoded (slot n bs) ≡ Some r → held (suc n) bs ≡ held n bs ++ r ∷ []
  unfolding held
  held_more n r e = ap (λ o. held n bs ++ option_to_list o) e

  pub legible_less : (n m : ℕ) → m ≤ n → Legible n bs → Legible m bs
  legible_less n m h l i k = l i (omega arith)

  pub length_held : (n : ℕ) → Legible n bs → length (held n bs) ≡ n
  unfolding held
  length_held zero l = refl
  length_held (suc n) l =
      let s = some_of (decoded (slot n bs)) (l n (omega arith)) in
      let e = ap length (held_more n s.0 s.1) in
      let p = length_push (held n bs) s.0 in
      let ih = length_held n (legible_less (suc n) n (omega arith) l) in
      omega arith

  account_of : (i : ℕ) (r : Record) → decoded (slot i bs) ≡ Some r → account_in (slot i bs) ≡ r.account
  unfolding account_in
  account_of i r e = (holds_decoded (slot i bs) r e).account

  accounts_held : (n : ℕ) → Legible n bs → accounts (held n bs) ≡ map (λ i. account_in (slot i bs)) (range_with_len 0 n)
  unfolding held
  accounts_held zero l = refl
  accounts_held (suc n) l =
      let s = some_of (decoded (slot n bs)) (l n (omega arith)) in
      let e = ap accounts (held_more n s.0 s.1) in
      let p = map_push (λ (r : Record). r.account) (held n bs) s.0 in
      let a = account_of n s.0 s.1 in
      let ih = accounts_held n (legible_less (suc n) n (omega arith) l) in
      let m = map-range_with_len_more (λ i. account_in (slot i bs)) 0 n n (omega arith) in
      let k = ap (λ j. map (λ i. account_in (slot i bs)) (range_with_len 0 j)) (add-one n) in
      e ∙ (p ∙ (ap (λ xs. xs ++ s.0.account ∷ []) ih ∙ (ap (λ x. map (λ i. account_in (slot i bs)) (range_with_len 0 n) ++ x ∷ []) (sym a) ∙ (sym m ∙ k))))

  -- a search among the first places
  pub found_held : (n a : ℕ) → Legible n bs → n ≤ capacity_of bs → position (λ s. eqb (account_in s) a) (take n (slots_in bs)) ≡ find a (accounts (held n bs))
  found_held n a l h =
      find_position account_in a (take n (slots_in bs)) ∙ ap (find a) (ap (map account_in) (first_slots bs n h) ∙ (map-map account_in (λ i. slot i bs) (range_with_len 0 n) ∙ sym (accounts_held n l)))

  getD_held : (n i : ℕ) (r d : Record) → Legible n bs → i < n → decoded (slot i bs) ≡ Some r → get_or (held n bs) i d ≡ r
  unfolding held
  getD_held zero i r d l h e = absurd (omega arith)
  getD_held (suc n) i r d l h e =
      let s = some_of (decoded (slot n bs)) (l n (omega arith)) in
      let l' = legible_less (suc n) n (omega arith) l in
      let m = ap (λ xs. get_or xs i d) (held_more n s.0 s.1) in
      let len = length_held n l' in
      ⊎_elim
      (λ q.
      let o : Some s.0 ≡ Some r = sym s.1 ∙ (ap (λ j. decoded (slot j bs)) (sym q) ∙ e) in
      let x : s.0 ≡ r = cc in
      m ∙ (get_or_at (held n bs) s.0 [] d i (len ∙ sym q) ∙ x))
      (λ q. m ∙ (get_or_append_left (held n bs) (s.0 ∷ []) d i (omega arith) ∙ getD_held n i r d l' (omega arith) e))
      (cases_eq i n)

  pub nth_held : (n i : ℕ) → Legible n bs → i < n → slice_get (held n bs) i ≡ decoded (slot i bs)
  nth_held n i l h =
      let s = some_of (decoded (slot i bs)) (l i h) in
      let len = length_held n l in
      slice_get-get_or (held n bs) i s.0 (omega arith) ∙ (ap Some (getD_held n i s.0 s.0 l h s.1) ∙ sym s.1)

  -- places that are fit one after the other hold a proper list
  pub legible_fit : (n : ℕ) → ((j : ℕ) → j < n → unfit j bs ≡ false) → Legible n bs
  legible_fit n f i h = legible_of (accounts (held i bs)) (decoded (slot i bs)) (f i h)

  pub distinct_fit : (n : ℕ) → ((j : ℕ) → j < n → unfit j bs ≡ false) → distinct (accounts (held n bs)) ≡ true
  unfolding held
  distinct_fit zero f = refl
  distinct_fit (suc n) f =
      let s = some_of (decoded (slot n bs)) (legible_fit (suc n) f n (omega arith)) in
      let u : present s.0.account (accounts (held n bs)) ≡ false = subst (λ o. unfit_after (accounts (held n bs)) o ≡ false) s.1 (f n (omega arith)) in
      let ih = distinct_fit n (λ j h. f j (omega arith)) in
      let e = ap accounts (held_more n s.0 s.1) ∙ map_push (λ (r : Record). r.account) (held n bs) s.0 in
      ap distinct e ∙ distinct_push s.0.account (accounts (held n bs)) ih u

  pub every_held : (n : ℕ) → Legible n bs → every in_range (held n bs) ≡ true
  unfolding held
  every_held zero l = refl
  every_held (suc n) l =
      let s = some_of (decoded (slot n bs)) (l n (omega arith)) in
      ap (every in_range) (held_more n s.0 s.1)
      ∙ every_push in_range (held n bs) s.0 (every_held n (legible_less (suc n) n (omega arith) l)) (in_range_decoded (slot n bs) s.0 s.1)

  -- and a legible list with no account twice has no unfit place
  pub fit_each : (n : ℕ) → Legible n bs → distinct (accounts (held n bs)) ≡ true → (j : ℕ) → j < n → unfit j bs ≡ false
  unfolding held
  fit_each zero l d j h = absurd (omega arith)
  fit_each (suc n) l d j h =
      let s = some_of (decoded (slot n bs)) (l n (omega arith)) in
      let e = ap accounts (held_more n s.0 s.1) ∙ map_push (λ (r : Record). r.account) (held n bs) s.0 in
      let d' = and_parts _ _ (sym (distinct_more s.0.account (accounts (held n bs))) ∙ (ap distinct (sym e) ∙ d)) in
      ⊎_elim
      (λ q.
      let u : unfit n bs ≡ false = ap (unfit_after (accounts (held n bs))) s.1 ∙ not-true _ d'.1 in
      ap (λ k. unfit k bs) q ∙ u)
      (λ q. fit_each n (legible_less (suc n) n (omega arith) l) d'.0 j (omega arith))
      (cases_eq j n)

  pub fit_none : (k i : ℕ) → ((j : ℕ) → i ≤ j → j < i + k → unfit j bs ≡ false) → first_unfit k i bs ≡ None
  fit_none zero i f = refl
  fit_none (suc k) i f = rw (f i (omega arith) (omega arith)) (fit_none k (i + 1) (λ j h l. f j (omega arith) (omega arith)))

  pub none_fit : (k i : ℕ) → first_unfit k i bs ≡ None → (j : ℕ) → i ≤ j → j < i + k → unfit j bs ≡ false
  none_fit zero i e j h l = absurd (omega arith)
  none_fit (suc k) i e j h l =
      cond_both (unfit i bs) (Some i) (first_unfit k (i + 1) bs) (λ o. o ≡ None → unfit j bs ≡ false)
      (λ _ f. absurd (none-some i (sym f)))
      (λ u f. ⊎_elim (λ q. ap (λ m. unfit m bs) (sym q) ∙ u) (λ q. none_fit k (i + 1) f j (omega arith) (omega arith)) (cases_eq i j))
      e

  fit_some : (k i m : ℕ) → m < k → ((j : ℕ) → i ≤ j → j < i + m → unfit j bs ≡ false) → unfit (i + m) bs ≡ true → first_unfit k i bs ≡ Some (i + m)
  fit_some zero i m h f u = absurd (omega arith)
  fit_some (suc k) i zero h f u =
      let e : i + 0 ≡ i = omega arith in
      rw e (rw (subst (λ j. unfit j bs ≡ true) e u) refl)
  fit_some (suc k) i (suc m) h f u =
      let e : i + suc m ≡ i + 1 + m = omega arith in
      rw (f i (omega arith) (omega arith), e) (fit_some k (i + 1) m (omega arith) (λ j p q. f j (omega arith) (omega arith)) (subst (λ j. unfit j bs ≡ true) e u))

  -- what is judged of a place whose earlier places are legible
  abbrev pub Judged : ℕ → Bool → Type 0
  Judged i b = i < capacity_of bs → Legible i bs → b ≡ unfit i bs

  all_fit : (n : ℕ) → n ≤ capacity_of bs → ((k : ℕ) → k < n → Judged k false) → (k : ℕ) → k < n → unfit k bs ≡ false
  all_fit zero h f k l = absurd (omega arith)
  all_fit (suc n) h f k l =
      let before = all_fit n (omega arith) (λ j q. f j (omega arith)) in
      ⊎_elim (λ q. ap (λ j. unfit j bs) q ∙ sym (f n (omega arith) (omega arith) (legible_fit n before))) (λ q. before k (omega arith)) (cases_eq k n)

  -- the first place that is judged unfit
  pub first_judged : (n : ℕ) → n ≤ capacity_of bs → (o : Option ℕ) → MatchOption o ((k : ℕ) → 0 ≤ k → k < n → Judged k false) (λ i. (0 ≤ i) × (i < n) × Judged i true × ((k : ℕ) → 0 ≤ k → k < i → Judged k false)) → o ≡ first_unfit n 0 bs
  first_judged n h None f = let fit = all_fit n h (λ k q. f k (omega arith) q) in sym (fit_none n 0 (λ j p q. fit j (omega arith)))
  first_judged n h (Some i) (low, l, u, f) =
      let fit = all_fit i (omega arith) (λ k q. f k (omega arith) q) in
      let e : 0 + i ≡ i = omega arith in
      let there = sym (u (omega arith) (legible_fit i fit)) in
      sym (fit_some n 0 i l (λ j p q. fit j (omega arith)) (ap (λ j. unfit j bs) e ∙ there) ∙ ap Some e)

  -- a record is fit where a search of the earlier places does not find its account
  pub unfit_found : (i : ℕ) (r : Record) → Legible i bs → i ≤ capacity_of bs → decoded (slot i bs) ≡ Some r → is_some (position (λ s. eqb (account_in s) r.account) (take i (slots_in bs))) ≡ unfit i bs
  unfit_found i r l h e =
      ap is_some (found_held i r.account l h)
      ∙ (found_present r.account 0 (accounts (held i bs)) ∙ ap (unfit_after (accounts (held i bs))) (sym e))

  -- and one that cannot be read is unfit
  pub unfit_told : (i : ℕ) (t : Bool) (o : Option Record) → o ≡ record_at bs i → MatchOption o (t ≡ true) (λ r. t ≡ is_some (position (λ s. eqb (account_in s) r.account) (take i (slots_in bs)))) → i < capacity_of bs → Legible i bs → t ≡ unfit i bs
  unfit_told i t None e m h l = m ∙ ap (unfit_after (accounts (held i bs))) (e ∙ record_here bs i h)
  unfit_told i t (Some r) e m h l = m ∙ unfit_found i r l (omega arith) (sym (e ∙ record_here bs i h))
