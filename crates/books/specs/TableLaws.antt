-- Lemmas that the table's `impl` names, and that need not be believed.
use Rattle.std.proofs.Common.{◌≡◌, ℕ, ◌+◌, ◌-◌, ◌≤◌, List, drop, sym, refl, ap, ◌∙◌, arith}
use Rattle.std.proofs.lemmas.List.{drop-drop}
use Rattle.books.specs.declared.table.TableBook.{TableBook}
use Rattle.books.specs.Tables.{SameRest}

-- what lists have in common from a place on they have from a later place on
pub past_later : {X : Type 0} (n m : ℕ) (xs ys : List X) → n ≤ m → drop n xs ≡ drop n ys → drop m xs ≡ drop m ys
past_later n m xs ys h e =
    let k : n + (m - n) ≡ m = omega arith in
    ap (λ i. drop i xs) (sym k)
    ∙ (sym (drop-drop (m - n) n xs) ∙ (ap (drop (m - n)) e ∙ (drop-drop (m - n) n ys ∙ ap (λ i. drop i ys) k)))

pub stays : (b : TableBook) → SameRest b b
stays b = record { grows = omega arith; same_length = refl; past = refl }

pub follows : (a b c : TableBook) → SameRest a b → SameRest b c → SameRest a c
follows a b c h k = record {
  grows = omega (arith, h.grows, k.grows);
  same_length = k.same_length ∙ h.same_length;
  past = k.past ∙ past_later b.count c.count b.table.now a.table.now k.grows h.past;
}
