-- The definitions come to the numbers of the worked history.
use Rattle.std.proofs.Common.{◌≡◌, ℕ, ◌+◌, List, vec_items, refl, ap, ◌∙◌}
use Rattle.accounts.specs.declared.record.Line.{Line}
use Rattle.sharing.specs.Shares.{share}
use Rattle.ledger_run.specs.Histories.{class_on, percentage_on, percentage_of, class_of, shares_of, disbursed_to, used_by}
use Rattle.ledger_run.specs.WorkedHistory.{WorkedHistory, first_lines, second_lines}

pub history : WorkedHistory
unfolding percentage_of class_of shares_of disbursed_to used_by
history first second e f =
    let by : (n : List Line → List Line → ℕ) → n (vec_items first) (vec_items second) ≡ n first_lines second_lines = λ n. ap (λ x. n x (vec_items second)) e ∙ ap (λ y. n first_lines y) f in
    record {
      left = refl;
      shared = by (λ x y. share 1000 (percentage_on 1 y) + (share 1000 (percentage_on 1 x) + 0));
      disbursed = refl;
      given = by (λ x y. share 1000 (percentage_on 1 y) + (share 1000 (percentage_on 1 x) + 0) + 7);
      used = refl;
      classed = by (λ x y. class_on 1 (class_on 1 0 x) y);
      other_left = by (λ x y. percentage_on 2 y);
      other_shared = by (λ x y. share 1000 (percentage_on 2 y) + (share 1000 (percentage_on 2 x) + 0));
      other_disbursed = refl;
      other_used = refl;
      other_classed = by (λ x y. class_on 2 (class_on 2 0 x) y);
      read = refl;
      forfeited = refl;
      units_of_bills = refl;
      fees = refl;
      paid = refl;
    }
