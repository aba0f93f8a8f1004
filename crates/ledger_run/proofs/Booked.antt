-- The records stay within the room of the book, and their percentages within the whole.
use Rattle.std.proofs.Common.{◌≡◌, ℕ, ◌+◌, ◌≤◌, List, map, length, vec_items, sym, subst, arith, sum_by}
use Rattle.std.proofs.lemmas.List.{length-map}
use Rattle.base.specs.Limits.{most_records, whole}
use Rattle.accounts.specs.declared.record.Line.{Line}
use Rattle.accounts.specs.declared.record.Record.{Record}
use Rattle.accounts.proofs.Found.{found_account, put_length, put_sum}
use Rattle.accounts.specs.Records.{holding, put}
use Rattle.sharing.proofs.Totals.{sum_by-map, sum_by_nothing}
use Rattle.sharing.specs.Shares.{gaining}
use Rattle.ledger.proofs.Entering.{unallocated_accounts}
use Rattle.ledger.specs.Lines.{enrolled, new_accounts}
use Rattle.ledger.specs.Records.{billed, ended, unallocated}
use Rattle.ledger.specs.States.{State}
use Rattle.ledger_run.specs.Histories as history
use Rattle.ledger_run.specs.Histories.{Event}
use Rattle.ledger_run.proofs.Entering.{entered_held, entered_length, entered_percentages}
use Rattle.ledger_run.proofs.Moves.{Moves}

pub record Booked (s : State) : Type 0 where
  pub fits : length s.records ≤ s.room
  pub few : s.room ≤ most_records
  pub whole : sum_by (λ r. r.percentage) s.records ≤ whole

-- what an enrolment makes of the records
pub record Entered (rs : List Record) (ls : List Line) : Type 0 where
  pub size : length (enrolled rs ls) ≤ length rs + new_accounts rs ls
  pub whole : sum_by (λ r. r.percentage) (enrolled rs ls) ≤ sum_by (λ l. l.percentage) ls
  pub held : sum_by (λ r. r.held) (enrolled rs ls) ≡ sum_by (λ r. r.held) rs

pub entered : (rs : List Record) (ls : List Line) → Entered rs ls
entered rs ls =
    let none : List Record = map unallocated rs in
    let length₀ = length-map rs unallocated in
    let percent₀ = sum_by-map (λ (r : Record). r.percentage) unallocated rs in
    let zero₀ = sum_by_nothing rs in
    let held₀ = sum_by-map (λ (r : Record). r.held) unallocated rs in
    record {
      size = omega (arith, entered_length rs none ls (λ a p. rw unallocated_accounts p));
      whole = omega (arith, entered_percentages none ls);
      held = omega (arith, entered_held none ls);
    }

module _ {M : Type 0} (worth : M → ℕ → ℕ → ℕ) where
  pub booked_on : (e : Event M) (s t : State) → Booked s → Moves worth e s t → Booked t
  booked_on (history.enrolled ls new) s t b m =
      let n = entered s.records (vec_items ls) in
      let ok = m.ok in
      subst Booked (sym m.is) (record { fits = omega arith; few = b.few; whole = omega arith })
  booked_on (history.opened units period) s t b m =
      let size = length-map s.records (gaining units) in
      let same = sum_by-map (λ (r : Record). r.percentage) (gaining units) s.records in
      subst Booked (sym m.is) (record { fits = omega arith; few = b.few; whole = omega arith })
  booked_on (history.billed m₁ account cents p) s t b m =
      let n : Record = billed (s.closed + 1) p.used m.r in
      let size = put_length n s.records in
      let same = put_sum (λ r. r.percentage) account n s.records m.r (found_account account s.records m.r m.billable.found) m.billable.found in
      subst Booked (sym m.is) (record { fits = omega arith; few = b.few; whole = omega arith })
  booked_on (history.finally_billed m₁ account cents p forfeited) s t b m =
      let n : Record = ended (s.closed + 1) m.r in
      let size = put_length n s.records in
      let same = put_sum (λ r. r.percentage) account n s.records m.r (found_account account s.records m.r m.billable.found) m.billable.found in
      subst Booked (sym m.is) (record { fits = omega arith; few = b.few; whole = omega arith })
  booked_on (history.disbursed account units bank) s t b m =
      let n : Record = holding (m.r.held + units) m.r in
      let size = put_length n s.records in
      let same = put_sum (λ r. r.percentage) account n s.records m.r (found_account account s.records m.r m.found) m.found in
      subst Booked (sym m.is) (record { fits = omega arith; few = b.few; whole = omega arith })
  booked_on e s t b m = subst Booked (sym m.is) (record { fits = b.fits; few = b.few; whole = b.whole })
