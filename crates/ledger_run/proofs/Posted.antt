-- What a bill of a billable record comes to.
use Rattle.std.proofs.Common.{◌≡◌, ℕ, ◌+◌, ◌-◌, ◌*◌, ◌≤◌, true, refl, subst₂, arith, sum_by}
use Rattle.base.specs.Limits.{most_bill, most_units}
use Rattle.accounts.specs.declared.record.Record.{Record}
use Rattle.accounts.proofs.Found.{found_within}
use Rattle.crediting.proofs.Fewest.{meant}
use Rattle.crediting.specs.Credits.{Credited, Lawful}
use Rattle.crediting.specs.Ranges.{is_class}
use Rattle.ledger.specs.declared.answer.Posting.{Posting}
use Rattle.ledger.specs.Rules.{counted}
use Rattle.ledger.specs.States.{State}
use Rattle.ledger.specs.Steps.{posting}
use Rattle.ledger.proofs.Fees.{fee_covers}
use Rattle.ledger_run.specs.Histories.{History, class_of, given, percentage_of, used_by}
use Rattle.ledger_run.specs.Laws.{BillRule}
use Rattle.ledger_run.proofs.Amounts.{counted_within, in_range_all, net_and_fee}
use Rattle.ledger_run.proofs.Moves.{Billable}
use Rattle.ledger_run.proofs.Standing.{Stands, held_within}
use Rattle.ledger_run.proofs.Ties.{TiedOpen, found_tie}

module _ {M : Type 0} (worth : M → ℕ → ℕ → ℕ) where
  pub record Posted (h : History M) (m : M) (account cents : ℕ) (r : Record) (p : Posting) : Type 0 where
    pub tie : TiedOpen (percentage_of account h) (class_of account h) (given account h) (used_by account h) r
    pub rule : BillRule (worth m (class_of account h)) (given account h) (used_by account h) cents p
    pub inside : p.used ≤ r.held
    pub split : p.net + p.fee ≡ p.applied
    pub paid : counted r.kind p.applied ≤ 50 * p.fee
    pub small : counted r.kind p.applied ≤ most_bill

  pub posted : (lawful : (m : M) (k : ℕ) → is_class k ≡ true → Lawful (worth m k)) (h : History M) (s : State) (m : M) (account cents : ℕ) (r : Record) → Stands worth h s → Billable account cents (s.closed + 1) s.records r → Posted h m account cents r (posting (worth m) r cents)
  posted lawful h s m account cents r i b =
      let t = found_tie _ _ _ _ _ r b.found b.unclosed (i.ties account) in
      let most = found_within (λ r. r.held) account s.records r b.found in
      let top : r.held ≤ most_units = omega (arith, held_within worth h s i, i.readings.within) in
      let had : r.held ≡ given account h - used_by account h = omega arith in
      let p : Posting = posting (worth m) r cents in
      let own = meant (worth m) r.class r.held cents p.applied p.used (λ _. lawful m r.class t.is) refl refl in
      let rule = (own.meaning (in_range_all r.class r.held cents t.is top b.small)).0 in
      let one = counted_within r.kind p.applied in
      record {
        tie = t;
        rule = record {
          covered = omega arith;
          within = omega arith;
          credit = subst₂ (λ k u. Credited (worth m k) u cents p.applied p.used) t.classed had rule;
        };
        inside = own.within.units;
        split = net_and_fee r.kind r.savings p.applied t.low;
        paid = fee_covers r.kind r.savings p.applied t.low;
        small = omega (arith, own.within.cents);
      }
