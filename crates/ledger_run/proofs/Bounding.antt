-- The open period's fees cover its utility fee, and its applied credits are bounded by the number of bills.
use Rattle.std.proofs.Common.{◌≡◌, ℕ, ◌+◌, ◌*◌, ◌≤◌, cond, eqb, List, true, refl, sym, subst, arith, sum_by}
use Rattle.std.proofs.lemmas.Bool.Decides.{nat_tests}
use Rattle.base.specs.Limits.{most_bill}
use Rattle.accounts.specs.declared.record.Record.{Record}
use Rattle.accounts.specs.Records.{put, record_of}
use Rattle.accounts.proofs.Found.{found_account, put_sum}
use Rattle.crediting.specs.Credits.{Lawful}
use Rattle.crediting.specs.Ranges.{is_class}
use Rattle.ledger.specs.declared.answer.Posting.{Posting}
use Rattle.ledger.specs.Records.{billed, ended}
use Rattle.ledger.specs.Rules.{counted}
use Rattle.ledger.specs.States.{State}
use Rattle.ledger.specs.Steps.{posting}
use Rattle.ledger_run.specs.Histories as history
use Rattle.ledger_run.specs.Histories.{Event, History}
use Rattle.ledger_run.proofs.Moves.{Billable, Moves}
use Rattle.ledger_run.proofs.Posted.{posted}
use Rattle.ledger_run.proofs.Standing.{Bounded, InBounds, Stands, billed_in, bounds_at, unbounded}

-- one more record is billed in the period
one_more : (account cents period : ℕ) (n r : Record) (rs : List Record) → n.account ≡ account → n.last ≡ period → Billable account cents period rs r → billed_in period (put n rs) ≡ billed_in period rs + 1
one_more account cents period n r rs same last b =
    let sum = put_sum (λ (x : Record). cond (eqb x.last period) 1 0) account n rs r same b.found in
    let unbilled = b.unbilled in
    grind (arith, nat_tests)

raise : (applied fees bills more fee bills' : ℕ) → InBounds applied fees bills → more ≤ 50 * fee → more ≤ most_bill → bills' ≡ bills + 1 → InBounds (applied + more) (fees + fee) bills'
raise applied fees bills more fee bills' b paid small one = record { paid = omega arith; small = omega arith }

module _ {M : Type 0} (worth : M → ℕ → ℕ → ℕ) (lawful : (m : M) (k : ℕ) → is_class k ≡ true → Lawful (worth m k)) where
  pub bounded_on : (e : Event M) (h : History M) (s t : State) → Stands worth h s → Moves worth e s t → Bounded t
  bounded_on (history.enrolled ls new) h s t i m = subst Bounded (sym m.is) (unbounded s.phase _ m.between)
  bounded_on (history.opened units period) h s t i m = subst Bounded (sym m.is) (record { paid = omega arith; small = omega arith })
  bounded_on (history.billed m₁ account cents p) h s t i m =
      let q = posted worth lawful h s m₁ account cents m.r i m.billable in
      let n : Record = billed (s.closed + 1) p.used m.r in
      let one = one_more account cents (s.closed + 1) n m.r s.records (found_account account s.records m.r m.billable.found) refl m.billable in
      let paid : counted m.r.kind p.applied ≤ 50 * p.fee = rw m.comes q.paid in
      let small : counted m.r.kind p.applied ≤ most_bill = rw m.comes q.small in
      subst Bounded (sym m.is) (raise m.applied m.fees _ _ _ _ (bounds_at s.phase m.applied m.fees _ m.at i.bounded) paid small one)
  bounded_on (history.finally_billed m₁ account cents p forfeited) h s t i m =
      let q = posted worth lawful h s m₁ account cents m.r i m.billable in
      let n : Record = ended (s.closed + 1) m.r in
      let one = one_more account cents (s.closed + 1) n m.r s.records (found_account account s.records m.r m.billable.found) refl m.billable in
      let paid : counted m.r.kind p.applied ≤ 50 * p.fee = rw m.comes q.paid in
      let small : counted m.r.kind p.applied ≤ most_bill = rw m.comes q.small in
      subst Bounded (sym m.is) (raise m.applied m.fees _ _ _ _ (bounds_at s.phase m.applied m.fees _ m.at i.bounded) paid small one)
  bounded_on (history.disbursed account units bank) h s t i m = subst Bounded (sym m.is) (unbounded s.phase _ m.between)
  bounded_on (history.lapsed forfeited) h s t i m = subst Bounded (sym m.is) i.bounded
  bounded_on (history.closed x) h s t i m = subst Bounded (sym m.is) tt
  bounded_on (history.declined c why) h s t i m = subst Bounded (sym m.is) i.bounded
