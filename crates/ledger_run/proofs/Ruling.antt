-- Each bill, close and refusal keeps its rule.
use Rattle.std.proofs.Common.{◌≡◌, ℕ, true, arith}
use Rattle.crediting.specs.Credits.{Lawful}
use Rattle.crediting.specs.Ranges.{is_class}
use Rattle.ledger.specs.States.{State}
use Rattle.ledger.proofs.Fees.{utility_covered}
use Rattle.ledger_run.specs.Histories as history
use Rattle.ledger_run.specs.Histories.{Event, History}
use Rattle.ledger_run.specs.Laws.{EventRule}
use Rattle.ledger_run.proofs.Moves.{Moves}
use Rattle.ledger_run.proofs.Posted.{posted}
use Rattle.ledger_run.proofs.Standing.{Stands, bounds_at}

module _ {M : Type 0} (worth : M → ℕ → ℕ → ℕ) (lawful : (m : M) (k : ℕ) → is_class k ≡ true → Lawful (worth m k)) where
  pub rule_on : (e : Event M) (h : History M) (s t : State) → Stands worth h s → Moves worth e s t → EventRule worth e h
  rule_on (history.billed m₁ account cents p) h s t i m = rw m.comes (posted worth lawful h s m₁ account cents m.r i m.billable).rule
  rule_on (history.finally_billed m₁ account cents p forfeited) h s t i m = rw m.comes (posted worth lawful h s m₁ account cents m.r i m.billable).rule
  rule_on (history.closed x) h s t i m =
      let bounds = bounds_at s.phase m.applied m.fees _ m.at i.bounded in
      let most = utility_covered m.applied m.fees bounds.paid in
      rw m.comes (record { covered = most; rest = omega arith })
  rule_on (history.declined c why) h s t i m = m.own
  rule_on (history.enrolled ls new) h s t i m = tt
  rule_on (history.opened units period) h s t i m = tt
  rule_on (history.disbursed account units bank) h s t i m = tt
  rule_on (history.lapsed forfeited) h s t i m = tt
