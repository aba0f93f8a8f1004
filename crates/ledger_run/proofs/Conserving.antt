-- Units and cents are conserved.
use Rattle.std.proofs.Common.{◌≡◌, ℕ, ◌+◌, ◌-◌, ◌≤◌, true, List, ◌∷◌, map, vec_items, sym, refl, ap, subst, ◌∙◌, arith, sum_by}
use Rattle.std.proofs.lemmas.List.Sums.{sum_by-cons}
use Rattle.accounts.specs.declared.record.Record.{Record}
use Rattle.accounts.specs.Records.{holding, put}
use Rattle.accounts.proofs.Found.{found_account, put_sum}
use Rattle.crediting.specs.Credits.{Lawful}
use Rattle.crediting.specs.Ranges.{is_class}
use Rattle.sharing.specs.Shares.{gaining, share, shares}
use Rattle.sharing.proofs.Totals.{sum_by-map, sum_by_plus}
use Rattle.ledger.specs.Phases.{fees_in}
use Rattle.ledger.specs.Records.{billed, ended}
use Rattle.ledger.specs.States.{State}
use Rattle.ledger.proofs.Fees.{utility_covered}
use Rattle.ledger_run.specs.Histories as history
use Rattle.ledger_run.specs.Histories.{Event, History}
use Rattle.ledger_run.specs.Laws.{CentsAdd, UnitsAdd}
use Rattle.ledger_run.proofs.Booked.{entered}
use Rattle.ledger_run.proofs.Moves.{Moves}
use Rattle.ledger_run.proofs.Posted.{posted}
use Rattle.ledger_run.proofs.Standing.{Stands, bounds_at}
use Rattle.ledger_run.proofs.Stepping.{shares_fit}

-- what the records hold after a reading
gained_held : (units : ℕ) (rs : List Record) → sum_by (λ r. r.held) (map (gaining units) rs) ≡ sum_by (λ r. r.held) rs + shares units rs
gained_held units rs = sum_by-map (λ r. r.held) (gaining units) rs ∙ sym (sum_by_plus (λ r. r.held) (λ r. share units r.percentage) rs)

module _ {M : Type 0} (worth : M → ℕ → ℕ → ℕ) (lawful : (m : M) (k : ℕ) → is_class k ≡ true → Lawful (worth m k)) where
  pub units_on : (e : Event M) (h : History M) (s t : State) → Stands worth h s → Moves worth e s t → UnitsAdd (e ∷ h) t
  units_on (history.enrolled ls new) h s t i m =
      let n = entered s.records (vec_items ls) in
      subst (UnitsAdd (history.enrolled ls new ∷ h)) (sym m.is) (omega (arith, i.law.units, n.held, sum_by-cons {X = Event M}))
  units_on (history.opened units period) h s t i m =
      let fit = shares_fit units s.records i.booked.whole in
      subst (UnitsAdd (history.opened units period ∷ h)) (sym m.is) (omega (arith, i.law.units, fit, gained_held units s.records, sum_by-cons {X = Event M}))
  units_on (history.billed m₁ account cents p) h s t i m =
      let q = posted worth lawful h s m₁ account cents m.r i m.billable in
      let inside : p.used ≤ m.r.held = rw m.comes q.inside in
      let held = put_sum (λ r. r.held) account (billed (s.closed + 1) p.used m.r) s.records m.r (found_account account s.records m.r m.billable.found) m.billable.found in
      subst (UnitsAdd (history.billed m₁ account cents p ∷ h)) (sym m.is) (omega (arith, i.law.units, sum_by-cons {X = Event M}))
  units_on (history.finally_billed m₁ account cents p forfeited) h s t i m =
      let q = posted worth lawful h s m₁ account cents m.r i m.billable in
      let inside : p.used ≤ m.r.held = rw m.comes q.inside in
      let lost = m.loses in
      let held = put_sum (λ r. r.held) account (ended (s.closed + 1) m.r) s.records m.r (found_account account s.records m.r m.billable.found) m.billable.found in
      subst (UnitsAdd (history.finally_billed m₁ account cents p forfeited ∷ h)) (sym m.is) (omega (arith, i.law.units, sum_by-cons {X = Event M}))
  units_on (history.disbursed account units bank) h s t i m =
      let enough = m.enough in
      let held = put_sum (λ r. r.held) account (holding (m.r.held + units) m.r) s.records m.r (found_account account s.records m.r m.found) m.found in
      subst (UnitsAdd (history.disbursed account units bank ∷ h)) (sym m.is) (omega (arith, i.law.units, sum_by-cons {X = Event M}))
  units_on (history.lapsed forfeited) h s t i m =
      let all = m.all in
      subst (UnitsAdd (history.lapsed forfeited ∷ h)) (sym m.is) (omega (arith, i.law.units, sum_by-cons {X = Event M}))
  units_on e h s t i m = subst (UnitsAdd (e ∷ h)) (sym m.is) (omega (arith, i.law.units, sum_by-cons {X = Event M}))

  pub cents_on : (e : Event M) (h : History M) (s t : State) → Stands worth h s → Moves worth e s t → CentsAdd (e ∷ h) t
  cents_on (history.opened units period) h s t i m =
      let none : fees_in s.phase ≡ 0 = ap fees_in m.between in
      subst (CentsAdd (history.opened units period ∷ h)) (sym m.is) (omega (arith, i.law.cents, sum_by-cons {X = Event M}))
  cents_on (history.billed m₁ account cents p) h s t i m =
      let q = posted worth lawful h s m₁ account cents m.r i m.billable in
      let split : p.net + p.fee ≡ p.applied = rw m.comes q.split in
      let now : fees_in s.phase ≡ m.fees = ap fees_in m.at in
      subst (CentsAdd (history.billed m₁ account cents p ∷ h)) (sym m.is) (omega (arith, i.law.cents, sum_by-cons {X = Event M}))
  cents_on (history.finally_billed m₁ account cents p forfeited) h s t i m =
      let q = posted worth lawful h s m₁ account cents m.r i m.billable in
      let split : p.net + p.fee ≡ p.applied = rw m.comes q.split in
      let now : fees_in s.phase ≡ m.fees = ap fees_in m.at in
      subst (CentsAdd (history.finally_billed m₁ account cents p forfeited ∷ h)) (sym m.is) (omega (arith, i.law.cents, sum_by-cons {X = Event M}))
  cents_on (history.closed x) h s t i m =
      let bounds = bounds_at s.phase m.applied m.fees _ m.at i.bounded in
      let most = utility_covered m.applied m.fees bounds.paid in
      let now : fees_in s.phase ≡ m.fees = ap fees_in m.at in
      let paid : x.payment + x.utility ≡ m.fees = rw m.comes (omega arith) in
      subst (CentsAdd (history.closed x ∷ h)) (sym m.is) (omega (arith, i.law.cents, sum_by-cons {X = Event M}))
  cents_on e h s t i m = subst (CentsAdd (e ∷ h)) (sym m.is) (omega (arith, i.law.cents, sum_by-cons {X = Event M}))
