-- Each account's record is what the history says of it.
use Rattle.std.proofs.Common.{◌≡◌, ℕ, ◌+◌, ◌-◌, ◌≤◌, true, ◌∷◌, map, vec_items, sym, refl, subst, arith}
use Rattle.std.proofs.lemmas.Bool.{cond-false, cond-true, eq-eqb}
use Rattle.accounts.specs.declared.record.Record.{Record}
use Rattle.accounts.specs.Records.{holding, put, record_of}
use Rattle.accounts.proofs.Found.{found_account, map_found}
use Rattle.crediting.specs.Credits.{Lawful}
use Rattle.crediting.specs.Ranges.{is_class}
use Rattle.sharing.specs.Shares.{gaining}
use Rattle.ledger.specs.Records.{billed, ended, unallocated}
use Rattle.ledger.specs.States.{State}
use Rattle.ledger_run.specs.Histories as history
use Rattle.ledger_run.specs.Histories.{Event, History, class_of, disbursed_to, given, of_account, percentage_of, shares_of, used_by}
use Rattle.ledger_run.proofs.Entering.{entered_found}
use Rattle.ledger_run.proofs.Moves.{Moves}
use Rattle.ledger_run.proofs.Posted.{posted}
use Rattle.ledger_run.proofs.Standing.{AllTied, Stands, Ties}
use Rattle.ledger_run.proofs.Ties.{entry_tie, found_tie, gain_tie, held_tie, put_ties, tied_same}

module _ {M : Type 0} (worth : M → ℕ → ℕ → ℕ) (lawful : (m : M) (k : ℕ) → is_class k ≡ true → Lawful (worth m k)) where
  pub tied_on : (e : Event M) (h : History M) (s t : State) → Stands worth h s → Moves worth e s t → AllTied (e ∷ h) t
  unfolding percentage_of class_of shares_of disbursed_to used_by
  tied_on (history.enrolled ls new) h s t i m =
      subst (AllTied (history.enrolled ls new ∷ h)) (sym m.is)
      (λ a. rw (entered_found a (map unallocated s.records) (vec_items ls) m.ok.apart, map_found unallocated (λ r. refl) a s.records)
      (entry_tie _ _ _ _ a 0 (record_of a s.records) (vec_items ls) m.ok.ranged (i.ties a)))
  tied_on (history.opened units period) h s t i m =
      subst (AllTied (history.opened units period ∷ h)) (sym m.is)
      (λ a. rw (map_found (gaining units) (λ r. refl) a s.records) (gain_tie units _ _ (given a h) _ _ (record_of a s.records) (omega arith) (i.ties a)))
  tied_on (history.billed m₁ account cents p) h s t i m =
      let e : Event M = history.billed m₁ account cents p in
      let q = posted worth lawful h s m₁ account cents m.r i m.billable in
      let used = m.comes in
      let inside : p.used ≤ m.r.held = rw m.comes q.inside in
      let n : Record = billed (s.closed + 1) p.used m.r in
      let own : of_account account account p.used ≡ p.used = cond-true _ _ _ (eq-eqb account account refl) in
      subst (AllTied (e ∷ h)) (sym m.is)
      (put_ties (Ties h) (Ties (e ∷ h)) account n s.records m.r (found_account account s.records m.r m.billable.found) m.billable.found
      (held_tie _ _ _ _ _ _ (m.r.held - p.used) (s.closed + 1) m.r (λ o. omega arith) (λ _. q.tie))
      (λ a o other t. let none : of_account a account p.used ≡ 0 = cond-false _ _ _ other in tied_same _ _ _ (used_by a h) _ _ _ o refl refl (omega arith) t)
      i.ties)
  tied_on (history.finally_billed m₁ account cents p forfeited) h s t i m =
      let e : Event M = history.finally_billed m₁ account cents p forfeited in
      let n : Record = ended (s.closed + 1) m.r in
      subst (AllTied (e ∷ h)) (sym m.is)
      (put_ties (Ties h) (Ties (e ∷ h)) account n s.records m.r (found_account account s.records m.r m.billable.found) m.billable.found (λ closed. cc)
      (λ a o other t. let none : of_account a account p.used ≡ 0 = cond-false _ _ _ other in tied_same _ _ _ (used_by a h) _ _ _ o (cond-false _ _ _ other) refl (omega arith) t)
      i.ties)
  tied_on (history.disbursed account units bank) h s t i m =
      let e : Event M = history.disbursed account units bank in
      let n : Record = holding (m.r.held + units) m.r in
      let tie = found_tie _ _ _ _ _ m.r m.found m.unclosed (i.ties account) in
      let own : of_account account account units ≡ units = cond-true _ _ _ (eq-eqb account account refl) in
      subst (AllTied (e ∷ h)) (sym m.is)
      (put_ties (Ties h) (Ties (e ∷ h)) account n s.records m.r (found_account account s.records m.r m.found) m.found
      (held_tie _ _ _ _ _ _ (m.r.held + units) m.r.last m.r (λ o. omega arith) (λ _. tie))
      (λ a o other t. let none : of_account a account units ≡ 0 = cond-false _ _ _ other in tied_same _ _ (given a h) _ _ _ _ o refl (omega arith) refl t)
      i.ties)
  tied_on (history.lapsed forfeited) h s t i m = subst (AllTied (history.lapsed forfeited ∷ h)) (sym m.is) i.ties
  tied_on (history.closed x) h s t i m = subst (AllTied (history.closed x ∷ h)) (sym m.is) i.ties
  tied_on (history.declined c why) h s t i m = subst (AllTied (history.declined c why ∷ h)) (sym m.is) i.ties
