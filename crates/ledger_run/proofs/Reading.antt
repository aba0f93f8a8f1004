-- The ledger's readings are those of the history.
use Rattle.std.proofs.Common.{◌≡◌, ℕ, ◌∷◌, sym, subst, arith}
use Rattle.std.proofs.lemmas.List.Sums.{sum_by-cons}
use Rattle.ledger.specs.States.{State}
use Rattle.ledger_run.specs.Histories as history
use Rattle.ledger_run.specs.Histories.{Event, History}
use Rattle.ledger_run.proofs.Moves.{Moves}
use Rattle.ledger_run.proofs.Standing.{ReadSoFar}

module _ {M : Type 0} (worth : M → ℕ → ℕ → ℕ) where
  pub reading_on : (e : Event M) (h : History M) (s t : State) → ReadSoFar h s → Moves worth e s t → ReadSoFar (e ∷ h) t
  reading_on (history.opened units period) h s t i m =
      subst (ReadSoFar _) (sym m.is) (record { all = omega (arith, i.all, sum_by-cons {X = Event M}); within = m.small })
  reading_on e h s t i m =
      subst (ReadSoFar _) (sym m.is) (record { all = omega (arith, i.all, sum_by-cons {X = Event M}); within = i.within })
