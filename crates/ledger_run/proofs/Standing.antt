-- What stands after every call of a run: the law so far, and what ties the ledger and its records to the history.
use Rattle.std.proofs.Common.{◌≡◌, ℕ, ◌+◌, ◌*◌, ◌≤◌, cond, eqb, List, [], Option, sym, refl, subst, arith, sum_by}
use Rattle.base.specs.Limits.{most_bill, most_records}
use Rattle.accounts.specs.declared.project.Project.{Project}
use Rattle.accounts.specs.declared.record.Record.{Record}
use Rattle.accounts.specs.Records.{record_of}
use Rattle.ledger.specs.declared.phase.Phase.{Phase}
use Rattle.ledger.specs.declared.phase.Phase.TheVariants.{Between, InPeriod}
use Rattle.ledger.specs.Limits.{most_read}
use Rattle.ledger.specs.States.{State}
use Rattle.ledger.specs.Steps.{opened}
use Rattle.ledger_run.specs.Histories.{History, class_of, disbursed_to, given, percentage_of, shares_of, units_read, used_by}
use Rattle.ledger_run.specs.Laws.{Law}
use Rattle.ledger_run.proofs.Booked.{Booked}
use Rattle.ledger_run.proofs.Ties.{Tied}

-- the readings so far
pub record ReadSoFar {M : Type 0} (h : History M) (s : State) : Type 0 where
  pub all : s.read ≡ sum_by units_read h
  pub within : s.read ≤ most_read

-- how many records were billed in a period
abbrev pub billed_in : ℕ → List Record → ℕ
billed_in period rs = sum_by (λ r. cond (eqb r.last period) 1 0) rs

-- an open period's fees are at least a fiftieth of its applied credits, which are at most the largest bill for each record billed
pub record InBounds (applied fees billed : ℕ) : Type 0 where
  pub paid : applied ≤ 50 * fees
  pub small : applied ≤ most_bill * billed

abbrev pub Bounds : Phase → ℕ → Type 0
Bounds Between billed = Unit {0}
Bounds (InPeriod applied fees) billed = InBounds applied fees billed

pub bounds_at : (phase : Phase) (applied fees billed : ℕ) → phase ≡ InPeriod applied fees → Bounds phase billed → InBounds applied fees billed
bounds_at phase applied fees billed at b = subst (λ p. Bounds p billed) at b

pub unbounded : (phase : Phase) (billed : ℕ) → phase ≡ Between → Bounds phase billed
unbounded phase billed at = subst (λ p. Bounds p billed) (sym at) tt

abbrev pub Bounded : State → Type 0
Bounded s = Bounds s.phase (billed_in (s.closed + 1) s.records)

-- an account's record is what the history says of it
abbrev pub Ties : {M : Type 0} → History M → ℕ → Option Record → Type 0
Ties h a o = Tied (percentage_of a h) (class_of a h) (given a h) (used_by a h) o

abbrev pub AllTied : {M : Type 0} → History M → State → Type 0
AllTied h s = (a : ℕ) → Ties h a (record_of a s.records)

module _ {M : Type 0} (worth : M → ℕ → ℕ → ℕ) where
  pub record Stands (h : History M) (s : State) : Type 0 where
    pub booked : Booked s
    pub readings : ReadSoFar h s
    pub bounded : Bounded s
    pub ties : AllTied h s
    pub law : Law worth h s

  -- what is banked and held was read
  pub held_within : (h : History M) (s : State) → Stands h s → s.bank + sum_by (λ r. r.held) s.records ≤ s.read
  held_within h s i = omega (arith, i.readings.all, i.law.units)

  -- at the opening
  pub stands_opened : (project : Project) (room : ℕ) → room ≤ most_records → Stands [] (opened project room [])
  unfolding percentage_of class_of shares_of disbursed_to used_by
  stands_opened project room few =
      record {
        booked = record { fits = omega arith; few = few; whole = omega arith };
        readings = record { all = refl; within = omega arith };
        bounded = tt;
        ties = λ a. record { none = refl; nothing = omega arith; unused = refl };
        law = record { units = omega arith; cents = omega arith; each = tt };
      }
