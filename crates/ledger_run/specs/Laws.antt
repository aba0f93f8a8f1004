-- The law of any run of a ledger over its history.
use Rattle.std.specs.Prelude.{◌≡◌, ℕ, ◌+◌, ◌-◌, ◌≤◌, ◌≢◌, List, [], ◌∷◌, map, reverse, Result, sum_by, fold}
use Rattle.base.specs.Limits.{most_records, most_units}
use Rattle.accounts.specs.declared.project.Project.{Project}
use Rattle.crediting.specs.Credits.{Credited}
use Rattle.ledger.specs.declared.call.Call.{Call}
use Rattle.ledger.specs.declared.answer.Done.{Done}
use Rattle.ledger.specs.declared.answer.Posting.{Posting}
use Rattle.ledger.specs.declared.refusal.Refusal.{Refusal}
use Rattle.ledger.specs.declared.answer.Settlement.{Settlement}
use Rattle.ledger.specs.Phases.{fees_in}
use Rattle.ledger.specs.Refusals.{number}
use Rattle.ledger.specs.States.{State}
use Rattle.ledger.specs.Steps.{opened, step}
use Rattle.ledger_run.specs.Histories.{Event, History, billed, finally_billed, closed, declined, call_of, answer_of, class_of, given, used_by, units_read, units_forfeited, of_bill, of_close}

-- Performing calls one by one, each on what the ones before it left: the state after the last, and the answers.
module _ {M : Type 0} (worth : M → ℕ → ℕ → ℕ) where
  abbrev pub after : State → List (Call M) → State
  after s cs = fold (λ t c. (step worth t c).state) s cs

  unfoldable pub answers : State → List (Call M) → List (Result Done Refusal)
  answers s [] = []
  answers s (c ∷ cs) = (step worth s c).answer ∷ answers (step worth s c).state cs

-- A bill of an account that was given some units and used some, by the worth of its class's units: what it had is in
-- range; the applied credit is the lesser of the bill and the worth of what it had; the units used are worth at least
-- that credit, and every number of units worth at least that credit is as large.
pub record BillRule (worth : ℕ → ℕ) (given used cents : ℕ) (p : Posting) : Type 0 where
  pub covered : used ≤ given
  pub within : given - used ≤ most_units
  pub credit : Credited worth (given - used) cents p.applied p.used

-- the units of all accepted readings are the units used by bills, forfeited, banked at the host and held by accounts, together
abbrev pub UnitsAdd : {M : Type 0} → History M → State → Type 0
UnitsAdd h s =
    sum_by units_read h
    ≡ sum_by (of_bill (λ p. p.used)) h + sum_by units_forfeited h + s.bank + sum_by (λ r. r.held) s.records

-- all applied credits are all net credits, host payments, utility fees and the fees of the open period, together
abbrev pub CentsAdd : {M : Type 0} → History M → State → Type 0
CentsAdd h s =
    sum_by (of_bill (λ p. p.applied)) h
    ≡ sum_by (of_bill (λ p. p.net)) h
    + sum_by (of_close (λ x. x.payment)) h
    + sum_by (of_close (λ x. x.utility)) h
    + fees_in s.phase

-- no utility fee passes the fees of its close, and the host is paid the rest
pub record CloseRule (s : Settlement) : Type 0 where
  pub covered : s.utility ≤ s.fees
  pub rest : s.utility + s.payment ≡ s.fees

module _ {M : Type 0} (worth : M → ℕ → ℕ → ℕ) where
  -- what holds of one call, after the calls before it
  abbrev pub EventRule : Event M → History M → Type 0
  EventRule (billed m a cents p) h = BillRule (worth m (class_of a h)) (given a h) (used_by a h) cents p
  EventRule (finally_billed m a cents p forfeited) h =
      BillRule (worth m (class_of a h)) (given a h) (used_by a h) cents p
  EventRule (closed s) h = CloseRule s
  -- no call is declined because the book is another ledger's
  EventRule (declined c why) h = number why ≢ 27
  EventRule _ h = Unit {0}

  abbrev pub EachEvent : History M → Type 0
  EachEvent [] = Unit {0}
  EachEvent (e ∷ h) = EventRule e h × EachEvent h

  pub record Law (h : History M) (s : State) : Type 0 where
    pub units : UnitsAdd h s
    pub cents : CentsAdd h s
    pub each : EachEvent h

  -- the calls and their answers have a history that keeps the law
  pub record LawfulRun (calls : List (Call M)) (answered : List (Result Done Refusal)) (s : State) : Type 0 where
    pub history : History M
    pub its_calls : map call_of history ≡ reverse calls
    pub its_answers : map answer_of history ≡ reverse answered
    pub law : Law history s

  -- Whatever the project, the room and the calls: the answers and the state that the definitions of the calls come to keep
  -- the law. It says nothing of how calls are performed, so it holds of whoever performs them by these definitions, a list of
  -- them or one by one.
  abbrev pub EveryRunIsLawful : Type 0
  EveryRunIsLawful =
      (project : Project) (room : ℕ)
      → room ≤ most_records
      → (calls : List (Call M))
      → LawfulRun calls (answers worth (opened project room []) calls) (after worth (opened project room []) calls)

  -- a run from a state at which a ledger was opened: the state that it leaves and its answers are those of performing
  -- the calls one by one, and they keep the law
  pub record Ran (start : State) (calls : List (Call M)) (answered : List (Result Done Refusal)) (end : State) : Type 0 where
    pub left : end ≡ after worth start calls
    pub gives : answered ≡ answers worth start calls
    pub lawful : LawfulRun calls answered end
