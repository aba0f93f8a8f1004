-- Each call has its event, and is never declined because the book is another ledger's.
use Rattle.std.proofs.Common.{◌≡◌, ℕ, ◌+◌, ◌≤◌, Bool, true, false, cond, ◌||◌, eqb, leb, ltb, ◌≢◌, List, [], ◌∷◌, length, vec_items, Vec, Some, None, Ok, Err, Option, Result, refl, mul-le-mul_left, arith, sum_by}
use Rattle.std.proofs.lemmas.Bool.{cond_both, cond-false, le-ltb, ltb-false, or_from, or_parts}
use Rattle.std.proofs.lemmas.Bool.Decides.{nat_tests}
use Rattle.std.proofs.lemmas.List.Sums.{count_by-le-length, sum_by-cons}
use Rattle.std.specs.List.{list_any}
use Rattle.std.specs.declared.alloc.Global.{Global}
use Rattle.base.specs.Limits.{most_bill, most_periods, most_reading, most_units, whole}
use Rattle.accounts.specs.declared.record.Line.{Line}
use Rattle.accounts.specs.declared.record.Record.{Record}
use Rattle.accounts.specs.Records.{is_closed, record_of}
use Rattle.accounts.proofs.Found.{found_within}
use Rattle.crediting.proofs.Fewest.{applied_within}
use Rattle.sharing.specs.Shares.{foreign_to_reading, share, shares}
use Rattle.sharing.proofs.Totals.{shares_within, sum_by_plus}
use Rattle.ledger.specs.declared.call.Call.{Call}
use Rattle.ledger.specs.declared.call.Call.TheVariants.{Enrol, Reading, Bill, FinalBill, Disburse, Lapse, Close}
use Rattle.ledger.specs.declared.refusal.Refusal.{Refusal}
use Rattle.ledger.specs.declared.refusal.Refusal.TheVariants as why
use Rattle.ledger.specs.declared.phase.Phase.{Phase}
use Rattle.ledger.specs.declared.phase.Phase.TheVariants.{Between, InPeriod}
use Rattle.ledger.specs.Limits.{most_applied, most_read}
use Rattle.ledger.specs.Lines.{new_accounts}
use Rattle.ledger.specs.Refusals.{number}
use Rattle.ledger.specs.Rules.{counted}
use Rattle.ledger.specs.States.{Outcome, State, declined}
use Rattle.ledger.specs.Steps.{at_phase, bill_judged, disburse, disburse_to, enrol_judged, final_judged, judge_bill, judge_record, posting, reading, step}
use Rattle.ledger.proofs.Requests.{judged}
use Rattle.ledger_run.specs.Histories as history
use Rattle.ledger_run.specs.Histories.{Event, History, answer_of, call_of}
use Rattle.ledger_run.proofs.Amounts.{counted_within}
use Rattle.ledger_run.proofs.Moves.{Billable, Moves}
use Rattle.ledger_run.proofs.Standing.{Stands, bounds_at, held_within}

-- no element passes what all are together
none_pass : {X : Type 0} (f : X → ℕ) (xs : List X) (n : ℕ) → sum_by f xs ≤ n → list_any (λ x. ltb n (f x)) xs ≡ false
none_pass f [] n h = refl
none_pass f (x ∷ xs) n h =
    let all = sum_by-cons f x xs in
    let rest = none_pass f xs n (omega arith) in
    grind (arith, nat_tests)

-- the shares of a reading are within it
pub shares_fit : (units : ℕ) (rs : List Record) → sum_by (λ r. r.percentage) rs ≤ whole → shares units rs ≤ units
shares_fit units rs all =
    omega (arith, shares_within units (λ (r : Record). r.percentage) rs, mul-le-mul_left {m = sum_by (λ r. r.percentage) rs} {n = 100000} units all)

module _ {M : Type 0} (worth : M → ℕ → ℕ → ℕ) where
  -- a call's event, and what it says of the states
  pub record Step (c : Call M) (s : State) (o : Outcome) : Type 0 where
    pub event : Event M
    pub called : call_of event ≡ c
    pub answered : answer_of event ≡ o.answer
    pub moves : Moves worth event s o.state

  steps_declined : (s : State) (c : Call M) (why : Refusal) → number why ≢ 27 → Step c s (declined s why)
  steps_declined s c why own =
      record { event = history.declined c why; called = refl; answered = refl; moves = record { own = own; is = refl } }

  -- a test that declines, and one that never does
  steps_unless : (s : State) (c : Call M) (test : Bool) (why : Refusal) (o : Outcome) → number why ≢ 27 → (test ≡ false → Step c s o) → Step c s (cond test (declined s why) o)
  steps_unless s c test why o own rest = cond_both test (declined s why) o (Step c s) (λ _. steps_declined s c why own) rest

  steps_past : (s : State) (c : Call M) (test : Bool) (why : Refusal) (o : Outcome) → test ≡ false → Step c s o → Step c s (cond test (declined s why) o)
  steps_past s c test why o never rest = rw (cond-false test (declined s why) o never) rest

  module _ (h : History M) (s : State) (i : Stands worth h s) where
    -- a book of this run is never another ledger's
    not_foreign : (units : ℕ) → s.read + units ≤ most_read → foreign_to_reading units s.records ≡ false
    not_foreign units small =
        let fit = shares_fit units s.records i.booked.whole in
        let sum = sum_by_plus (λ r. r.held) (λ r. share units r.percentage) s.records in
        or_from _ _ (le-ltb whole _ i.booked.whole) (none_pass (λ r. r.held + share units r.percentage) s.records most_units (omega (arith, held_within worth h s i)))

    steps_enrol : (ls : Vec Line Global) → s.phase ≡ Between → Step (Enrol ls) s (at_phase worth s Between (Enrol ls))
    steps_enrol ls at =
        judged s.smallest s.farm s.room s.records (vec_items ls) (λ j. Step (Enrol ls) s (enrol_judged s (vec_items ls) j))
        (λ why own. steps_declined s (Enrol ls) why own)
        (λ ok. record {
          event = history.enrolled ls (new_accounts s.records (vec_items ls));
          called = refl;
          answered = refl;
          moves = record { between = at; ok = ok; is = refl };
        })

    steps_reading : (units : ℕ) → s.phase ≡ Between → Step (Reading units) s (reading s units)
    steps_reading units at =
        let c : Call M = Reading units in
        steps_unless s c (leb most_periods s.closed) why.PeriodsOver _ (omega arith)
        (λ _. steps_unless s c (ltb most_reading units) why.ReadingTooLarge _ (omega arith)
        (λ _. steps_unless s c (ltb most_read (s.read + units)) why.ReadingsPass _ (omega arith)
        (λ e. let small = ltb-false most_read (s.read + units) e in
        steps_past s c (foreign_to_reading units s.records) why.ForeignBook _ (not_foreign units small)
        (record {
          event = history.opened units (s.closed + 1);
          called = refl;
          answered = refl;
          moves = record { between = at; small = small; is = refl };
        }))))

    -- a bill is declined for another reason, or its account's record is billable
    billable : (m : M) (applied fees account cents : ℕ) (P : Result Record Refusal → Type 0) → s.phase ≡ InPeriod applied fees → ((why : Refusal) → number why ≢ 27 → P (Err why)) → ((r : Record) → Billable account cents (s.closed + 1) s.records r → P (Ok r)) → P (judge_bill (worth m) s applied account cents)
    billable m applied fees account cents P at no-bill good =
        cond_both (ltb most_bill cents) (Err why.BillTooLarge) _ P (λ _. no-bill why.BillTooLarge (omega arith))
        (λ e. go (record_of account s.records) refl (ltb-false most_bill cents e))
      where
        period : ℕ
        period = s.closed + 1

        low : (r : Record) → cents ≤ most_bill → applied + counted r.kind (posting (worth m) r cents).applied ≤ most_applied
        low r small =
            let bounds = bounds_at s.phase applied fees _ at i.bounded in
            let few = count_by-le-length (λ (x : Record). eqb x.last (s.closed + 1)) s.records in
            let one = counted_within r.kind (posting (worth m) r cents).applied in
            let own = applied_within (worth m) r.class r.held cents in
            let room = i.booked in
            omega arith

        go : (o : Option Record) → record_of account s.records ≡ o → cents ≤ most_bill → P (judge_record (worth m) period applied cents o)
        go None e small = no-bill why.NoOpenAccount (omega arith)
        go (Some r) e small =
            cond_both (is_closed r.state) (Err why.NoOpenAccount) _ P (λ _. no-bill why.NoOpenAccount (omega arith))
            (λ unclosed. cond_both (eqb r.last period) (Err why.BilledAlready) _ P (λ _. no-bill why.BilledAlready (omega arith))
            (λ unbilled. rw (le-ltb most_applied _ (low r small)) (good r (record { found = e; unclosed = unclosed; unbilled = unbilled; small = small }))))

    steps_bill : (m : M) (applied fees account cents : ℕ) → s.phase ≡ InPeriod applied fees → Step (Bill m account cents) s (bill_judged (worth m) s applied fees cents (judge_bill (worth m) s applied account cents))
    steps_bill m applied fees account cents at =
        billable m applied fees account cents (λ j. Step (Bill m account cents) s (bill_judged (worth m) s applied fees cents j)) at
        (λ why own. steps_declined s (Bill m account cents) why own)
        (λ r b. record {
          event = history.billed m account cents (posting (worth m) r cents);
          called = refl;
          answered = refl;
          moves = record { applied = applied; fees = fees; r = r; at = at; billable = b; comes = refl; loses = tt; is = refl };
        })

    steps_final : (m : M) (applied fees account cents : ℕ) → s.phase ≡ InPeriod applied fees → Step (FinalBill m account cents) s (final_judged (worth m) s applied fees cents (judge_bill (worth m) s applied account cents))
    steps_final m applied fees account cents at =
        billable m applied fees account cents (λ j. Step (FinalBill m account cents) s (final_judged (worth m) s applied fees cents j)) at
        (λ why own. steps_declined s (FinalBill m account cents) why own)
        (λ r b. record {
          event = history.finally_billed m account cents (posting (worth m) r cents) _;
          called = refl;
          answered = refl;
          moves = record { applied = applied; fees = fees; r = r; at = at; billable = b; comes = refl; loses = refl; is = refl };
        })

    steps_disburse : (account units : ℕ) → s.phase ≡ Between → Step (Disburse account units) s (disburse s account units)
    steps_disburse account units at = go (record_of account s.records) refl
      where
        c : Call M
        c = Disburse account units

        go : (o : Option Record) → record_of account s.records ≡ o → Step c s (disburse_to s units o)
        go None e = steps_declined s c why.NoOpenAccount (omega arith)
        go (Some r) e =
            let most = found_within (λ r. r.held) account s.records r e in
            steps_unless s c (is_closed r.state) why.NoOpenAccount _ (omega arith)
            (λ unclosed. steps_unless s c (eqb units 0 || ltb s.bank units) why.NotInBank _ (omega arith)
            (λ inside. let enough = ltb-false s.bank units (or_parts (eqb units 0) _ inside).1 in
            steps_past s c (ltb most_units (r.held + units)) why.ForeignBook _ (le-ltb most_units _ (omega (arith, held_within worth h s i, i.readings.within)))
            (record {
              event = history.disbursed account units _;
              called = refl;
              answered = refl;
              moves = record { r = r; between = at; found = e; unclosed = unclosed; enough = enough; is = refl };
            })))

    steps_at : (phase : Phase) (c : Call M) → s.phase ≡ phase → Step c s (at_phase worth s phase c)
    steps_at Between (Enrol ls) at = steps_enrol ls at
    steps_at Between (Reading units) at = steps_reading units at
    steps_at Between (Bill m account cents) at = steps_declined s _ why.BetweenPeriods (omega arith)
    steps_at Between (FinalBill m account cents) at = steps_declined s _ why.BetweenPeriods (omega arith)
    steps_at Between (Disburse account units) at = steps_disburse account units at
    steps_at Between Lapse at = record { event = history.lapsed s.bank; called = refl; answered = refl; moves = record { all = refl; is = refl } }
    steps_at Between Close at = steps_declined s _ why.BetweenPeriods (omega arith)
    steps_at (InPeriod applied fees) (Enrol ls) at = steps_declined s _ why.InPeriod (omega arith)
    steps_at (InPeriod applied fees) (Reading units) at = steps_declined s _ why.InPeriod (omega arith)
    steps_at (InPeriod applied fees) (Bill m account cents) at = steps_bill m applied fees account cents at
    steps_at (InPeriod applied fees) (FinalBill m account cents) at = steps_final m applied fees account cents at
    steps_at (InPeriod applied fees) (Disburse account units) at = steps_declined s _ why.InPeriod (omega arith)
    steps_at (InPeriod applied fees) Lapse at = steps_declined s _ why.InPeriod (omega arith)
    steps_at (InPeriod applied fees) Close at =
        record {
          event = history.closed _;
          called = refl;
          answered = refl;
          moves = record { applied = applied; fees = fees; at = at; comes = refl; is = refl };
        }

    pub steps : (c : Call M) → Step c s (step worth s c)
    steps c = steps_at s.phase c refl
