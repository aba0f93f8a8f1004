-- Calls at the edges of their ranges; calls with more than one fault, of which the first check that fails is told; and what
-- accepted calls leave.
use Rattle.std.specs.Prelude.{◌≡◌, ℕ, true, false, List, [], ◌∷◌, replicate, Some, None, Ok, Err, Option, Result, Vec}
use Rattle.std.specs.declared.alloc.Global.{Global}
use Rattle.accounts.specs.declared.record.Kind.TheVariants.{Member, Anchor}
use Rattle.accounts.specs.declared.record.Line.{Line}
use Rattle.accounts.specs.declared.record.Record.{Record}
use Rattle.accounts.specs.declared.record.Size.TheVariants.{Small, Large}
use Rattle.accounts.specs.declared.record.State.TheVariants.{Closed}
use Rattle.crediting.specs.Worths.{cents}
use Rattle.ledger.specs.declared.call.Call.{Call}
use Rattle.ledger.specs.declared.call.Call.TheVariants.{Enrol, Reading, Bill, FinalBill as final, Disburse, Lapse as lapsing, Close}
use Rattle.ledger.specs.declared.answer.Done.TheVariants.{Opened, FinallyBilled, Disbursed, Lapsed}
use Rattle.ledger.specs.declared.refusal.Refusal.{Refusal}
use Rattle.ledger.specs.declared.phase.Phase.TheVariants.{Between, InPeriod}
use Rattle.ledger.specs.Lines.{enrolled, judge_lines}
use Rattle.ledger.specs.Refusals.{number, place}
use Rattle.ledger.specs.Rules.{counted, net_credit, subscription_fee}
use Rattle.ledger.specs.States.{State, Outcome}
use Rattle.ledger.specs.Steps.{bill, close, disburse, final_bill, judge_open, lapse, reading, step}
use Rattle.ledger_run.specs.WorkedPostings.{account, in_period, line}

-- the number of a refusal and the place that it tells; nothing where there is none
pub record Refused : Type 0 where
  pub by : ℕ
  pub at : ℕ

abbrev pub why : {X : Type 0} → Result X Refusal → Option Refused
why (Ok done) = None
why (Err refusal) = Some (record { by = number refusal; at = place refusal })

abbrev pub refused : ℕ → ℕ → Option Refused
refused n p = Some (record { by = n; at = p })

-- between periods, with so many of them closed, units in the bank and units read
abbrev pub between : ℕ → ℕ → ℕ → List Record → State
between closed bank read rs =
    record {
      smallest = 1;
      farm = false;
      phase = Between;
      closed = closed;
      bank = bank;
      read = read;
      room = 4;
      records = rs;
    }

abbrev pub gone : ℕ → Record
gone number = record (account number 0 1000 0) { state = Closed; last = 1 }

abbrev pub paid : ℕ → Record
paid number = record (account number 0 1000 50) { last = 1 }

-- lines of a plain project whose book has room for one more account than account 1, which is closed
abbrev pub lines : ℕ → List Line → Option Refused
lines smallest ls = why (judge_lines smallest false 2 (gone 1 ∷ []) ls)

-- a request with a line out of range, one of an account that stands ahead, one of a closed account, too much percentage, too
-- much of it of large size, and more new accounts than there is room for
abbrev pub several : Result ℕ Refusal
several = judge_lines 1 false 2 (gone 1 ∷ []) (line 2 Small 1000 ∷ line 2 Small 1000 ∷ line 0 Small 1000 ∷ line 1 Large 60000 ∷ line 3 Small 60000 ∷ [])

-- Each request has the fault of its check and of every later one that the same lines can have.
pub record RequestOrder : Type 0 where
  pub count : lines 10 (line 2 Small 0 ∷ line 2 Small 0 ∷ line 1 Large 60000 ∷ line 3 Small 60000 ∷ []) ≡ refused 12 0
  pub ranges : why several ≡ refused 13 2
  pub repeated : lines 1 (line 1 Small 1000 ∷ line 2 Small 1000 ∷ line 2 Large 60000 ∷ line 3 Small 60000 ∷ []) ≡ refused 14 2
  pub closed : lines 1 (line 2 Large 60000 ∷ line 1 Small 1000 ∷ line 3 Small 60000 ∷ []) ≡ refused 15 1
  pub whole : lines 1 (line 2 Large 60000 ∷ line 3 Small 60000 ∷ []) ≡ refused 16 0
  pub large : lines 1 (line 2 Large 40001 ∷ line 3 Small 1000 ∷ []) ≡ refused 17 0
  pub room : lines 1 (line 2 Large 40000 ∷ line 3 Small 60000 ∷ []) ≡ refused 18 0
  pub taken : lines 1 (line 2 Large 40000 ∷ []) ≡ None
  -- the first such line is told
  pub first_range : lines 1 (line 2 Small 1000 ∷ line 0 Small 1000 ∷ line 0 Small 1000 ∷ []) ≡ refused 13 1
  pub first_repeated : lines 1 (line 2 Small 1000 ∷ line 3 Small 1000 ∷ line 3 Small 1000 ∷ line 2 Small 1000 ∷ []) ≡ refused 14 2
  pub first_closed : why (judge_lines 1 false 4 (gone 1 ∷ gone 2 ∷ []) (line 3 Small 1000 ∷ line 2 Small 1000 ∷ line 1 Small 1000 ∷ [])) ≡ refused 15 1
  -- with the farm mark large satellites may have all
  pub farm : judge_lines 1 true 2 [] (line 2 Large 60000 ∷ line 3 Large 40000 ∷ []) ≡ Ok 2

-- How many lines there may be: at least the project's smallest number, and at most 1,024, which are here all of one account.
pub record LineCounts : Type 0 where
  pub nine : lines 10 (replicate 9 (line 2 Small 1)) ≡ refused 12 0
  pub ten : lines 10 (replicate 10 (line 2 Small 1)) ≡ refused 14 1
  pub most : lines 1 (replicate 1024 (line 2 Small 1)) ≡ refused 14 1
  pub past_most : lines 1 (replicate 1025 (line 2 Small 1)) ≡ refused 12 0

-- The ranges of a line's numbers.
abbrev pub alone : Line → Option Refused
alone l = lines 1 (l ∷ [])

pub record LineRanges : Type 0 where
  pub largest : alone (record (line 99999999999 Small 100000) { savings = 9800; class = 16 }) ≡ None
  pub least : alone (record (line 2 Small 1) { savings = 500; class = 1 }) ≡ None
  pub no_account : alone (line 0 Small 1000) ≡ refused 13 0
  pub account : alone (line 100000000000 Small 1000) ≡ refused 13 0
  pub no_percentage : alone (line 2 Small 0) ≡ refused 13 0
  pub percentage : alone (line 2 Small 100001) ≡ refused 13 0
  pub low_savings : alone (record (line 2 Small 1000) { savings = 499 }) ≡ refused 13 0
  pub savings : alone (record (line 2 Small 1000) { savings = 9801 }) ≡ refused 13 0
  pub no_class : alone (record (line 2 Small 1000) { class = 0 }) ≡ refused 13 0
  pub class : alone (record (line 2 Small 1000) { class = 17 }) ≡ refused 13 0

-- An accepted request leaves no percentage to accounts without a line; those on one get its values and keep what they hold;
-- new accounts join last, in the order of their lines.
pub record Enrolment : Type 0 where
  pub records : enrolled (account 1 30000 500 7 ∷ record (account 2 20000 500 9) { class = 2; size = Large; kind = Anchor; last = 1 } ∷ []) (line 4 Small 2000 ∷ line 2 Small 25000 ∷ line 3 Small 1000 ∷ []) ≡ account 1 0 500 7 ∷ record (account 2 25000 1000 9) { last = 1 } ∷ account 4 2000 1000 0 ∷ account 3 1000 1000 0 ∷ []

-- Readings: the 1,200th period is the last; a reading of 10^10 units is the largest, and all together may be 10^12.
pub record ReadingOrder : Type 0 where
  pub last_period : (reading (between 1199 0 0 []) 10000000000).answer ≡ Ok (Opened 1200)
  pub periods : why (reading (between 1200 0 1000000000000 []) 10000000001).answer ≡ refused 19 0
  pub large : why (reading (between 1199 0 1000000000000 []) 10000000001).answer ≡ refused 20 0
  pub together : why (reading (between 0 0 999999999999 (account 1 100001 0 0 ∷ [])) 2).answer ≡ refused 21 0
  pub whole : (reading (between 0 0 999999999999 []) 1).answer ≡ Ok (Opened 1)
  -- the book of another ledger: percentages that pass the whole, or units that an account may not hold
  pub foreign : why (reading (between 0 0 0 (account 1 100001 0 0 ∷ [])) 2).answer ≡ refused 27 0
  pub over : why (reading (between 0 0 0 (account 1 100000 1000 999999999999 ∷ [])) 2).answer ≡ refused 27 0
  pub full : (reading (between 0 0 0 (account 1 100000 1000 999999999999 ∷ [])) 1).answer ≡ Ok (Opened 1)

-- Bills and final bills in the first period by the Value Stack, of a book with account 1 closed and account 2 billed already;
-- the members' credits of the period are one cent below what they may come to.
abbrev pub Asked : Type 0
Asked = (ℕ → ℕ → ℕ) → State → ℕ → ℕ → ℕ → ℕ → Outcome

abbrev pub billing : Asked → ℕ → ℕ → Outcome
billing call number amount = call cents (in_period (gone 1 ∷ paid 2 ∷ account 3 0 1000 10 ∷ []) 9999999999999 0) 9999999999999 0 number amount

pub record BillOrder (call : Asked) : Type 0 where
  pub large : why (billing call 4 1000000001).answer ≡ refused 23 0
  pub missing : why (billing call 4 1000000000).answer ≡ refused 24 0
  pub closed : why (billing call 1 1000000000).answer ≡ refused 24 0
  pub billed : why (billing call 2 1000000000).answer ≡ refused 25 0
  pub foreign : why (billing call 3 1000000000).answer ≡ refused 27 0
  pub most : why (billing call 3 1).answer ≡ None

-- A final bill of 3,210 of an account that holds 5,000 cents: the units left are forfeited, and the account is closed.
pub record FinalBill : Type 0 where
  pub answers : (final_bill cents (in_period (account 1 30000 1000 5000 ∷ []) 0 0) 0 0 1 3210).answer ≡ Ok (FinallyBilled (record { applied = 3210; used = 3210; net = 321; fee = 2889 }) 1790)
  pub leaves : (final_bill cents (in_period (account 1 30000 1000 5000 ∷ []) 0 0) 0 0 1 3210).state ≡ in_period (gone 1 ∷ []) 3210 2889

-- Units from a bank of 5 to an account that holds 50; none to a closed or missing account, not 0, and no more than there are.
abbrev pub disbursing : ℕ → ℕ → Outcome
disbursing number units = disburse (between 1 5 0 (gone 1 ∷ paid 2 ∷ account 3 0 1000 1000000000000 ∷ [])) number units

pub record DisburseOrder : Type 0 where
  pub missing : why (disbursing 4 6).answer ≡ refused 24 0
  pub closed : why (disbursing 1 0).answer ≡ refused 24 0
  pub nothing : why (disbursing 3 0).answer ≡ refused 26 0
  pub over : why (disbursing 3 6).answer ≡ refused 26 0
  pub foreign : why (disbursing 3 1).answer ≡ refused 27 0
  pub full : (disburse (between 1 5 0 (account 1 0 1000 999999999995 ∷ [])) 1 5).answer ≡ Ok (Disbursed 0)
  pub answers : (disbursing 2 5).answer ≡ Ok (Disbursed 0)
  pub bank : (disbursing 2 5).state.bank ≡ 0
  pub held : (disbursing 2 5).state.records ≡ gone 1 ∷ record (paid 2) { held = 55 } ∷ account 3 0 1000 1000000000000 ∷ []

-- A lapse empties the bank, and changes nothing else; an empty bank may lapse too.
pub record Lapse : Type 0 where
  pub answers : (lapse (between 1 5 9 [])).answer ≡ Ok (Lapsed 5)
  pub leaves : (lapse (between 1 5 9 [])).state ≡ between 1 0 9 []
  pub empty : (lapse (between 1 0 9 [])).answer ≡ Ok (Lapsed 0)

-- A ledger is opened with 1 or 10 as the smallest number of lines, on an empty book.
abbrev pub unopened : Option Refusal → Option Refused
unopened None = None
unopened (Some refusal) = refused (number refusal) (place refusal)

pub record OpenOrder : Type 0 where
  pub exempt : unopened (judge_open 1 0) ≡ None
  pub ten : unopened (judge_open 10 0) ≡ None
  pub smallest : unopened (judge_open 2 1) ≡ refused 9 0
  pub empty : unopened (judge_open 10 1) ≡ refused 10 0

-- An excluded anchor keeps its whole credit, pays no fee, and counts for no utility fee; a member's credit counts.
pub record Kinds : Type 0 where
  pub anchor_keeps : net_credit Anchor 1000 7454 ≡ 7454
  pub anchor_fee : subscription_fee Anchor 1000 7454 ≡ 0
  pub anchor_counts : counted Anchor 7454 ≡ 0
  pub member_counts : counted Member 7454 ≡ 7454

-- What a bill of 3,210 by the Value Stack leaves of an account that holds 5,000 cents, in a period with credits and fees.
abbrev pub later : Record → State
later r = (bill cents (in_period (r ∷ []) 100 60) 100 60 1 3210).state

pub record BillLeaves : Type 0 where
  pub member : later (account 1 30000 1000 5000) ≡ in_period (record (account 1 30000 1000 1790) { last = 1 } ∷ []) 3310 2949
  pub anchor : later (record (account 1 30000 1000 5000) { kind = Anchor }) ≡ in_period (record (account 1 30000 1000 1790) { kind = Anchor; last = 1 } ∷ []) 100 60

-- A close ends the period, and leaves bank, readings and records as they are.
pub record CloseLeaves : Type 0 where
  pub ended : (close (record (between 7 5 9 (paid 1 ∷ [])) { phase = InPeriod 100 60 }) 100 60).state ≡ between 8 5 9 (paid 1 ∷ [])

-- Between periods there are no bills and no close; in a period there are no other calls.
abbrev pub asked : State → Call ℕ → Option Refused
asked s call = why (step (λ m. cents) s call).answer

pub record PhaseOrder : Type 0 where
  pub bill_between : asked (between 0 0 0 []) (Bill 0 1 1000000001) ≡ refused 22 0
  pub final_between : asked (between 0 0 0 []) (final 0 1 1000000001) ≡ refused 22 0
  pub close_between : asked (between 0 0 0 []) Close ≡ refused 22 0
  pub enrol_in : (lines : Vec Line Global) → asked (in_period [] 0 0) (Enrol lines) ≡ refused 11 0
  pub reading_in : asked (in_period [] 0 0) (Reading 10000000001) ≡ refused 11 0
  pub disburse_in : asked (in_period [] 0 0) (Disburse 1 0) ≡ refused 11 0
  pub lapse_in : asked (in_period [] 0 0) lapsing ≡ refused 11 0

pub record WorkedChecks : Type 0 where
  pub opening : OpenOrder
  pub phases : PhaseOrder
  pub requests : RequestOrder
  pub line_counts : LineCounts
  pub line_ranges : LineRanges
  pub enrolment : Enrolment
  pub readings : ReadingOrder
  pub bills : BillOrder bill
  pub final_bills : BillOrder final_bill
  pub final_bill : FinalBill
  pub disbursements : DisburseOrder
  pub lapse : Lapse
  pub kinds : Kinds
  pub bill_leaves : BillLeaves
  pub close_leaves : CloseLeaves
