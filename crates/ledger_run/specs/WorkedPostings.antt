-- Twelve postings worked by hand.
use Rattle.std.specs.Prelude.{◌≡◌, ℕ, false, List, [], ◌∷◌, map, replicate, Some, None, Ok, Err, Option, Result}
use Rattle.accounts.specs.declared.record.Kind.TheVariants.{Member}
use Rattle.accounts.specs.declared.record.Line.{Line}
use Rattle.accounts.specs.declared.record.Record.{Record}
use Rattle.accounts.specs.declared.record.Size.{Size}
use Rattle.accounts.specs.declared.record.Size.TheVariants.{Small, Large}
use Rattle.accounts.specs.declared.record.State.TheVariants.{Open}
use Rattle.crediting.specs.Worths.{cents, by_rates}
use Rattle.ledger.specs.declared.answer.Done.TheVariants.{Opened, Billed, Closed}
use Rattle.ledger.specs.declared.refusal.Refusal.{Refusal}
use Rattle.ledger.specs.declared.phase.Phase.TheVariants.{InPeriod}
use Rattle.ledger.specs.Lines.{judge_lines}
use Rattle.ledger.specs.Refusals.{number}
use Rattle.ledger.specs.Rules.{net_credit, subscription_fee, utility_fee}
use Rattle.ledger.specs.States.{State, Outcome}
use Rattle.ledger.specs.Steps.{opened, reading, bill, close}

-- an open member's account with a percentage, a savings rate and units held
abbrev pub account : ℕ → ℕ → ℕ → ℕ → Record
account number percentage savings held =
    record {
      account = number;
      percentage = percentage;
      savings = savings;
      class = 1;
      size = Small;
      kind = Member;
      state = Open;
      held = held;
      last = 0;
    }

-- account 1 with all of the output
abbrev pub member : ℕ → ℕ → Record
member savings held = account 1 100000 savings held

-- the same rate for every class, in ten-thousandths of a cent for a kilowatt-hour
abbrev pub rated : ℕ → ℕ → ℕ → ℕ
rated rate = by_rates (replicate 16 rate)

abbrev pub held_by : Outcome → List ℕ
held_by o = map (λ r. r.held) o.state.records

-- a reading of a new ledger that has these records
abbrev pub read : List Record → ℕ → Outcome
read rs units = reading (opened (record { smallest = 1; farm = false }) 4 rs) units

-- the first period after its reading, with the period's applied credits and fees
abbrev pub in_period : List Record → ℕ → ℕ → State
in_period rs applied fees =
    record {
      smallest = 1;
      farm = false;
      phase = InPeriod applied fees;
      closed = 0;
      bank = 0;
      read = 0;
      room = 4;
      records = rs;
    }

-- the first bill of a period
abbrev pub bill_of : (ℕ → ℕ → ℕ) → Record → ℕ → Outcome
bill_of worth r cents = bill worth (in_period (r ∷ []) 0 0) 0 0 r.account cents

-- What a reading leaves: it opens period 1, each account holds its share, and the host's bank the rest.
pub record Shared (o : Outcome) (shares : List ℕ) (rest : ℕ) : Type 0 where
  pub opens : o.answer ≡ Ok (Opened 1)
  pub held : held_by o ≡ shares
  pub bank : o.state.bank ≡ rest

-- What a bill of one account comes to: applied credit, units used, net credit and fee, and the units left.
pub record ComesTo (o : Outcome) (credit units net_part fee_part rest : ℕ) : Type 0 where
  pub answers : o.answer ≡ Ok (Billed (record { applied = credit; used = units; net = net_part; fee = fee_part }))
  pub left : held_by o ≡ rest ∷ []

-- How a member's applied credit is divided.
pub record Divided (savings credit net_part fee_part : ℕ) : Type 0 where
  pub net : net_credit Member savings credit ≡ net_part
  pub fee : subscription_fee Member savings credit ≡ fee_part

abbrev pub line : ℕ → Size → ℕ → Line
line number size percentage =
    record {
      account = number;
      percentage = percentage;
      savings = 1000;
      class = 1;
      size = size;
      kind = Member;
    }

-- the number of the refusal of these lines by an exempt project without the farm mark, whose book is empty; nothing
-- where they pass
abbrev pub told : Result ℕ Refusal → Option ℕ
told (Ok new) = None
told (Err why) = Some (number why)

abbrev pub request : List Line → Option ℕ
request ls = told (judge_lines 1 false 4 [] ls)

-- All percentages together may be 100 percent and no more, those of large size 40 percent and no more.
pub record Limits : Type 0 where
  pub whole : request (line 1 Small 60000 ∷ line 2 Small 40000 ∷ []) ≡ None
  pub past_whole : request (line 1 Small 60000 ∷ line 2 Small 40001 ∷ []) ≡ Some 16
  pub large : request (line 1 Large 15000 ∷ line 2 Small 60000 ∷ line 3 Large 25000 ∷ []) ≡ None
  pub past_large : request (line 1 Large 15000 ∷ line 2 Small 50000 ∷ line 3 Large 25001 ∷ []) ≡ Some 17

pub record WorkedPostings : Type 0 where
  -- 1,000,003 units at three times 33.333 percent: 333,330 each, and 13 for the host's bank
  pub three_thirds : Shared (read (account 1 33333 1000 0 ∷ account 2 33333 1000 0 ∷ account 3 33333 1000 0 ∷ []) 1000003) (333330 ∷ 333330 ∷ 333330 ∷ []) 13
  -- a single unit at 99.999 percent stays with the host
  pub single_unit : Shared (read (account 1 99999 1000 0 ∷ []) 1) (0 ∷ []) 1
  -- Value Stack: 5,000 held and a bill of 3,210; 1,790 are left
  pub value_stack : ComesTo (bill_of cents (member 1000 5000) 3210) 3210 3210 321 2889 1790
  -- at 10.946 cents, 681 kilowatt-hours against a bill of 20,000: all are used
  pub whole_holding : ComesTo (bill_of (rated 109460) (member 1000 681) 20000) 7454 681 745 6709 0
  -- and against a bill of 5,000: 457 are used, and 224 are left
  pub part_of_holding : ComesTo (bill_of (rated 109460) (member 1000 681) 5000) 5000 457 500 4500 224
  -- at 0.4 cents, 2 kilowatt-hours are worth no cent: nothing is applied and nothing used
  pub less_than_a_cent : ComesTo (bill_of (rated 4000) (member 1000 2) 900) 0 0 0 0 2
  -- 4 kilowatt-hours are worth one cent, and 3 of them are enough
  pub one_cent : ComesTo (bill_of (rated 4000) (member 1000 4) 900) 1 3 0 1 1
  -- an applied credit of 7,454 at a savings rate of 10 percent
  pub ten_percent : Divided 1000 7454 745 6709
  -- the last cent is the fee's, at the highest savings rate too
  pub last_cent : Divided 9800 1 0 1
  -- one and a half percent of 33 cents is below half a cent, of 34 cents above
  pub half_a_cent : (utility_fee 33 ≡ 0) × (utility_fee 34 ≡ 1)
  -- a close with applied credits of 7,454 and fees of 6,709
  pub settlement : (close (in_period [] 7454 6709) 7454 6709).answer ≡ Ok (Closed (record { applied = 7454; fees = 6709; utility = 112; payment = 6597 }))
  -- percentages at their limits and just above
  pub limits : Limits
