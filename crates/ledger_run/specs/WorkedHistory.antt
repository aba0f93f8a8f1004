-- A history worked by hand: two accounts, two readings, a change of percentages and of a class, and a final bill.
use Rattle.std.specs.Prelude.{◌≡◌, ℕ, List, [], ◌∷◌, vec_items, Vec, sum_by}
use Rattle.std.specs.declared.alloc.Global.{Global}
use Rattle.accounts.specs.declared.record.Kind.TheVariants.{Member}
use Rattle.accounts.specs.declared.record.Line.{Line}
use Rattle.accounts.specs.declared.record.Size.TheVariants.{Small}
use Rattle.ledger.specs.declared.answer.Posting.{Posting}
use Rattle.ledger.specs.declared.refusal.Refusal.TheVariants.{InPeriod}
use Rattle.ledger.specs.declared.call.Call.TheVariants.{Disburse}
use Rattle.ledger_run.specs.Histories.{History, enrolled, opened, billed, finally_billed, disbursed, lapsed, closed, declined, percentage_of, class_of, shares_of, disbursed_to, used_by, given, units_read, units_forfeited, of_bill, of_close}

abbrev pub line : (account percentage class : ℕ) → Line
line account percentage class =
    record {
      account = account;
      percentage = percentage;
      savings = 1000;
      class = class;
      size = Small;
      kind = Member;
    }

-- a posting by the Value Stack at a savings rate of 10 percent
abbrev pub tenth : (applied net fee : ℕ) → Posting
tenth applied net fee = record { applied = applied; used = applied; net = net; fee = fee }

-- The newest first. Account 1 has 25 percent and class 1, then 10 percent and class 5; account 2 has 50 percent, then no
-- line. A method is a number here.
abbrev pub worked : Vec Line Global → Vec Line Global → History ℕ
worked first second =
    declined (Disburse 1 9) InPeriod
    ∷ finally_billed 0 1 60 (tenth 60 6 54) 207
    ∷ opened 1000 2
    ∷ enrolled second 0
    ∷ lapsed 243
    ∷ disbursed 1 7 243
    ∷ closed (record { applied = 120; fees = 108; utility = 2; payment = 106 })
    ∷ billed 0 2 30 (tenth 30 3 27)
    ∷ billed 0 1 90 (tenth 90 9 81)
    ∷ opened 1000 1
    ∷ enrolled first 2
    ∷ []

-- What it says of account 1, which had 350 units by its shares and 7 from the bank, and of account 2.
pub record Told (h : History ℕ) : Type 0 where
  pub left : percentage_of 1 h ≡ 0
  pub shared : shares_of 1 h ≡ 350
  pub disbursed : disbursed_to 1 h ≡ 7
  pub given : given 1 h ≡ 357
  pub used : used_by 1 h ≡ 150
  pub classed : class_of 1 h ≡ 5
  pub other_left : percentage_of 2 h ≡ 0
  pub other_shared : shares_of 2 h ≡ 500
  pub other_disbursed : disbursed_to 2 h ≡ 0
  pub other_used : used_by 2 h ≡ 30
  pub other_classed : class_of 2 h ≡ 1
  pub read : sum_by units_read h ≡ 2000
  pub forfeited : sum_by units_forfeited h ≡ 450
  pub units_of_bills : sum_by (of_bill (λ p. p.used)) h ≡ 180
  pub fees : sum_by (of_bill (λ p. p.fee)) h ≡ 162
  pub paid : sum_by (of_close (λ s. s.payment)) h ≡ 106

abbrev pub first_lines : List Line
first_lines = line 1 25000 1 ∷ line 2 50000 1 ∷ []

abbrev pub second_lines : List Line
second_lines = line 1 10000 5 ∷ []

-- It is so for any two requests that have these lines.
abbrev pub WorkedHistory : Type 0
WorkedHistory =
    (first second : Vec Line Global)
    → vec_items first ≡ first_lines
    → vec_items second ≡ second_lines
    → Told (worked first second)
