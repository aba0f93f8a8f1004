-- The definitions come to the answers of the worked calls.
use Rattle.std.proofs.Common.{refl}
use Rattle.crediting.specs.Credits.{applied_credit, units_used, smallest}
use Rattle.ledger_run.specs.WorkedChecks.{WorkedChecks}

pub checks : WorkedChecks
unfolding applied_credit units_used smallest
checks =
    record {
      opening = record { exempt = refl; ten = refl; smallest = refl; empty = refl };
      phases = record { bill_between = refl; final_between = refl; close_between = refl; enrol_in = λ lines. refl; reading_in = refl; disburse_in = refl; lapse_in = refl };
      requests = record { count = refl; ranges = refl; repeated = refl; closed = refl; whole = refl; large = refl; room = refl; taken = refl; first_range = refl; first_repeated = refl; first_closed = refl; farm = refl };
      line_counts = record { nine = refl; ten = refl; most = refl; past_most = refl };
      line_ranges = record { largest = refl; least = refl; no_account = refl; account = refl; no_percentage = refl; percentage = refl; low_savings = refl; savings = refl; no_class = refl; class = refl };
      enrolment = record { records = refl };
      readings = record { last_period = refl; periods = refl; large = refl; together = refl; whole = refl; foreign = refl; over = refl; full = refl };
      bills = record { large = refl; missing = refl; closed = refl; billed = refl; foreign = refl; most = refl };
      final_bills = record { large = refl; missing = refl; closed = refl; billed = refl; foreign = refl; most = refl };
      final_bill = record { answers = refl; leaves = refl };
      disbursements = record { missing = refl; closed = refl; nothing = refl; over = refl; foreign = refl; full = refl; answers = refl; bank = refl; held = refl };
      lapse = record { answers = refl; leaves = refl; empty = refl };
      kinds = record { anchor_keeps = refl; anchor_fee = refl; anchor_counts = refl; member_counts = refl };
      bill_leaves = record { member = refl; anchor = refl };
      close_leaves = record { ended = refl };
    }
