-- The definitions come to the numbers of the twelve cases.
use Rattle.std.proofs.Common.{refl}
use Rattle.crediting.specs.Credits.{applied_credit, units_used, smallest}
use Rattle.ledger_run.specs.WorkedPostings.{WorkedPostings}

pub worked : WorkedPostings
unfolding applied_credit units_used smallest
worked =
    record {
      three_thirds = record { opens = refl; held = refl; bank = refl };
      single_unit = record { opens = refl; held = refl; bank = refl };
      value_stack = record { answers = refl; left = refl };
      whole_holding = record { answers = refl; left = refl };
      part_of_holding = record { answers = refl; left = refl };
      less_than_a_cent = record { answers = refl; left = refl };
      one_cent = record { answers = refl; left = refl };
      ten_percent = record { net = refl; fee = refl };
      last_cent = record { net = refl; fee = refl };
      half_a_cent = (refl, refl);
      settlement = refl;
      limits = record { whole = refl; past_whole = refl; large = refl; past_large = refl };
    }
