-- What the calls make of an account's record.
use Rattle.std.specs.Prelude.{ℕ, ◌-◌}
use Rattle.accounts.specs.declared.record.Line.{Line}
use Rattle.accounts.specs.declared.record.Record.{Record}
use Rattle.accounts.specs.declared.record.State.TheVariants.{Open, Closed}

-- after a bill in a period that used some of its units
abbrev pub billed : ℕ → ℕ → Record → Record
billed period used r = record r { held = r.held - used; last = period }

-- after its final bill: nothing held, no percentage, closed
abbrev pub ended : ℕ → Record → Record
ended period r = record r { percentage = 0; state = Closed; held = 0; last = period }

-- with no percentage
abbrev pub unallocated : Record → Record
unallocated r = record r { percentage = 0 }

-- with a line's values
abbrev pub allocated : Line → Record → Record
allocated l r =
    record r { percentage = l.percentage; savings = l.savings; class = l.class; size = l.size; kind = l.kind }

-- a new account: open, nothing held, never billed
abbrev pub joining : Line → Record
joining l =
    record {
      account = l.account;
      percentage = l.percentage;
      savings = l.savings;
      class = l.class;
      size = l.size;
      kind = l.kind;
      state = Open;
      held = 0;
      last = 0;
    }
