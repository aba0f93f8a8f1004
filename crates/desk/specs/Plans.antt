-- The calls and the notes of a journal, statement by statement.
use Rattle.std.specs.Prelude.{◌≡◌, ℕ, List, [], ◌∷◌, ◌++◌, map, replicate, Ok, Err, vec_items, Result, fold}
use Rattle.accounts.specs.declared.record.Line.{Line}
use Rattle.base.specs.Limits.{classes}
use Rattle.crediting.specs.Refusals.{judged}
use Rattle.crediting.specs.declared.rates.RatesRefusal.{RatesRefusal}
use Rattle.requests.specs.Meaning.{meaning, counted}
use Rattle.requests.specs.declared.fault.RequestRefusal.{RequestRefusal}
use Rattle.journal.specs.Meanings.{Meaning}
use Rattle.journal.specs.Meanings as statement
use Rattle.desk.specs.Deeds.{Deed, deed, an_enrolment, a_reading, a_bill, a_final_bill, a_disbursement, a_lapse, a_close}
use Rattle.desk.specs.declared.note.Note.{Note}
use Rattle.desk.specs.declared.note.Note.TheVariants as note
use Rattle.desk.specs.declared.plan.Plan.{Plan}

-- the rates of the bills that follow, the lines in hand, and the calls and notes so far
pub record State : Type 0 where
  pub rates : List ℕ
  pub lines : List Line
  pub calls : List Deed
  pub notes : List Note

-- what a plan shows, by the worth of a method
abbrev pub seen : {M : Type 0} → (M → ℕ → ℕ → ℕ) → Plan M → State
seen worth p =
    record {
      rates = p.rates.rates;
      lines = vec_items p.lines;
      calls = map (deed worth) (vec_items p.calls);
      notes = vec_items p.notes;
    }

-- a plan, old and new, where what it shows is changed
abbrev pub Becomes : {M : Type 0} → (M → ℕ → ℕ → ℕ) → Plan M → Plan M → (State → State) → Type 0
Becomes worth old new change = seen worth new ≡ change (seen worth old)

-- before the first statement the rate of every class is 1
abbrev pub begun : State
begun = record { rates = replicate classes 1; lines = []; calls = []; notes = [] }

-- a statement that is answered at once
abbrev pub noted : State → Note → State
noted s n = record { rates = s.rates; lines = s.lines; calls = s.calls; notes = s.notes ++ n ∷ [] }

-- a statement that is a call
abbrev pub called : State → Deed → Note → State
called s d n = record { rates = s.rates; lines = s.lines; calls = s.calls ++ d ∷ []; notes = s.notes ++ n ∷ [] }

-- refused rates leave those in force
abbrev pub rates_if : Result (Unit {0}) RatesRefusal → List ℕ → List ℕ → List ℕ
rates_if (Ok _) new old = new
rates_if (Err _) new old = old

-- rates, and whether they are set
abbrev pub with_rates : State → List ℕ → State
with_rates s rs =
    record {
      rates = rates_if (judged rs) rs s.rates;
      lines = s.lines;
      calls = s.calls;
      notes = s.notes ++ note.Rates (judged rs) ∷ [];
    }

-- one more line in hand
abbrev pub more_line : State → Line → State
more_line s l = record { rates = s.rates; lines = s.lines ++ l ∷ []; calls = s.calls; notes = s.notes }

-- a refused file leaves the lines in hand
abbrev pub lines_if : Result (List Line) RequestRefusal → List Line → List Line
lines_if (Ok new) old = new
lines_if (Err _) old = old

-- the lines of a request file in the place of those in hand
abbrev pub read_file : State → List ℕ → State
read_file s file =
    record {
      rates = s.rates;
      lines = lines_if (meaning file) s.lines;
      calls = s.calls;
      notes = s.notes ++ note.Request (counted (meaning file)) ∷ [];
    }

-- the lines in hand are enrolled, and then none are
abbrev pub enrolled : State → State
enrolled s =
    record {
      rates = s.rates;
      lines = [];
      calls = s.calls ++ an_enrolment s.lines ∷ [];
      notes = s.notes ++ note.Enrol ∷ [];
    }

-- `worths` is the worth of a class's units by the rates in force
module _ (worths : List ℕ → ℕ → ℕ → ℕ) where
  -- a statement more, and the bytes of the file that it names
  abbrev pub after : State → Meaning → List ℕ → State
  after s (statement.a_method _) file = s
  after s (statement.a_book _) file = s
  after s (statement.an_opening _) file = s
  after s (statement.some_rates rs) file = with_rates s rs
  after s (statement.a_line l) file = more_line s l
  after s (statement.a_request _) file = read_file s file
  after s statement.an_enrolment file = enrolled s
  after s (statement.a_reading units) file = called s (a_reading units) note.Reading
  after s (statement.a_bill account cents) file = called s (a_bill (worths s.rates) account cents) note.Bill
  after s (statement.a_final_bill account cents) file = called s (a_final_bill (worths s.rates) account cents) note.Final
  after s (statement.a_disbursement account units) file = called s (a_disbursement account units) note.Disburse
  after s statement.a_lapse file = called s a_lapse note.Lapse
  after s statement.a_close file = called s a_close note.Close

  -- the same of both as one
  abbrev pub step : State → Meaning × List ℕ → State
  step s e = after s e.0 e.1

  -- and many
  abbrev pub planned : State → List (Meaning × List ℕ) → State
  planned s es = fold step s es
