-- What a call does, with lists in the place of memory and a worth in the place of a method.
use Rattle.std.specs.Prelude.{ℕ, List, vec_items}
use Rattle.accounts.specs.declared.record.Line.{Line}
use Rattle.ledger.specs.declared.call.Call.{Call}
use Rattle.ledger.specs.declared.call.Call.TheVariants as call
use Rattle.desk.specs.declared.note.Note.{Note}
use Rattle.desk.specs.declared.note.Note.TheVariants as note

pub data Deed : Type 0 where
  an_enrolment : List Line → Deed
  a_reading : ℕ → Deed
  -- the worth of a class's units, the account, the cents
  a_bill : (ℕ → ℕ → ℕ) → ℕ → ℕ → Deed
  a_final_bill : (ℕ → ℕ → ℕ) → ℕ → ℕ → Deed
  a_disbursement : ℕ → ℕ → Deed
  a_lapse : Deed
  a_close : Deed

abbrev pub deed : {M : Type 0} → (M → ℕ → ℕ → ℕ) → Call M → Deed
deed worth (call.Enrol lines) = an_enrolment (vec_items lines)
deed worth (call.Reading units) = a_reading units
deed worth (call.Bill method account cents) = a_bill (worth method) account cents
deed worth (call.FinalBill method account cents) = a_final_bill (worth method) account cents
deed worth (call.Disburse account units) = a_disbursement account units
deed worth call.Lapse = a_lapse
deed worth call.Close = a_close

-- the note of a call's statement
abbrev pub note_of : {M : Type 0} → Call M → Note
note_of (call.Enrol _) = note.Enrol
note_of (call.Reading _) = note.Reading
note_of (call.Bill _ _ _) = note.Bill
note_of (call.FinalBill _ _ _) = note.Final
note_of (call.Disburse _ _) = note.Disburse
note_of call.Lapse = note.Lapse
note_of call.Close = note.Close
