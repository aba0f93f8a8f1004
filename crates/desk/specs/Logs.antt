-- The line that is printed for a statement that answers.
use Rattle.std.specs.Prelude.{ℕ, Bool, true, false, List, [], Some, None, Ok, Err, codes, Option, Result}
use Rattle.crediting.specs.Refusals.{number, place, reason}
use Rattle.crediting.specs.declared.rates.RatesRefusal.{RatesRefusal}
use Rattle.requests.specs.Refusals.{number_of, place_of, reason_of}
use Rattle.requests.specs.declared.fault.RequestRefusal.{RequestRefusal}
use Rattle.ledger.specs.declared.answer.Done.{Done}
use Rattle.ledger.specs.declared.refusal.Refusal.{Refusal}
use Rattle.desk.specs.Answers.{answer_text, request_text}
use Rattle.desk.specs.RefusalLines.{refused_text}
use Rattle.desk.specs.declared.note.Note.{Note}
use Rattle.desk.specs.declared.note.Note.TheVariants as note

abbrev pub word_of : Note → List ℕ
word_of (note.Rates _) = codes "rates"
word_of (note.Request _) = codes "request"
word_of note.Enrol = codes "enrol"
word_of note.Reading = codes "reading"
word_of note.Bill = codes "bill"
word_of note.Final = codes "final"
word_of note.Disburse = codes "disburse"
word_of note.Lapse = codes "lapse"
word_of note.Close = codes "close"

-- rates and request files are answered at once, the others by the ledger
abbrev pub calls_ledger : Note → Bool
calls_ledger (note.Rates _) = false
calls_ledger (note.Request _) = false
calls_ledger note.Enrol = true
calls_ledger note.Reading = true
calls_ledger note.Bill = true
calls_ledger note.Final = true
calls_ledger note.Disburse = true
calls_ledger note.Lapse = true
calls_ledger note.Close = true

abbrev pub rates_text : List ℕ → Result (Unit {0}) RatesRefusal → List ℕ
rates_text word (Ok _) = codes "rates: set"
rates_text word (Err why) = refused_text word (number why) (place why) (reason why)

abbrev pub file_text : List ℕ → Result ℕ RequestRefusal → List ℕ
file_text word (Ok lines) = request_text lines
file_text word (Err why) = refused_text word (number_of why) (place_of why) (reason_of why)

-- a call without an answer has no line
abbrev pub call_text : List ℕ → Option (Result Done Refusal) → List ℕ
call_text word (Some answer) = answer_text word answer
call_text word None = []

-- The line of a statement, with the ledger's answer where it is a call.
abbrev pub note_text : Note → Option (Result Done Refusal) → List ℕ
note_text (note.Rates judged) answer = rates_text (codes "rates") judged
note_text (note.Request read) answer = file_text (codes "request") read
note_text note.Enrol answer = call_text (codes "enrol") answer
note_text note.Reading answer = call_text (codes "reading") answer
note_text note.Bill answer = call_text (codes "bill") answer
note_text note.Final answer = call_text (codes "final") answer
note_text note.Disburse answer = call_text (codes "disburse") answer
note_text note.Lapse answer = call_text (codes "lapse") answer
note_text note.Close answer = call_text (codes "close") answer
