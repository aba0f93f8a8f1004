-- The line of each answer.
use Rattle.std.specs.Prelude.{ℕ, List, ◌++◌, Ok, Err, codes, decimal, Result}
use Rattle.ledger.specs.declared.answer.Done.{Done}
use Rattle.ledger.specs.declared.answer.Done.TheVariants.{Enrolled, Opened, Billed, FinallyBilled, Disbursed, Lapsed, Closed}
use Rattle.ledger.specs.declared.answer.Posting.{Posting}
use Rattle.ledger.specs.declared.refusal.Refusal.{Refusal}
use Rattle.ledger.specs.declared.answer.Settlement.{Settlement}
use Rattle.ledger.specs.Refusals.{number, place, reason}
use Rattle.desk.specs.RefusalLines.{refused_text}

-- what a bill comes to
abbrev pub posting_text : Posting → List ℕ
posting_text p =
    codes "applied " ++ (decimal p.applied
    ++ (codes " used " ++ (decimal p.used ++ (codes " net " ++ (decimal p.net ++ (codes " fee " ++ decimal p.fee))))))

abbrev pub bill_text : Posting → List ℕ
bill_text p = codes "bill: " ++ posting_text p

abbrev pub final_text : Posting → ℕ → List ℕ
final_text p forfeited = codes "final: " ++ (posting_text p ++ (codes " forfeited " ++ decimal forfeited))

abbrev pub close_text : Settlement → List ℕ
close_text s =
    codes "close: applied " ++ (decimal s.applied
    ++ (codes " fees " ++ (decimal s.fees
    ++ (codes " utility " ++ (decimal s.utility ++ (codes " payment " ++ decimal s.payment))))))

abbrev pub done_text : Done → List ℕ
done_text (Enrolled new) = codes "enrol: " ++ (decimal new ++ codes " new")
done_text (Opened period) = codes "reading: period " ++ decimal period
done_text (Billed p) = bill_text p
done_text (FinallyBilled p forfeited) = final_text p forfeited
done_text (Disbursed bank) = codes "disburse: bank " ++ decimal bank
done_text (Lapsed forfeited) = codes "lapse: forfeited " ++ decimal forfeited
done_text (Closed s) = close_text s

-- what a call answers: the word is that of the statement that makes it
abbrev pub answer_text : List ℕ → Result Done Refusal → List ℕ
answer_text word (Ok done) = done_text done
answer_text word (Err why) = refused_text word (number why) (place why) (reason why)

abbrev pub request_text : ℕ → List ℕ
request_text lines = codes "request: " ++ (decimal lines ++ codes " lines")
