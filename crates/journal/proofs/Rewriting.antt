-- The text of a statement is read as the statement.
use Rattle.std.proofs.Common.{◌≡◌, ℕ, suc, ◌^◌, ◌<◌, ◌≤◌, true, List, [], ◌∷◌, ◌++◌, map, get_or, Some, Ok, IsUtf8, codes, decimal, string_bytes, IfOk, Result, String, Global, sym, ap, ◌∙◌, append_assoc, append-nil, arith}
use Rattle.std.proofs.lemmas.Result.{IfOk-weaker}
use Rattle.std.specs.List.{flat_map, AllByRecursion}
use Rattle.std.specs.declared.alloc.AllocError.{AllocError}
use Rattle.accounts.specs.Marks.{size_text, kind_text}
use Rattle.journal.specs.declared.statement.BookKind.TheVariants.{Table, Image}
use Rattle.journal.specs.Fields.{most32, rates_from}
use Rattle.journal.specs.Meanings.{
  Meaning,
  a_method,
  a_book,
  an_opening,
  some_rates,
  a_line,
  a_request,
  an_enrolment,
  a_reading,
  a_bill,
  a_final_bill,
  a_disbursement,
  a_lapse,
  a_close,
  statement_of,
  words_say,
}
use Rattle.journal.specs.Texts.{text_of, method_text, project_text, rate_text, readable, Written}
use Rattle.journal.proofs.Again.{joined, AreWords, words_joined, decimal_word, number_decimal}
use Rattle.journal.proofs.Listing.{text_is}

-- each number is one of its type, and a file's name is text
abbrev pub Fitting : Meaning → Type 0
Fitting (a_method name) = Unit {0}
Fitting (a_book (Table places)) = places < 2 ^ 64
Fitting (a_book (Image bytes)) = bytes < 2 ^ 64
Fitting (an_opening project) = project.smallest < 2 ^ 32
Fitting (some_rates rates) = AllByRecursion (λ r. r ≤ most32) rates
Fitting (a_line l) = (l.account < 2 ^ 64) × (l.percentage < 2 ^ 32) × (l.savings < 2 ^ 16) × (l.class < 2 ^ 8)
Fitting (a_request name) = IsUtf8 name
Fitting an_enrolment = Unit {0}
Fitting (a_reading units) = units < 2 ^ 64
Fitting (a_bill account cents) = (account < 2 ^ 64) × (cents < 2 ^ 64)
Fitting (a_final_bill account cents) = (account < 2 ^ 64) × (cents < 2 ^ 64)
Fitting (a_disbursement account units) = (account < 2 ^ 64) × (units < 2 ^ 64)
Fitting a_lapse = Unit {0}
Fitting a_close = Unit {0}

-- what holds at each index holds of each
pub every_at : (rs : List ℕ) → ((i : ℕ) → get_or rs i 0 ≤ most32) → AllByRecursion (λ r. r ≤ most32) rs
every_at [] h = tt
every_at (r ∷ rs) h = (h 0, every_at rs (λ i. h (suc i)))

abbrev words_of : Meaning → List (List ℕ)
words_of (a_method name) = codes "method" ∷ method_text name ∷ []
words_of (a_book (Table places)) = codes "book" ∷ codes "table" ∷ decimal places ∷ []
words_of (a_book (Image bytes)) = codes "book" ∷ codes "image" ∷ decimal bytes ∷ []
words_of (an_opening project) = codes "open" ∷ decimal project.smallest ∷ project_text project.farm ∷ []
words_of (some_rates rates) = codes "rates" ∷ map decimal rates
words_of (a_line l) =
    codes "line" ∷ decimal l.account ∷ decimal l.percentage ∷ decimal l.savings ∷ decimal l.class ∷ size_text l.size ∷ kind_text l.kind ∷ []
words_of (a_request name) = codes "request" ∷ name ∷ []
words_of an_enrolment = codes "enrol" ∷ []
words_of (a_reading units) = codes "reading" ∷ decimal units ∷ []
words_of (a_bill account cents) = codes "bill" ∷ decimal account ∷ decimal cents ∷ []
words_of (a_final_bill account cents) = codes "final" ∷ decimal account ∷ decimal cents ∷ []
words_of (a_disbursement account units) = codes "disburse" ∷ decimal account ∷ decimal units ∷ []
words_of a_lapse = codes "lapse" ∷ []
words_of a_close = codes "close" ∷ []

-- rates
rates_joined : (w : List ℕ) (rs : List ℕ) → w ++ flat_map rate_text rs ≡ joined (w ∷ map decimal rs)
rates_joined w [] = append-nil w
rates_joined w (r ∷ rs) = ap (λ t. w ++ 32 ∷ t) (rates_joined (decimal r) rs)

rates_here : (rs : List ℕ) → text_of (some_rates rs) ≡ joined (words_of (some_rates rs))
rates_here rs = rates_joined (codes "rates") rs

rate_words : (rs : List ℕ) → AllByRecursion (λ r. r ≤ most32) rs → AreWords (map decimal rs)
rate_words [] h = tt
rate_words (r ∷ rs) h = (decimal_word r (omega (arith, h.0)), rate_words rs h.1)

rates_again : (acc rs : List ℕ) → AllByRecursion (λ r. r ≤ most32) rs → rates_from acc (map decimal rs) ≡ Ok (acc ++ rs)
unfolding rates_from
rates_again acc [] e = ap Ok (sym (append-nil acc))
rates_again acc (r ∷ rs) e =
    grind (arith, number_decimal most32 r (omega (arith, e.0)) e.0, rates_again (acc ++ r ∷ []) rs e.1, append_assoc)

-- the words of the text
text_joined : (m : Meaning) → text_of m ≡ joined (words_of m)
text_joined m = grind (arith, rates_here)

are_words : (m : Meaning) → Fitting m → readable m ≡ true → AreWords (words_of m)
are_words m f r = grind (arith, decimal_word, rate_words)

-- what the words say
words_meaning : (m : Meaning) → Fitting m → words_say (words_of m) ≡ Ok (Some m)
words_meaning m f = grind (arith, number_decimal, rates_again, text_is)

pub written : (m : Meaning) (bs : List ℕ) → Fitting m → bs ≡ text_of m → Written m bs
written m bs f e =
    record {
      bytes = e;
      again = λ r. ap statement_of (e ∙ text_joined m) ∙ ap words_say (words_joined (words_of m) (are_words m f r)) ∙ words_meaning m f;
    }

pub reads_again : (m : Meaning) → Fitting m → (r : Result (String Global) AllocError) → IfOk r (λ s. string_bytes s ≡ text_of m) → IfOk r (λ s. Written m (string_bytes s))
reads_again m f r h = IfOk-weaker r _ _ (λ s e. written m (string_bytes s) f e) h
