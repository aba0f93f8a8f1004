-- The first word of each statement.
use Rattle.std.specs.Prelude.{ℕ, cond, List, Some, None, codes, Option}
use Rattle.std.specs.Str.{bytes_eq}
use Rattle.journal.specs.declared.keyword.Keyword.{Keyword}
use Rattle.journal.specs.declared.keyword.Keyword.TheVariants.{
  Method,
  Book,
  Open,
  Rates,
  Line,
  Request,
  Enrol,
  Reading,
  Bill,
  Final,
  Disburse,
  Lapse,
  Close,
}

abbrev pub keyword_of : List ℕ → Option Keyword
keyword_of w =
    cond (bytes_eq w (codes "method")) (Some Method)
    (cond (bytes_eq w (codes "book")) (Some Book)
    (cond (bytes_eq w (codes "open")) (Some Open)
    (cond (bytes_eq w (codes "rates")) (Some Rates)
    (cond (bytes_eq w (codes "line")) (Some Line)
    (cond (bytes_eq w (codes "request")) (Some Request)
    (cond (bytes_eq w (codes "enrol")) (Some Enrol)
    (cond (bytes_eq w (codes "reading")) (Some Reading)
    (cond (bytes_eq w (codes "bill")) (Some Bill)
    (cond (bytes_eq w (codes "final")) (Some Final)
    (cond (bytes_eq w (codes "disburse")) (Some Disburse)
    (cond (bytes_eq w (codes "lapse")) (Some Lapse)
    (cond (bytes_eq w (codes "close")) (Some Close) None))))))))))))
