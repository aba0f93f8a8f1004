-- The number of each refusal, the place that it tells, 0 where it tells none, and its reason in words.
use Rattle.std.specs.Prelude.{ℕ, Bool, true, false, List, codes}
use Rattle.ledger.specs.declared.refusal.Refusal.{Refusal}
use Rattle.ledger.specs.declared.refusal.Refusal.TheVariants.{
  WrongSmallest,
  BookHasRecords,
  InPeriod,
  WrongLineCount,
  LineOutOfRange,
  AccountRepeated,
  LineOfClosedAccount,
  PercentagesPass,
  LargePercentagesPass,
  BookTooSmall,
  PeriodsOver,
  ReadingTooLarge,
  ReadingsPass,
  BetweenPeriods,
  BillTooLarge,
  NoOpenAccount,
  BilledAlready,
  NotInBank,
  ForeignBook,
}

abbrev pub number : Refusal → ℕ
number WrongSmallest = 9
number BookHasRecords = 10
number InPeriod = 11
number WrongLineCount = 12
number (LineOutOfRange place) = 13
number (AccountRepeated place) = 14
number (LineOfClosedAccount place) = 15
number PercentagesPass = 16
number LargePercentagesPass = 17
number BookTooSmall = 18
number PeriodsOver = 19
number ReadingTooLarge = 20
number ReadingsPass = 21
number BetweenPeriods = 22
number BillTooLarge = 23
number NoOpenAccount = 24
number BilledAlready = 25
number NotInBank = 26
number ForeignBook = 27

abbrev pub place : Refusal → ℕ
place (LineOutOfRange p) = p
place (AccountRepeated p) = p
place (LineOfClosedAccount p) = p
place _ = 0

-- whether a refusal is about a line
abbrev pub names_place : Refusal → Bool
names_place (LineOutOfRange p) = true
names_place (AccountRepeated p) = true
names_place (LineOfClosedAccount p) = true
names_place _ = false

abbrev pub reason : Refusal → List ℕ
reason WrongSmallest = codes "the smallest number of lines is neither 1 nor 10"
reason BookHasRecords = codes "the book has records already"
reason InPeriod = codes "a period is open"
reason WrongLineCount = codes "the lines are too few, or more than 1024"
reason (LineOutOfRange p) = codes "a number of the line is out of range"
reason (AccountRepeated p) = codes "the account stands on an earlier line"
reason (LineOfClosedAccount p) = codes "the account is closed"
reason PercentagesPass = codes "the percentages pass 100 percent together"
reason LargePercentagesPass = codes "the percentages of large satellites pass 40 percent together"
reason BookTooSmall = codes "the book has no room for the new accounts"
reason PeriodsOver = codes "all 1200 periods are closed"
reason ReadingTooLarge = codes "the reading passes 10000000000 units"
reason ReadingsPass = codes "the readings pass 1000000000000 units together"
reason BetweenPeriods = codes "no period is open"
reason BillTooLarge = codes "the bill passes 1000000000 cents"
reason NoOpenAccount = codes "no open account has this number"
reason BilledAlready = codes "the account is billed already in this period"
reason NotInBank = codes "the units are 0, or more than the bank has"
reason ForeignBook = codes "the book is another ledger's"
