-- Rates and a file's name are all that is kept in memory.
use Rattle.std.proofs.Common.{◌≡◌, true, refl, inl, inr, ◌⊎◌}
use Rattle.std.proofs.lemmas.Bool.{both_ways}
use Rattle.journal.specs.declared.keyword.Keyword.{Keyword}
use Rattle.journal.specs.declared.keyword.Keyword.TheVariants as word
use Rattle.journal.specs.Meanings.{keeps}

pub keeps_only : (w : Keyword) → keeps w ≡ true → (w ≡ word.Rates) ⊎ (w ≡ word.Request)
keeps_only word.Method h = absurd (both_ways _ refl h)
keeps_only word.Book h = absurd (both_ways _ refl h)
keeps_only word.Open h = absurd (both_ways _ refl h)
keeps_only word.Rates h = inl refl
keeps_only word.Line h = absurd (both_ways _ refl h)
keeps_only word.Request h = inr refl
keeps_only word.Enrol h = absurd (both_ways _ refl h)
keeps_only word.Reading h = absurd (both_ways _ refl h)
keeps_only word.Bill h = absurd (both_ways _ refl h)
keeps_only word.Final h = absurd (both_ways _ refl h)
keeps_only word.Disburse h = absurd (both_ways _ refl h)
keeps_only word.Lapse h = absurd (both_ways _ refl h)
keeps_only word.Close h = absurd (both_ways _ refl h)
