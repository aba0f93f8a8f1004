use Rattle.std.proofs.Common.{◌≡◌, ◌++◌, take, string_bytes, codes}
use Rattle.std.specs.List.{flat_map}
use Rattle.journal.specs.Texts.{rate_text}
use Rattle.journal.proofs.write.write_rates.Given as goal

abbrev pub invariant-loop-rate : goal.invariant-loop-rate
invariant-loop-rate l = string_bytes l.text ≡ codes "rates" ++ flat_map rate_text (take l.rate-index l.rates)
