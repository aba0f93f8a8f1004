-- What a bill comes to: its credit is by the rule, and net credit and fee are the applied credit.
use Rattle.std.proofs.Common.{◌≡◌, ℕ, ◌+◌, ◌≤◌, true, arith}
use Rattle.std.proofs.lemmas.Bool.Decides.{nat_tests}
use Rattle.accounts.specs.declared.record.Kind.{Kind}
use Rattle.accounts.specs.declared.record.Kind.TheVariants.{Member, Anchor}
use Rattle.crediting.specs.Ranges.{in_ranges, is_class}
use Rattle.ledger.specs.Rules.{counted, net_credit, subscription_fee}
use Rattle.ledger.proofs.Fees.{net_within}

-- a class, the units of an account and a bill in range
pub in_range_all : (k u b : ℕ) → is_class k ≡ true → u ≤ 1_000_000_000_000 → b ≤ 1_000_000_000 → in_ranges k u b ≡ true
in_range_all k u b class held bill = grind (arith, nat_tests)

-- net credit and fee are the applied credit
pub net_and_fee : (kind : Kind) (savings c : ℕ) → savings ≤ 9800 → net_credit kind savings c + subscription_fee kind savings c ≡ c
net_and_fee kind savings c low = omega (arith, net_within kind savings c low)

pub counted_within : (kind : Kind) (c : ℕ) → counted kind c ≤ c
counted_within Member c = omega arith
counted_within Anchor c = omega arith
