-- How net credit, subscription fee and utility fee lie to each other.
use Rattle.std.proofs.Common.{ℕ, ◌*◌, ◌≤◌, mul-le-mul_left, arith}
use Rattle.accounts.specs.declared.record.Kind.{Kind}
use Rattle.accounts.specs.declared.record.Kind.TheVariants.{Member, Anchor}
use Rattle.ledger.specs.Rules.{net_credit, subscription_fee, counted, utility_fee}

pub net_within : (kind : Kind) (savings applied : ℕ) → savings ≤ 9800 → net_credit kind savings applied ≤ applied
net_within Member savings applied h = omega (arith, mul-le-mul_left applied h)
net_within Anchor savings applied h = omega arith

-- a member's fee is at least a fiftieth of its applied credit
pub fee_covers : (kind : Kind) (savings applied : ℕ) → savings ≤ 9800 → counted kind applied ≤ 50 * subscription_fee kind savings applied
fee_covers Member savings applied h = omega (arith, mul-le-mul_left applied h)
fee_covers Anchor savings applied h = omega arith

-- so the fees of a period cover its utility fee
pub utility_covered : (applied fees : ℕ) → applied ≤ 50 * fees → utility_fee applied ≤ fees
utility_covered applied fees h = omega arith
