-- How an applied credit is divided among satellite, host and utility.
use Rattle.std.specs.Prelude.{ℕ, ◌+◌, ◌-◌, ◌*◌, ◌/◌}
use Rattle.accounts.specs.declared.record.Kind.{Kind}
use Rattle.accounts.specs.declared.record.Kind.TheVariants.{Member, Anchor}
use Rattle.ledger.specs.Limits.{basis, utility_rate}

-- what a satellite keeps of an applied credit: a member its savings rate, rounded down; an excluded anchor all of it
abbrev pub net_credit : Kind → ℕ → ℕ → ℕ
net_credit Member savings applied = applied * savings / basis
net_credit Anchor savings applied = applied

-- the subscription fee is the rest, so that net credit and fee are the applied credit to the cent
abbrev pub subscription_fee : Kind → ℕ → ℕ → ℕ
subscription_fee kind savings applied = applied - net_credit kind savings applied

-- only members' applied credits count towards the utility fee
abbrev pub counted : Kind → ℕ → ℕ
counted Member applied = applied
counted Anchor applied = 0

-- the utility's part of the period's members' applied credits, to the nearest cent, half up
abbrev pub utility_fee : ℕ → ℕ
utility_fee applied = (applied * utility_rate + basis / 2) / basis
