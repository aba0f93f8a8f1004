-- What is known of the applied credit and of the units used.
use Rattle.crediting.proofs.Fewest.{applied_lesser, applied_outside, applied_within, bill_inside, used_outside}
use Rattle.crediting.proofs.Rounding.{used_rated}

pub ruleset applied = (applied_lesser, applied_outside)

pub ruleset used = (used_outside, used_rated, applied_within, bill_inside)
