use Rattle.std.proofs.Common.{◌^◌, arith, rules}
use Rattle.std.proofs.lemmas.Iterator.{YieldsList-from_slice}
use Rattle.std.proofs.lemmas.Iterator.Adapters.{at_most_from_yields_List, fits_from_length}
use Rattle.report.proofs.row.Column.total.Goals as goal

pub sum-requires-clause-fits : goal.sum-requires-clause-fits
sum-requires-clause-fits c =
    fits_from_length _ _ (2 ^ 63) _ (at_most_from_yields_List (YieldsList-from_slice c.args.rows.now cc) (omega arith)) c.map.ensures.closure (omega arith) (λ x r q k. search (rules))
