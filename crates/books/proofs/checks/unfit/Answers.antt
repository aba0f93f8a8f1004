use Rattle.std.proofs.Common.{rules}
use Rattle.books.proofs.ImagePlaces.{unfit_told}
use Rattle.books.proofs.checks.unfit.Goals as goal

pub returns : goal.returns
returns c = unfit_told c.args.image.now c.args.place _ _ c.record_at.ensures (search rules)
