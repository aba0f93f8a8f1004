use Rattle.std.proofs.Common.{true, false, rules}
use Rattle.std.proofs.lemmas.Iterator.{first_from_Range}
use Rattle.books.proofs.ImagePlaces.{Judged, first_judged}
use Rattle.books.proofs.checks.first_unfit.Goals as goal

pub returns : goal.returns
returns c h =
    let bs = c.args.image.now in
    let found = first_from_Range (record { start = 0; end = c.args.count }) _ _ _ (λ i. Judged bs i true) (λ i. Judged bs i false) c.find.ensures.ran (λ x q k. search rules) (λ x q k. search rules) in
    first_judged bs c.args.count h c.find.result found
