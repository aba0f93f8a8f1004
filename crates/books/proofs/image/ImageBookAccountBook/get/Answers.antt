use Rattle.std.proofs.Common.{sym, ◌∙◌, arith}
use Rattle.books.proofs.Slots.{record_here}
use Rattle.books.proofs.ImagePlaces.{nth_held}
use Rattle.books.proofs.Opening.{legible_opened}
use Rattle.books.proofs.image.ImageBookAccountBook.get.Goals as goal

pub returns : goal.returns
returns c =
    let b = c.args.self.now in
    let l = legible_opened b.image.now b.count b.reads.same_count in
    c.record_at.ensures ∙ (record_here b.image.now c.args.place (omega (arith, l.1)) ∙ sym (nth_held b.image.now b.count c.args.place l.0 (omega arith)))
