use Rattle.books.proofs.Pinning.{image_pinned, image_stays_whole}
use Rattle.books.proofs.image.ImageBook.start.Goals as goal

pub returns-clause-pinned : goal.returns-clause-pinned
returns-clause-pinned c = image_pinned

pub returns-clause-whole : goal.returns-clause-whole
returns-clause-whole c = image_stays_whole
