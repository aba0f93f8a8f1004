use Rattle.std.proofs.Common.{◌≡◌, true, false, sym, rules}
use Rattle.std.specs.Int.{w32, to_le_bytes}
use Rattle.books.specs.Bytes.{written}
use Rattle.books.specs.Images.{capacity_of}
use Rattle.books.proofs.Opening.{start_err, reads_lacking, reads_open}
use Rattle.books.proofs.Writing.{open_started}
use Rattle.books.proofs.extent.Extent.start.Goals as goal

pub returns-then-is_err-clause-reads : goal.returns-then-is_err-clause-reads
returns-then-is_err-clause-reads c =
    let none : c.default.result ≡ record { count = 0; room = 0 } = search rules in
    rw none (reads_lacking c.args.image.now (start_err c.args.image.now c.check_start.result true c.if-is_err.ensures.value c.check_start.ensures))

pub returns-clause-reads : goal.returns-clause-reads
returns-clause-reads c =
    let bs = c.args.image.now in
    let h = start_err bs c.check_start.result false c.if-is_err.ensures.value c.check_start.ensures in
    rw (c.put_count.ensures, c.capacity-room.ensures) (reads_open (written 0 (to_le_bytes w32 0) bs) 0 (capacity_of bs) (open_started bs (sym h)))
