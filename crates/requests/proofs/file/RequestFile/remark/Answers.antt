use Rattle.std.proofs.Common.{arith, rules}
use Rattle.requests.proofs.Opened.{within, placed}
use Rattle.requests.proofs.file.RequestFile.remark.Goals as goal

pub read_pair-pair-requires : goal.read_pair-pair-requires
read_pair-pair-requires c =
    omega (arith, within c.args.self.now.bytes.now c.args.self.now.lines c.args.self.now.in_order c.args.self.now.counted)

pub slice_bounds-result-end : goal.slice_bounds-result-end
slice_bounds-result-end c =
    let fits = placed c.args.self.now.bytes.now c.args.self.now.lines c.args.self.now.in_order c.args.self.now.counted c.args.place (omega arith) in search rules
