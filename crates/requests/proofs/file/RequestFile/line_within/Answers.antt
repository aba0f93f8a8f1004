use Rattle.std.proofs.Common.{sym, ◌∙◌, arith}
use Rattle.requests.proofs.Opened.{within, placed, line_ok, line_in}
use Rattle.requests.proofs.file.RequestFile.line_within.Goals as goal

pub line_at-requires-clause-within : goal.line_at-requires-clause-within
line_at-requires-clause-within c =
    omega (arith, within c.args.self.now.bytes.now c.args.self.now.lines c.args.self.now.in_order c.args.self.now.counted, c.args.self.now.counted)

pub line_at-requires-clause-placed : goal.line_at-requires-clause-placed
line_at-requires-clause-placed c =
    placed c.args.self.now.bytes.now c.args.self.now.lines c.args.self.now.in_order c.args.self.now.counted c.args.place (omega (arith, c.args.self.now.counted))

pub unwrap-requires : goal.unwrap-requires
unwrap-requires c =
    rw c.line_at.ensures (line_ok c.args.self.now.bytes.now c.args.self.now.lines c.args.self.now.in_order c.args.self.now.counted c.args.place (omega (arith, c.args.self.now.counted)))

pub returns : goal.returns
returns c =
    line_in c.args.self.now.bytes.now c.args.self.now.lines c.args.self.now.in_order c.args.self.now.counted c.args.place _ (omega (arith, c.args.self.now.counted)) (sym c.line_at.ensures ∙ c.unwrap.ensures)
