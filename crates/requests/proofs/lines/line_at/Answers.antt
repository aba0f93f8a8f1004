use Rattle.std.proofs.Common.{rules}
use Rattle.requests.proofs.Judged.{line_is}
use Rattle.requests.proofs.lines.line_at.Goals as goal

pub returns : goal.returns
returns c =
    rw (← line_is c.args.file.now c.args.place c.read_pair-pair.result c.read_pair-pair.ensures c.fields.result (rw (c.end.ensures, c.start.ensures) at c.fields.ensures)) (search rules)
