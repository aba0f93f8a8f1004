use Rattle.requests.proofs.Opened.{table_more}
use Rattle.requests.proofs.file.RequestFile.write.Goals as goal

pub loop-place-preserved : goal.loop-place-preserved
loop-place-preserved c =
    table_more _ _ _ _ _ c.line_within.ensures c.loop-place-test.true c.loop-place.invariant
