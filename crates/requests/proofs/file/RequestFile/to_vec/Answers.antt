use Rattle.requests.proofs.Opened.{list_more}
use Rattle.requests.proofs.file.RequestFile.to_vec.Goals as goal

pub loop-place-preserved : goal.loop-place-preserved
loop-place-preserved c =
    let more = list_more _ _ _ c.line_within.ensures in
    rw (c.in_ok-push.ensures.items, c.loop-place.invariant) more
