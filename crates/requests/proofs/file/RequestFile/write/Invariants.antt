use Rattle.std.proofs.Common.{◌≡◌, ◌++◌, take, drop}
use Rattle.requests.specs.Meaning.{lines_in}
use Rattle.requests.proofs.file.RequestFile.write.Given as goal

-- the lines so far stand in the first places, and the other places are as they were
abbrev pub invariant-loop-place : goal.invariant-loop-place
invariant-loop-place l =
    l.line-items ≡ take l.place (lines_in l.self.bytes.now) ++ drop l.place l.initial.line-items
