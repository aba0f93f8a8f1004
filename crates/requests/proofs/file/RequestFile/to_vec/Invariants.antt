use Rattle.std.proofs.Common.{◌≡◌, take, vec_items}
use Rattle.requests.specs.Meaning.{lines_in}
use Rattle.requests.proofs.file.RequestFile.to_vec.Given as goal

-- the lines so far
abbrev pub invariant-loop-place : goal.invariant-loop-place
invariant-loop-place l = vec_items l.lines ≡ take l.place (lines_in l.self.bytes.now)
