use Rattle.std.proofs.Common.{ℕ, ◌<◌, arith}
use Rattle.std.proofs.lemmas.List.{get_or-drop}
use Rattle.requests.specs.Meaning.{pair_at}
use Rattle.requests.proofs.Sixes.{pair_byte}
use Rattle.requests.proofs.pairs.read_pair.Goals as goal

pub returns : goal.returns
unfolding pair_at
returns c =
    let byte = λ (j : ℕ) (s : j < 6). pair_byte c.args.file.now c.as_chunks.result.0.now c.args.place j c.as_chunks.ensures.front c.requires s in
    let b0 = byte 0 (omega arith) in
    let b1 = byte 1 (omega arith) in
    let b2 = byte 2 (omega arith) in
    let b3 = byte 3 (omega arith) in
    let b4 = byte 4 (omega arith) in
    let b5 = byte 5 (omega arith) in
    simp get_or-drop (grind arith)
