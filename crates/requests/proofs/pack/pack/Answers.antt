use Rattle.std.proofs.Common.{map, arith}
use Rattle.std.proofs.lemmas.List.{length-map}
use Rattle.std.proofs.lemmas.Grind.{common_steps}
use Rattle.requests.specs.Packing.{item, file_of}
use Rattle.requests.proofs.Trips.{packs, packed, numbers_at}
use Rattle.requests.proofs.pack.pack.Goals as goal

pub overflow_cast-lines : goal.overflow_cast-lines
overflow_cast-lines c =
    let es = map item c.args.lines.now in
    omega (arith, (packed es (file_of es) (packs es c.requires)).few, length-map c.args.lines.now item)

pub push_pairs-requires : goal.push_pairs-requires
push_pairs-requires c =
    let es = map item c.args.lines.now in
    omega (arith, (packed es (file_of es) (packs es c.requires)).short, length-map c.args.lines.now item)

pub push_texts-requires : goal.push_texts-requires
push_texts-requires c =
    let es = map item c.args.lines.now in
    numbers_at 0 c.args.lines.now (packed es (file_of es) (packs es c.requires)).items

pub returns : goal.returns
unfolding file_of
returns c =
    let is = packs (map item c.args.lines.now) c.requires in
    let long = length-map c.args.lines.now item in
    grind (arith, common_steps)
