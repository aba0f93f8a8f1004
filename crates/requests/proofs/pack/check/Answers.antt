use Rattle.std.proofs.Common.{◌≤◌, length, get_or, arith, rules}
use Rattle.std.proofs.lemmas.Grind.{common_steps}
use Rattle.std.proofs.lemmas.Bool.Decides.{nat_tests}
use Rattle.requests.specs.Packing.{item, packing}
use Rattle.requests.proofs.Packs.{blank, left_more}
use Rattle.requests.proofs.Checks.{packing_judged, items_step, items_all, text_most}
use Rattle.requests.proofs.pack.check.Goals as goal

pub returns-then-not-contains : goal.returns-then-not-contains
unfolding packing
returns-then-not-contains c = grind (arith, common_steps, nat_tests)

pub returns-then-not-numbers_fit : goal.returns-then-not-numbers_fit
returns-then-not-numbers_fit c =
    let judged = packing_judged c.args.lines.now (search rules) (search rules) in
    let step = items_step c.args.lines.now c.loop-place.place blank c.loop-place-test.true in
    grind (arith, common_steps, nat_tests)

pub returns-then-filed_line-gt-MOST_REMARK : goal.returns-then-filed_line-gt-MOST_REMARK
returns-then-filed_line-gt-MOST_REMARK c =
    let judged = packing_judged c.args.lines.now (search rules) (search rules) in
    let step = items_step c.args.lines.now c.loop-place.place blank c.loop-place-test.true in
    grind (arith, common_steps, nat_tests)

-- a text has at most 110 bytes
short : (c : goal.After-text_length-size) → c.text_length-size.result ≤ 110
short c =
    omega (arith, c.text_length-size.ensures, text_most (item (get_or c.args.lines.now c.loop-place.place blank)) c.if-filed_line-gt-MOST_REMARK.false)

pub overflow_add-size-in-loop-place : goal.overflow_add-size-in-loop-place
overflow_add-size-in-loop-place c =
    let few : length c.args.lines.now ≤ 1024 = search rules in
    omega (arith, short c, c.loop-place.invariant.2)

pub loop-place-preserved : goal.loop-place-preserved
loop-place-preserved c =
    let step = items_step c.args.lines.now c.loop-place.place blank c.loop-place-test.true in
    let left = left_more c.args.lines.now c.loop-place.place blank c.loop-place-test.true in
    (grind (arith, common_steps, nat_tests), omega (arith, c.loop-place.invariant.1, c.text_length-size.ensures), omega (arith, short c, c.loop-place.invariant.2))

pub returns-then-size-gt-MOST_FILE : goal.returns-then-size-gt-MOST_FILE
returns-then-size-gt-MOST_FILE c =
    let judged = packing_judged c.args.lines.now (search rules) (search rules) in
    grind (arith, common_steps, nat_tests, items_all)

pub returns : goal.returns
returns c =
    let judged = packing_judged c.args.lines.now (search rules) (search rules) in
    grind (arith, common_steps, nat_tests, items_all)
