use Rattle.std.proofs.Common.{arith, rules}
use Rattle.journal.proofs.LineCuts.{next_line, no_line, counted, refused}
use Rattle.journal.proofs.text.read_journal.Goals as goal

pub returns-in_err-add : goal.returns-in_err-add
returns-in_err-add c =
    let next = next_line _ _ _ _ _ _ (λ a r f' k. search rules) c.in-Some.ensures.steps in
    grind (arith, next.0, refused)

pub loop-line-preserved : goal.loop-line-preserved
loop-line-preserved c =
    let next = next_line _ _ _ _ _ _ (λ a r f' k. search rules) c.in-Some.ensures.steps in
    record {
      can_next = search rules;
      finite = search rules;
      counted = omega (arith, c.loop-line.invariant.counted, next.1, counted _ _ _ c.in_ok-add.ensures);
      left = grind (arith, next.0);
    }

pub returns : goal.returns
returns c = grind (arith, no_line _ c.in-None.ensures.steps.0)
