use Rattle.std.proofs.Common.{Ok, ap, ◌∙◌}
use Rattle.ledger.specs.Steps.{enrol_judged}
use Rattle.ledger.specs.Views.{view}
use Rattle.ledger.specs.declared.answer.Done.TheVariants.{Enrolled}
use Rattle.ledger.proofs.Outcomes.{outcome_left}
use Rattle.ledger.proofs.Requests.{enrols}
use Rattle.ledger.proofs.ledger.Ledger.enrol.Goals as goal

pub returns : goal.returns
returns g c =
    let b = g.B.AccountBook in
    let l = c.args.self.now in
    let ls = c.args.lines.now in
    let judged = c.in_ok-new.ensures in
    let left = λ (s : b.sound c.args.book.now). enrols b.rest_follows l.project.smallest l.project.farm ls c.in_ok-new.new c.args.book.now _ _ (b.proper c.args.book.now s).fits (judged s) (c.clear_percentages.ensures s) (λ t ranged fits. c.enter_lines.ensures ranged fits t) in
    record {
      keeps = λ s. (left s).kept;
      performs = λ s.
          outcome_left l (Ok (Enrolled c.in_ok-new.new)) (left s)
          ∙ ap (enrol_judged (view l (b.contents c.args.book.now)) ls) (judged s);
    }
