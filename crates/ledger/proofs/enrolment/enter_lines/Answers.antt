use Rattle.std.proofs.Common.{◌+◌, ◌≤◌, ◌∷◌, length, get_or, drop, sym, refl, ap, ◌∙◌, subst, arith}
use Rattle.std.proofs.lemmas.List.{at_drop_more}
use Rattle.std.proofs.lemmas.List.Sums.{sum_by-cons}
use Rattle.ledger.specs.Lines.{enter_all, joins, new_accounts}
use Rattle.accounts.specs.Records.{record_of}
use Rattle.ledger.proofs.Entering.{every_at, enter_fits}
use Rattle.accounts.proofs.Leaving.{left_as, left_on}
use Rattle.ledger.proofs.Scanning.{zero_line}
use Rattle.ledger.proofs.enrolment.enter_lines.Goals as goal

pub loop-line-preserved : goal.loop-line-preserved
loop-line-preserved g c s k fits =
    let b = g.B.AccountBook in
    let rs = (b.contents c.loop-line.book).records in
    let ls = c.args.lines.now in
    let i = c.loop-line.line-index in
    let l = get_or ls i zero_line in
    let left = drop (i + 1) ls in
    let taken = c.loop-line-test.true in
    let h = c.loop-line.invariant s k fits in
    let now-fits : length rs + new_accounts rs (l ∷ left) ≤ (b.contents c.loop-line.book).room = omega (arith, h.2, at_drop_more (new_accounts rs) ls i zero_line taken) in
    let one : length rs + joins rs l ≤ (b.contents c.loop-line.book).room = omega (arith, sum_by-cons (joins rs) l left) in
    let e = c.enter_line.ensures (every_at ls i taken k) one h.0.kept.stays in
    let o = record_of l.account rs in (
      left_as (left_on b.rest_follows h.0 e) (sym e.list),
      ap (λ xs. enter_all xs left) e.list ∙ sym (at_drop_more (enter_all rs) ls i zero_line taken) ∙ h.1,
      subst (λ xs. length xs + new_accounts xs left ≤ (b.contents c.enter_line.new.book).room) (sym e.list) (omega (arith, e.kept.same_room, enter_fits rs l left (b.contents c.loop-line.book).room o refl now-fits)),
    )
