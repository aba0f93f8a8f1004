use Rattle.std.proofs.Common.{◌+◌, ◌++◌, drop, vec_items, sym, ap, ◌∙◌, arith}
use Rattle.accounts.proofs.Leaving.{kept_on}
use Rattle.ledger.specs.Steps.{open_leaves, opened}
use Rattle.ledger.specs.Views.{view}
use Rattle.ledger_run.specs.Laws.{answers}
use Rattle.ledger_run.proofs.Runs.{accepted, ran, runs_lawfully}
use Rattle.ledger_run.proofs.Turns.{after_more, answers_more, after_all, answers_all}
use Rattle.ledger_run.proofs.run.run.Goals as goal

pub loop-call-preserved : goal.loop-call-preserved
loop-call-preserved g c =
    let b = g.B.AccountBook in
    let worth = g.M.CreditMethod.worth in
    let calls = c.args.calls.now in
    let i = c.loop-call.call-index in
    let here = view c.loop-call.ledger (b.contents c.loop-call.book) in
    let there = view c.perform.new.self (b.contents c.perform.new.book) in
    let answer = c.perform.result in
    let taken = c.loop-call-test.true in (
      λ s.
          let h = c.loop-call.invariant.0 s in
          let p = c.perform.ensures.keeps h.0.stays in
          let e = c.perform.ensures.performs h.0.stays in (
            kept_on b.rest_follows h.0 p,
            after_more worth calls i here there answer c.call-item.result taken c.call-item.is e ∙ h.1,
            ap (λ xs. xs ++ answers worth there (drop (i + 1) calls)) c.push_reserved.ensures.items ∙ answers_more worth calls i here there answer c.call-item.result (vec_items c.loop-call.answers) taken c.call-item.is e ∙ h.2,
          ),
      omega (arith, c.push_reserved.ensures.len, c.loop-call.invariant.1),
      omega (arith, c.push_reserved.ensures.capacity, c.loop-call.invariant.2),
    )

pub returns-clause-runs : goal.returns-clause-runs
returns-clause-runs g c s =
    let b = g.B.AccountBook in
    let worth = g.M.CreditMethod.worth in
    let calls = c.args.calls.now in
    let i = c.loop-call.call-index in
    let rs = (b.contents c.args.book.now).records in
    let room = (b.contents c.args.book.now).room in
    let before = view c.args.ledger.now (b.contents c.args.book.now) in
    let start = opened c.args.project room rs in
    let end = view c.loop-call.ledger (b.contents c.loop-call.book) in
    let done = c.loop-call-test.false in
    let h = c.loop-call.invariant.0 s in
    let judged = accepted _ _ (c.in_ok-open.ensures.answer s) in
    (judged, ran worth g.met.M.CreditMethod.lawful c.args.project room rs calls _ _ _ (b.proper c.args.book.now s).bounded judged (c.open.ensures.state s ∙ ap (λ j. open_leaves j before start) judged) (sym (after_all worth calls i end done) ∙ h.1) (sym (answers_all worth calls i end (vec_items c.loop-call.answers) done) ∙ h.2))

pub returns-clause-law : goal.returns-clause-law
returns-clause-law g c = runs_lawfully g.M.CreditMethod.worth g.met.M.CreditMethod.lawful

pub returns-in_err-open-clause-law : goal.returns-in_err-open-clause-law
returns-in_err-open-clause-law g c = runs_lawfully g.M.CreditMethod.worth g.met.M.CreditMethod.lawful

pub returns-in_err-answers-clause-law : goal.returns-in_err-answers-clause-law
returns-in_err-answers-clause-law g c = runs_lawfully g.M.CreditMethod.worth g.met.M.CreditMethod.lawful
