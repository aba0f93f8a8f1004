use Rattle.std.proofs.Common.{◌+◌, ap, ◌∙◌, sym, subst, arith}
use Rattle.std.specs.List.{slice_get}
use Rattle.accounts.specs.Books.{Left}
use Rattle.accounts.proofs.Replacing.{replace_more, over, nth_over, nth_below}
use Rattle.accounts.proofs.entries.replace_each.Goals as goal
use Rattle.accounts.proofs.entries.replace_each.Goals.{in-Some, in_default}

pub loop-place-preserved : goal.loop-place-preserved
loop-place-preserved g c =
    let b = g.B.AccountBook in
    let rs = (b.contents c.args.book.now).records in
    let i = c.loop-place.place in
    elim c.match-entry_at.branch [
      | in-Some w ↦ λ s f k.
          subst (λ z. Left b.sound b.contents b.same_rest c.args.book.now z (over f rs (i + 1))) (sym w.book-is)
          (replace_more f b.rest_follows rs i w.in-Some.entry w.change.result w.replace.result c.args.book.now _ _ k w.change.ensures (c.loop-place.invariant s f k) w.in-Some.ensures.value w.replace.ensures.answer w.replace.ensures.after)
      | in_default w ↦ λ s f k.
          let h = c.loop-place.invariant s f k in
          absurd (nth_below rs i (omega (arith, c.count-place-end.ensures s, c.loop-place-test.true)) (w.in_default.ensures.value h.kept.stays ∙ ap (λ zs. slice_get zs i) h.list ∙ nth_over f rs i))
    ]
