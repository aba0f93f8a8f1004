use Rattle.std.proofs.Common.{◌+◌, ◌<◌, ◌≤◌, sym, arith}
use Rattle.std.proofs.lemmas.Bool.{lt-ltb, le-ltb}
use Rattle.sharing.specs.Shares.{share}
use Rattle.sharing.proofs.Sharing.{foreign_shares, share_more, shared_within, past_whole, past_holding}
use Rattle.sharing.proofs.reading.Reading.judge.Goals as goal

pub returns-then-percentages-gt-ALL-clause-value : goal.returns-then-percentages-gt-ALL-clause-value
returns-then-percentages-gt-ALL-clause-value g c s =
    let rs = (g.B.AccountBook.contents c.args.book.now).records in
    let l = c.loop-place in
    let at = sym (c.in_ok-entry.ensures.value s) in
    foreign_shares c.args.self.units rs (past_whole c.args.self.units l.percentages l.shared rs l.place c.in_ok-entry.entry.holder at (l.invariant.0 s) (omega (arith, c.from-percentages.ensures, c.if-percentages-gt-ALL.true)))

pub returns-then-entry-gain-gt-MOST_UNITS-clause-value : goal.returns-then-entry-gain-gt-MOST_UNITS-clause-value
returns-then-entry-gain-gt-MOST_UNITS-clause-value g c s =
    let rs = (g.B.AccountBook.contents c.args.book.now).records in
    let l = c.loop-place in
    let r = c.in_ok-entry.entry.holder in
    let at = sym (c.in_ok-entry.ensures.value s) in
    let over : 1000000000000 < r.held + share c.args.self.units r.percentage = omega (arith, c.share-gain.ensures, c.if-entry-gain-gt-MOST_UNITS.true) in
    foreign_shares c.args.self.units rs (past_holding c.args.self.units l.percentages l.shared rs l.place r at (l.invariant.0 s) (lt-ltb 1000000000000 _ over))

pub loop-place-preserved : goal.loop-place-preserved
loop-place-preserved g c =
    let units = c.args.self.units in
    let l = c.loop-place in
    let r = c.in_ok-entry.entry.holder in
    let fits : r.held + share units r.percentage ≤ 1000000000000 = omega (arith, c.share-gain.ensures, c.if-entry-gain-gt-MOST_UNITS.false) in (
      λ s.
          let rs = (g.B.AccountBook.contents c.args.book.now).records in
          let at = sym (c.in_ok-entry.ensures.value s) in
          rw (c.share-gain.ensures, c.from-percentages.ensures) (share_more units l.percentages l.shared rs l.place r at (l.invariant.0 s) (le-ltb 1000000000000 _ fits)),
      c.if-percentages-gt-ALL.false,
      rw c.from-percentages.ensures (shared_within units l.percentages l.shared r.percentage _ c.share-gain.ensures l.invariant.2),
    )
