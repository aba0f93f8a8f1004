use Rattle.std.proofs.Common.{refl, rules, tests}
use Rattle.sharing.specs.Shares.{gaining}
use Rattle.sharing.proofs.Sharing.{gains_in_range}
use Rattle.sharing.proofs.reading.Reading.share_out.Goals as goal

pub returns : goal.returns
returns g c own s =
    let units = c.args.self.units in
    c.replace_each.ensures (gaining units) (record {
      computed = λ x new k. search (rules, tests);
      whose = λ r. refl;
      ranged = λ i r e k. gains_in_range units (g.B.AccountBook.contents c.args.book.now).records i r own e k;
    }) s
