use Rattle.std.proofs.Common.{eqb, is_some, ap, ◌∙◌, rules, tests}
use Rattle.std.proofs.lemmas.Iterator.{YieldsList-from_slice}
use Rattle.std.proofs.lemmas.Iterator.Search.{position_from_yields_List}
use Rattle.accounts.specs.declared.record.Record.{Record}
use Rattle.accounts.specs.Books.{accounts}
use Rattle.accounts.proofs.Finding.{find_position, found_present}
use Rattle.books.specs.Tables.{records_of}
use Rattle.books.proofs.table.TableBookAccountBook.search.Goals as goal

pub returns : goal.returns
returns c =
    let rs = records_of c.args.self.now in
    let a = c.args.account in
    let p = position_from_yields_List (λ (r : Record). eqb r.account a) _ _ c.position.result c.position.ensures.ran (YieldsList-from_slice rs cc) (λ x b q k. search (rules, tests)) in
    let e = p ∙ find_position (λ r. r.account) a rs in
    record { found = e; test = ap is_some e ∙ found_present a 0 (accounts rs) }
