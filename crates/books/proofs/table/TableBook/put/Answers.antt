use Rattle.std.proofs.Common.{arith, rules}
use Rattle.std.proofs.lemmas.List.{length-set}
use Rattle.books.proofs.TablePlaces.{set_within, past_within, proper_replaced}
use Rattle.books.proofs.table.TableBook.put.Goals as goal

pub invariant_of-self-clause-proper : goal.invariant_of-self-clause-proper
invariant_of-self-clause-proper c = let b = c.args.self.now in proper_replaced b.table.now b.count c.args.place c.args.new b.proper c.requires

pub returns-clause-after : goal.returns-clause-after
returns-clause-after c =
    let b = c.args.self.now in
    record {
      kept = record {
        stays = search rules;
        same_room = simp length-set;
        same_side = search rules;
        same_loans = search rules;
        beyond = record {
          grows = omega arith;
          same_length = simp length-set;
          past = past_within b.table.now b.count c.args.place c.args.new c.requires;
        };
      };
      list = set_within b.table.now b.count c.args.place c.args.new c.requires;
    }
