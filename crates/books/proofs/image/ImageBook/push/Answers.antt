use Rattle.std.proofs.Common.{arith, rules}
use Rattle.books.proofs.Changing.{record_added, room_takes}
use Rattle.books.specs.Holding.{records_of}
use Rattle.books.proofs.image.ImageBook.push.Goals as goal

pub invariant_of-self : goal.invariant_of-self
invariant_of-self c =
    let b = c.args.self.now in
    record { reads = (record_added b.image.now b.count b.room b.reads c.args.new c.append.new.image c.requires c.append.ensures).reads }

pub returns-clause-after : goal.returns-clause-after
returns-clause-after c =
    let b = c.args.self.now in
    let after = record_added b.image.now b.count b.room b.reads c.args.new c.append.new.image c.requires c.append.ensures in
    record {
      kept = record {
        stays = after.reads;
        same_room = search rules;
        same_side = search rules;
        same_loans = search rules;
        beyond = record {
          grows = omega arith;
          same_room = search rules;
          past = after.past;
          roomless = λ e. absurd (room_takes (records_of b) b.room c.args.new c.requires e);
        };
      };
      list = after.list;
    }
