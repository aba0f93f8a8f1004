use Rattle.std.proofs.Common.{◌∙◌, get_or, replicate, rules, arith}
use Rattle.std.proofs.lemmas.Grind.{common_steps}
use Rattle.accounts.specs.declared.record.Record.{Record}
use Rattle.std.proofs.lemmas.Slice.Eq.{bytes_eq-Decides}
use Rattle.books.specs.Bytes.{part}
use Rattle.books.proofs.Inverse.{Holds, holds_told}
use Rattle.books.proofs.codec.decode.Goals as goal

pub returns : goal.returns
returns c =
    let bs = c.args.bytes.now in
    let read : Record = record {
      account = c.from_le_bytes.result;
      percentage = c.from_le_bytes-2.result;
      savings = c.from_le_bytes-3.result;
      class = get_or c.in_ok-bytes.bytes.now 14 0;
      size = c.in_ok-size.size;
      kind = c.in_ok-kind.kind;
      state = c.in_ok-state.state;
      held = c.from_le_bytes-4.result;
      last = c.from_le_bytes-5.result;
    } in
    let h : Holds bs read = record {
      bytes = search rules;
      filler = (bytes_eq-Decides (part 30 6 bs) (replicate 6 0)).0 (grind (arith, common_steps));
      account = search rules;
      percentage = search rules;
      savings = search rules;
      class = search rules;
      size = grind (arith, common_steps);
      kind = grind (arith, common_steps);
      state = grind (arith, common_steps);
      held = search rules;
      last = search rules;
    } in
    c.then_some.ensures ∙ holds_told bs read _ h (search rules)
