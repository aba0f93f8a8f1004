-- A call's outcome, by the list of records that its last step leaves.
use Rattle.std.proofs.Common.{◌≡◌, List, Result, ap, ◌∙◌}
use Rattle.accounts.specs.declared.record.Record.{Record}
use Rattle.accounts.specs.Books.{Contents, Left}
use Rattle.ledger.specs.declared.answer.Done.{Done}
use Rattle.ledger.specs.declared.refusal.Refusal.{Refusal}
use Rattle.ledger.specs.declared.ledger.Ledger.{Ledger}
use Rattle.ledger.specs.Views.{outcome}

-- the same book with another list
abbrev pub listing : List Record → Contents → Contents
listing xs b = record b { records = xs }

pub outcome_left : {B : Type 0} {sound : B → Type 0} {contents : B → Contents} {rest : B → B → Type 0} {a b : B} {xs : List Record} (l : Ledger) (answer : Result Done Refusal) → Left sound contents rest a b xs → outcome l (contents b) answer ≡ outcome l (listing xs (contents a)) answer
outcome_left {contents = contents} {a = a} {b = b} l answer h =
    ap (λ room. outcome l (record (contents b) { room = room }) answer) h.kept.same_room
    ∙ ap (λ xs. outcome l (listing xs (contents a)) answer) h.list
