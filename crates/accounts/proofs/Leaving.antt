-- What calls one behind the other keep and leave.
use Rattle.std.proofs.Common.{◌≡◌, List, refl, ◌∙◌}
use Rattle.accounts.specs.declared.record.Record.{Record}
use Rattle.accounts.specs.Books.{Contents, Kept, Left}

module _ {B : Type 0} {sound : B → Type 0} {contents : B → Contents} {rest : B → B → Type 0} where
  -- what is left with a list is left with an equal one
  pub left_as : {a b : B} {xs ys : List Record} → Left sound contents rest a b xs → xs ≡ ys → Left sound contents rest a b ys
  left_as h e = record { kept = h.kept; list = h.list ∙ e }

  -- a book that nothing was done to
  pub kept_still : {b : B} → sound b → rest b b → Kept sound contents rest b b
  kept_still s r = record { stays = s; same_room = refl; same_side = refl; same_loans = refl; beyond = r }

  module _ (follows : (a b c : B) → rest a b → rest b c → rest a c) where
    -- what two calls keep, one after the other
    pub kept_on : {a b c : B} → Kept sound contents rest a b → Kept sound contents rest b c → Kept sound contents rest a c
    kept_on {a} {b} {c} h k =
        record {
          stays = k.stays;
          same_room = k.same_room ∙ h.same_room;
          same_side = k.same_side ∙ h.same_side;
          same_loans = k.same_loans ∙ h.same_loans;
          beyond = follows a b c h.beyond k.beyond;
        }

    -- and the list that the later one leaves
    pub left_on : {a b c : B} {xs ys : List Record} → Left sound contents rest a b xs → Left sound contents rest b c ys → Left sound contents rest a c ys
    left_on h k = record { kept = kept_on h.kept k.kept; list = k.list }
