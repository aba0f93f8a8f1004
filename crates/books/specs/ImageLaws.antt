-- Lemmas that the image's `impl` names, and that need not be believed.
use Rattle.std.proofs.Common.{◌≤◌, refl, ◌∙◌, arith}
use Rattle.books.specs.declared.image.ImageBook.{ImageBook}
use Rattle.books.specs.Images.{start_of}
use Rattle.books.specs.Holding.{SameRest}
use Rattle.books.specs.TableLaws.{past_later}

pub stays : (b : ImageBook) → SameRest b b
stays b = record { grows = omega arith; same_room = refl; past = refl; roomless = λ _. refl }

pub follows : (a b c : ImageBook) → SameRest a b → SameRest b c → SameRest a c
follows a b c h k =
    let later : start_of b.count ≤ start_of c.count = omega (arith, k.grows) in
    record {
      grows = omega (arith, h.grows, k.grows);
      same_room = k.same_room ∙ h.same_room;
      past = k.past ∙ past_later (start_of b.count) (start_of c.count) b.image.now a.image.now later h.past;
      roomless = λ e. k.roomless (h.same_room ∙ e) ∙ h.roomless e;
    }
