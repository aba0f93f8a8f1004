-- Every run from the opening on, on an empty book, by any method whose worth is lawful, keeps the law.
use Rattle.std.proofs.Common.{◌≡◌, ℕ, ◌≤◌, true, List, [], ◌∷◌, map, length, Some, None, Ok, Option, Result, refl, ap, ◌∙◌, arith}
use mathlib.Core.List.{reverse_aux}
use Rattle.std.proofs.lemmas.Bool.Decides.{nat_tests}
use Rattle.base.specs.Limits.{most_records}
use Rattle.accounts.specs.declared.project.Project.{Project}
use Rattle.accounts.specs.declared.record.Record.{Record}
use Rattle.crediting.specs.Credits.{Lawful}
use Rattle.crediting.specs.Ranges.{is_class}
use Rattle.ledger.specs.declared.call.Call.{Call}
use Rattle.ledger.specs.declared.answer.Done.{Done}
use Rattle.ledger.specs.declared.refusal.Refusal.{Refusal}
use Rattle.ledger.specs.States.{State}
use Rattle.ledger.specs.Steps.{judge_open, open_answer, opened, step}
use Rattle.ledger_run.specs.Histories.{Event, History, answer_of, call_of}
use Rattle.ledger_run.specs.Laws.{EveryRunIsLawful, Law, LawfulRun, Ran, after, answers}
use Rattle.ledger_run.proofs.Booked.{booked_on}
use Rattle.ledger_run.proofs.Bounding.{bounded_on}
use Rattle.ledger_run.proofs.Conserving.{cents_on, units_on}
use Rattle.ledger_run.proofs.Moves.{Moves}
use Rattle.ledger_run.proofs.Reading.{reading_on}
use Rattle.ledger_run.proofs.Ruling.{rule_on}
use Rattle.ledger_run.proofs.Standing.{Stands, stands_opened}
use Rattle.ledger_run.proofs.Stepping.{steps}
use Rattle.ledger_run.proofs.Tying.{tied_on}

-- an opening that is accepted is refused for nothing, so it is on an empty book
pub accepted : (refusal : Option Refusal) (u : Unit {0}) → Ok u ≡ open_answer refusal → refusal ≡ None
accepted None u e = refl
accepted (Some why) u e = cc

empty : (smallest : ℕ) (rs : List Record) → judge_open smallest (length rs) ≡ None → rs ≡ []
empty smallest [] e = refl
empty smallest (r ∷ rs) e = grind (arith, nat_tests)

module _ {M : Type 0} (worth : M → ℕ → ℕ → ℕ) (lawful : (m : M) (k : ℕ) → is_class k ≡ true → Lawful (worth m k)) where
  -- each concern of what stands, after an event
  stands_on : (e : Event M) (h : History M) (s t : State) → Stands worth h s → Moves worth e s t → Stands worth (e ∷ h) t
  stands_on e h s t i m =
      record {
        booked = booked_on worth e s t i.booked m;
        readings = reading_on worth e h s t i.readings m;
        bounded = bounded_on worth lawful e h s t i m;
        ties = tied_on worth lawful e h s t i m;
        law = record {
          units = units_on worth lawful e h s t i m;
          cents = cents_on worth lawful e h s t i m;
          each = (rule_on worth lawful e h s t i m, i.law.each);
        };
      }

  -- calls and answers after those of an earlier history
  record RunOn (earlier : History M) (calls : List (Call M)) (answered : List (Result Done Refusal)) (s : State) : Type 0 where
    history : History M
    its_calls : map call_of history ≡ reverse_aux calls (map call_of earlier)
    its_answers : map answer_of history ≡ reverse_aux answered (map answer_of earlier)
    law : Law worth history s

  runs_on : (h : History M) (s : State) → Stands worth h s → (calls : List (Call M)) → RunOn h calls (answers worth s calls) (after worth s calls)
  unfolding answers
  runs_on h s i [] = record { history = h; its_calls = refl; its_answers = refl; law = i.law }
  runs_on h s i (c ∷ cs) =
      let k = steps worth h s i c in
      let rest = runs_on (k.event ∷ h) (step worth s c).state (stands_on k.event h s _ i k.moves) cs in
      record {
        history = rest.history;
        its_calls = cc (rest.its_calls, k.called);
        its_answers = cc (rest.its_answers, k.answered);
        law = rest.law;
      }

  pub runs_lawfully : EveryRunIsLawful worth
  runs_lawfully project room few calls =
      let run = runs_on [] (opened project room []) (stands_opened worth project room few) calls in
      record {
        history = run.history;
        its_calls = run.its_calls;
        its_answers = run.its_answers;
        law = run.law;
      }

  pub ran : (project : Project) (room : ℕ) (rs : List Record) (calls : List (Call M)) (answered : List (Result Done Refusal)) (start end : State) → room ≤ most_records → judge_open project.smallest (length rs) ≡ None → start ≡ opened project room rs → end ≡ after worth start calls → answered ≡ answers worth start calls → Ran worth (opened project room rs) calls answered end
  ran project room rs calls answered start end few judged starts ends tells =
      let ended = ends ∙ ap (λ s. after worth s calls) starts in
      let told = tells ∙ ap (λ s. answers worth s calls) starts in
      let none = empty project.smallest rs judged in
      record { left = ended; gives = told; lawful = rw (ended, told, none) (runs_lawfully project room few calls) }
