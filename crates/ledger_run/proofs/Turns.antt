-- One call of a list performed, and what the calls left come to.
use Rattle.std.proofs.Common.{◌≡◌, ℕ, ◌+◌, ◌<◌, ◌≤◌, List, [], ◌∷◌, ◌++◌, length, get_or, drop, Result, ap, ◌∙◌, append_assoc, append-nil}
use Rattle.std.proofs.lemmas.List.{at_drop_more, at_drop_all}
use Rattle.ledger.specs.declared.call.Call.{Call}
use Rattle.ledger.specs.declared.answer.Done.{Done}
use Rattle.ledger.specs.declared.refusal.Refusal.{Refusal}
use Rattle.ledger.specs.States.{State, Outcome}
use Rattle.ledger.specs.Steps.{step}
use Rattle.ledger_run.specs.Laws.{after, answers}

module _ {M : Type 0} (worth : M → ℕ → ℕ → ℕ) (calls : List (Call M)) (i : ℕ) where
  pub after_more : (here there : State) (answer : Result Done Refusal) (c : Call M) → i < length calls → c ≡ get_or calls i c → record { state = there; answer = answer } ≡ step worth here c → after worth there (drop (i + 1) calls) ≡ after worth here (drop i calls)
  after_more here there answer c h e s =
      let first = at_drop_more (after worth here) calls i c h in
      let left = ap (λ (o : Outcome). o.state) s in
      cc

  pub answers_more : (here there : State) (answer : Result Done Refusal) (c : Call M) (answered : List (Result Done Refusal)) → i < length calls → c ≡ get_or calls i c → record { state = there; answer = answer } ≡ step worth here c → (answered ++ answer ∷ []) ++ answers worth there (drop (i + 1) calls) ≡ answered ++ answers worth here (drop i calls)
  unfolding answers
  answers_more here there answer c answered h e s =
      let first = at_drop_more (answers worth here) calls i c h in
      let left = ap (λ (o : Outcome). o.state) s in
      let told = ap (λ (o : Outcome). o.answer) s in
      rw append_assoc (cc)

  pub after_all : (s : State) → length calls ≤ i → after worth s (drop i calls) ≡ s
  after_all s h = at_drop_all (after worth s) calls i h

  pub answers_all : (s : State) (answered : List (Result Done Refusal)) → length calls ≤ i → answered ++ answers worth s (drop i calls) ≡ answered
  unfolding answers
  answers_all s answered h = ap (λ xs. answered ++ xs) (at_drop_all (answers worth s) calls i h) ∙ append-nil answered
