-- Lines of a request that are accepted, or why they are not.
use Rattle.std.proofs.Common.{◌≡◌, ℕ, ◌+◌, ◌-◌, ◌≤◌, Bool, true, false, not, ◌&&◌, ◌||◌, ltb, ◌≢◌, List, [], ◌∷◌, ◌++◌, map, length, Some, None, Ok, Err, Option, Result, sym, refl, ap, subst, arith, sum_by, count_by}
use Rattle.std.proofs.lemmas.List.{length-map}
use Rattle.std.specs.List.{position_from}
use Rattle.std.proofs.lemmas.Bool.{cond_both, ltb-false}
use Rattle.std.proofs.lemmas.Bool.Decides.{nat_tests}
use Rattle.accounts.proofs.Finding.{present_push}
use Rattle.accounts.specs.declared.record.Line.{Line}
use Rattle.accounts.specs.declared.record.Record.{Record}
use Rattle.accounts.specs.Books.{Contents, present, distinct, every, Left}
use Rattle.accounts.specs.Ranges.{line_in_range}
use Rattle.ledger.specs.declared.refusal.Refusal.{Refusal}
use Rattle.ledger.specs.declared.refusal.Refusal.TheVariants as why
use Rattle.ledger.specs.Lines.{FitsLines, enrolled, enter_all, judge_lines, large_percentage, line_accounts, new_accounts, repeated_from, unless_at}
use Rattle.ledger.specs.Records.{unallocated}
use Rattle.ledger.specs.Refusals.{number}
use Rattle.ledger.proofs.Entering.{none_out, unallocated_accounts}
use Rattle.accounts.proofs.Leaving.{left_as, left_on}

-- accounts of which none is repeated stand on no later line
unrepeated : (a i : ℕ) (earlier later : List ℕ) → repeated_from i earlier later ≡ None → present a earlier ≡ true → present a later ≡ false
unrepeated a i earlier [] e p = refl
unrepeated a i earlier (x ∷ later) e p =
    let ih = unrepeated a (i + 1) (earlier ++ x ∷ []) later in
    let q = present_push a x earlier in
    grind (arith, nat_tests)

pub repeated_distinct : (i : ℕ) (earlier later : List ℕ) → repeated_from i earlier later ≡ None → distinct later ≡ true
repeated_distinct i earlier [] e = refl
repeated_distinct i earlier (x ∷ later) e =
    let ih = repeated_distinct (i + 1) (earlier ++ x ∷ []) later in
    let q = present_push x x earlier in
    let u = unrepeated x (i + 1) (earlier ++ x ∷ []) later in
    grind (arith, nat_tests)

-- lines that are accepted
pub record Accepted (room : ℕ) (rs : List Record) (ls : List Line) : Type 0 where
  pub ranged : position_from (λ l. not (line_in_range l)) 0 ls ≡ None
  pub apart : distinct (line_accounts ls) ≡ true
  pub whole : sum_by (λ l. l.percentage) ls ≤ 100000
  pub fits : new_accounts rs ls ≤ room - length rs

-- a refusal with a place, or none
unless_both : (P : Result ℕ Refusal → Type 0) (refusal : ℕ → Refusal) (o : Option ℕ) (rest : Result ℕ Refusal) → ((place : ℕ) → P (Err (refusal place))) → (o ≡ None → P rest) → P (unless_at refusal o rest)
unless_both P refusal None rest bad good = good refl
unless_both P refusal (Some place) rest bad good = bad place

-- lines are refused, and not as another ledger's, or accepted
pub judged : (smallest : ℕ) (farm : Bool) (room : ℕ) (rs : List Record) (ls : List Line) (P : Result ℕ Refusal → Type 0) → ((why : Refusal) → number why ≢ 27 → P (Err why)) → (Accepted room rs ls → P (Ok (new_accounts rs ls))) → P (judge_lines smallest farm room rs ls)
judged smallest farm room rs ls P bad good =
    cond_both (ltb (length ls) smallest || ltb 1024 (length ls)) _ _ P (λ _. bad why.WrongLineCount (omega arith))
    (λ _. unless_both P why.LineOutOfRange _ _ (λ i. bad (why.LineOutOfRange i) (omega arith))
    (λ ranged. unless_both P why.AccountRepeated _ _ (λ i. bad (why.AccountRepeated i) (omega arith))
    (λ apart. unless_both P why.LineOfClosedAccount _ _ (λ i. bad (why.LineOfClosedAccount i) (omega arith))
    (λ _. cond_both (ltb 100000 (sum_by (λ l. l.percentage) ls)) _ _ P (λ _. bad why.PercentagesPass (omega arith))
    (λ whole. cond_both (not farm && ltb 40000 (sum_by large_percentage ls)) _ _ P (λ _. bad why.LargePercentagesPass (omega arith))
    (λ _. cond_both (ltb (room - length rs) (new_accounts rs ls)) _ _ P (λ _. bad why.BookTooSmall (omega arith))
    (λ fits. good (record {
      ranged = ranged;
      apart = repeated_distinct 0 [] (line_accounts ls) apart;
      whole = ltb-false 100000 _ whole;
      fits = ltb-false _ _ fits;
    }))))))))

accepted : (smallest : ℕ) (farm : Bool) (room : ℕ) (rs : List Record) (ls : List Line) (new : ℕ) → Ok new ≡ judge_lines smallest farm room rs ls → Accepted room rs ls
accepted smallest farm room rs ls new =
    judged smallest farm room rs ls (λ j. Ok new ≡ j → Accepted room rs ls)
    (λ why other e. cc) (λ ok e. ok)

-- what is known of an accepted request before its lines are entered
pub record Ready (room : ℕ) (rs : List Record) (ls : List Line) : Type 0 where
  pub ranged : every line_in_range ls ≡ true
  pub fits : length (map unallocated rs) + new_accounts (map unallocated rs) ls ≤ room

pub ready : (smallest : ℕ) (farm : Bool) (room : ℕ) (rs : List Record) (ls : List Line) (new : ℕ) → length rs ≤ room → Ok new ≡ judge_lines smallest farm room rs ls → Ready room rs ls
ready smallest farm room rs ls new few e =
    let ok = accepted smallest farm room rs ls new e in
    let same = ap (λ xs. count_by (λ (x : Line). not (present x.account xs)) ls) (unallocated_accounts rs) in
    record { ranged = none_out 0 ls ok.ranged; fits = omega (arith, same, ok.fits, length-map rs unallocated) }

-- percentages are taken away, and then the lines entered
pub enrols : {B : Type 0} {sound : B → Type 0} {contents : B → Contents} {rest : B → B → Type 0} (follows : (a b c : B) → rest a b → rest b c → rest a c) (smallest : ℕ) (farm : Bool) (ls : List Line) (new : ℕ) (a b c : B) → length (contents a).records ≤ (contents a).room → Ok new ≡ judge_lines smallest farm (contents a).room (contents a).records ls → Left sound contents rest a b (map unallocated (contents a).records) → (sound b → every line_in_range ls ≡ true → FitsLines (contents b) ls → Left sound contents rest b c (enter_all (contents b).records ls)) → Left sound contents rest a c (enrolled (contents a).records ls)
enrols {contents = contents} follows smallest farm ls new a b c few e cleared enters =
    let fit = ready smallest farm (contents a).room (contents a).records ls new few e in
    let fits = subst (λ xs. length xs + new_accounts xs ls ≤ (contents b).room) (sym cleared.list) (omega (arith, cleared.kept.same_room, fit.fits)) in
    left_on follows cleared (left_as (enters cleared.kept.stays fit.ranged fits) (ap (λ xs. enter_all xs ls) cleared.list))
