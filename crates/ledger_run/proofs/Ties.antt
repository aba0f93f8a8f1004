-- What ties an account's record to what its history says of it.
use Rattle.std.proofs.Common.{◌≡◌, ℕ, ◌+◌, ◌*◌, ◌≤◌, true, false, cond, not, eqb, List, [], ◌∷◌, Some, None, Option, option_map, refl, ap, subst, mul-zero, arith}
use Rattle.std.proofs.lemmas.Bool.{cond_both, eqb-true, not-false}
use Rattle.std.proofs.lemmas.Bool.Decides.{nat_tests}
use Rattle.std.specs.List.{position_from}
use Rattle.accounts.specs.declared.record.Line.{Line}
use Rattle.accounts.specs.declared.record.Record.{Record}
use Rattle.accounts.specs.Ranges.{line_in_range}
use Rattle.crediting.specs.Ranges.{is_class}
use Rattle.ledger.specs.Records.{allocated, joining, unallocated}
use Rattle.sharing.specs.Shares.{gaining}
use Rattle.accounts.specs.Records.{is_closed, put, record_of}
use Rattle.sharing.specs.Shares.{share}
use Rattle.ledger_run.specs.Histories.{class_on, percentage_on}
use Rattle.ledger_run.proofs.Entering.{entry, placed}
use Rattle.accounts.proofs.Found.{nowhere, put_found}

-- an account with no record has been given nothing
pub record Unknown (percentage given used : ℕ) : Type 0 where
  pub none : percentage ≡ 0
  pub nothing : given ≡ 0
  pub unused : used ≡ 0

-- an open account's record: its percentage and class are those of the history, and it holds what it was given less what
-- it used
pub record TiedOpen (percentage class given used : ℕ) (r : Record) : Type 0 where
  pub allocation : r.percentage ≡ percentage
  pub classed : r.class ≡ class
  pub is : is_class r.class ≡ true
  pub low : r.savings ≤ 9800
  pub holds : r.held + used ≡ given

-- a closed account's is never used again
abbrev pub Tied : (percentage class given used : ℕ) → Option Record → Type 0
Tied p k g u None = Unknown p g u
Tied p k g u (Some r) = is_closed r.state ≡ false → TiedOpen p k g u r

pub tied_same : (p k g u p' g' u' : ℕ) (o : Option Record) → p' ≡ p → g' ≡ g → u' ≡ u → Tied p k g u o → Tied p' k g' u' o
tied_same p k g u p' g' u' o c d e t = rw (c, d, e) t

-- the tie of a record that is found and not closed
pub found_tie : (p k g u : ℕ) (o : Option Record) (r : Record) → o ≡ Some r → is_closed r.state ≡ false → Tied p k g u o → TiedOpen p k g u r
found_tie p k g u o r e unclosed t = subst (λ x. Tied p k g u x) e t unclosed

-- with other units held and another last period
abbrev kept : ℕ → ℕ → Record → Record
kept held last r = record r { held = held; last = last }

-- an open account's record after a reading, a bill or a disbursement
pub held_tie : (p k g u g' u' held last : ℕ) (r : Record) → (TiedOpen p k g u r → held + u' ≡ g') → Tied p k g u (Some r) → Tied p k g' u' (Some (kept held last r))
held_tie p k g u g' u' held last r e t unclosed =
    let o = t unclosed in
    record {
      allocation = o.allocation;
      classed = o.classed;
      is = o.is;
      low = o.low;
      holds = e o;
    }

-- the ties of all accounts, one of which has another record
pub put_ties : (P Q : ℕ → Option Record → Type 0) (a : ℕ) (n : Record) (rs : List Record) (r : Record) → n.account ≡ a → record_of a rs ≡ Some r → Q a (Some n) → ((b : ℕ) (o : Option Record) → eqb a b ≡ false → P b o → Q b o) → ((b : ℕ) → P b (record_of b rs)) → (b : ℕ) → Q b (record_of b (put n rs))
put_ties P Q a n rs r same e q other ties b =
    rw (put_found b a n rs r same e)
    (cond_both (eqb a b) (Some n) (record_of b rs) (Q b) (λ t. subst (λ y. Q y (Some n)) (eqb-true a b t) q) (λ t. other b (record_of b rs) t (ties b)))

-- a reading
pub gain_tie : (units p k g u g' : ℕ) (o : Option Record) → g' ≡ share units p + g → Tied p k g u o → Tied p k g' u (option_map (gaining units) o)
gain_tie units p k g u g' None e t =
    let none : units * p ≡ 0 = rw t.none (mul-zero units) in
    record { none = t.none; nothing = omega arith; unused = t.unused }
gain_tie units p k g u g' (Some r) e t =
    held_tie p k g u g' u (r.held + share units r.percentage) r.last r
    (λ o. let same : share units r.percentage ≡ share units p = ap (share units) o.allocation in omega arith) t

-- a request without a line of the account
unallocated_tie : (p k g u : ℕ) (o : Option Record) → Tied p k g u o → Tied 0 k g u (option_map unallocated o)
unallocated_tie p k g u None t = record { none = refl; nothing = t.nothing; unused = t.unused }
unallocated_tie p k g u (Some r) t = λ unclosed.
    let o = t unclosed in
    record {
      allocation = refl;
      classed = o.classed;
      is = o.is;
      low = o.low;
      holds = o.holds;
    }

-- a request with a line of it
line_range : (l : Line) → line_in_range l ≡ true → (l.savings ≤ 9800) × (is_class l.class ≡ true)
line_range l ok = (grind (arith, nat_tests), grind (arith, nat_tests))

lined : (l : Line) (g u : ℕ) (r : Record) → line_in_range l ≡ true → r.held + u ≡ g → TiedOpen l.percentage l.class g u (allocated l r)
lined l g u r ok e =
    record {
      allocation = refl;
      classed = refl;
      is = (line_range l ok).1;
      low = (line_range l ok).0;
      holds = e;
    }

line_tie : (p k g u : ℕ) (l : Line) (o : Option Record) → line_in_range l ≡ true → Tied p k g u o → Tied l.percentage l.class g u (Some (placed l (option_map unallocated o)))
line_tie p k g u l None ok t = λ _. lined l g u (joining l) ok (omega arith)
line_tie p k g u l (Some r) ok t = λ unclosed. lined l g u (unallocated r) ok (t unclosed).holds

-- all lines of a request, each in range
pub entry_tie : (p k g u a i : ℕ) (o : Option Record) (ls : List Line) → position_from (λ l. not (line_in_range l)) i ls ≡ None → Tied p k g u o → Tied (percentage_on a ls) (class_on a k ls) g u (entry a ls (option_map unallocated o))
entry_tie p k g u a i o [] ok t = unallocated_tie p k g u o t
entry_tie p k g u a i o (l ∷ ls) ok t =
    let oks = nowhere i (λ x. not (line_in_range x)) l ls ok in
    let one = line_tie p k g u l o (not-false _ oks.0) t in
    let rest = entry_tie p k g u a (i + 1) o ls oks.1 t in
    elim (eqb l.account a) as (λ b. Tied (cond b l.percentage (percentage_on a ls)) (cond b l.class (class_on a k ls)) g u (cond b (Some (placed l (option_map unallocated o))) (entry a ls (option_map unallocated o))))
    [ true ↦ one | false ↦ rest ]
