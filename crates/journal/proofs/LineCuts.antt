-- A text is cut after its line feeds.
use Rattle.std.proofs.Common.{◌≡◌, ℕ, zero, suc, ◌+◌, ◌-◌, ◌<◌, ◌≤◌, min, Bool, List, [], ◌∷◌, ◌++◌, length, get_or, take, drop, true, false, ◌==◌, refl, ap, subst, inl, inr, arith, append_assoc, Bor, Option, Result, Ok, Err}
use Rattle.std.proofs.lemmas.List.{append-nil, length-append, get_or_append_left, take-append-le}
use Rattle.std.proofs.Math.Seq.{drop-append_seam}
use Rattle.std.proofs.Math.Nat.{eq-or-lt_of_le}
use Rattle.std.proofs.lemmas.Fn.{always_returns_same}
use Rattle.std.specs.Fn.{Called, ComputesKey, Mut}
use Rattle.std.specs.List.{AllWithin, IsFirstMatchOrLen}
use Rattle.journal.specs.Meanings.{Meaning}
use Rattle.journal.specs.declared.statement.ParseError.{ParseError}
use Rattle.journal.specs.Results.{and_then}
use Rattle.journal.specs.declared.text.JournalFault.{JournalFault}
use Rattle.journal.specs.Journals.{Text, lines_after, lines_of, some_line, without_feed, one_more, ReadsLine, ReadsText}

abbrev is_feed : ℕ → Bool
is_feed b = b == 10

-- no line feed in a text's first bytes
below : (b : ℕ) (bs : List ℕ) (n : ℕ) → AllWithin (λ x. is_feed x ≡ false) (b ∷ bs) 0 (suc n) → AllWithin (λ x. is_feed x ≡ false) bs 0 n
below b bs n none = λ k d l h. none (suc k) d (omega arith) (omega arith)

-- up to the first line feed
to_feed : (i : ℕ) (line text : List ℕ) → i < length text → AllWithin (λ b. is_feed b ≡ false) text 0 i → is_feed (get_or text i 0) ≡ true → lines_after line text ≡ (line ++ take i text) ∷ lines_after [] (drop (suc i) text)
unfolding lines_after
to_feed i line [] h none feed = grind arith
to_feed zero line (b ∷ bs) h none feed = grind (arith, append-nil)
to_feed (suc i) line (b ∷ bs) h none feed =
    let other : is_feed b ≡ false = none 0 0 (omega arith) (omega arith) in
    grind (arith, to_feed i (line ++ b ∷ []) bs (omega (arith, h)) (below b bs i none) feed, append_assoc)

-- to the end, where there is no line feed
to_end : (line text : List ℕ) → AllWithin (λ b. is_feed b ≡ false) text 0 (length text) → lines_after line text ≡ some_line (line ++ text)
unfolding lines_after
to_end line [] none = grind (arith, append-nil)
to_end line (b ∷ bs) none =
    let other : is_feed b ≡ false = none 0 0 (omega arith) (omega arith) in
    grind (arith, to_end (line ++ b ∷ []) bs (below b bs (length bs) none), append_assoc)

-- a piece that ends in the first line feed
feed_cut : (piece rest : List ℕ) (i : ℕ) → length piece ≡ suc i → IsFirstMatchOrLen is_feed (piece ++ rest) i → lines_of (piece ++ rest) ≡ without_feed piece ∷ lines_of rest
feed_cut piece rest i h first =
    let inside : i < length (piece ++ rest) = omega (arith, length-append piece rest) in
    let cuts = to_feed i [] (piece ++ rest) inside first.0 (first.1 inside 0) in
    grind (arith, cuts, first.1 inside 0, get_or_append_left piece rest 0 i (omega arith), take-append-le i piece rest (omega arith), drop-append_seam piece rest)

-- a piece that has no line feed
whole_cut : (piece : List ℕ) (i : ℕ) → 0 < length piece → length piece ≤ i → IsFirstMatchOrLen is_feed piece i → lines_of piece ≡ without_feed piece ∷ []
whole_cut (b ∷ bs) i some h first =
    let piece = b ∷ bs in
    let other : is_feed (get_or piece (length piece - 1) 0) ≡ false = first.0 (length piece - 1) 0 (omega arith) (omega arith) in
    rw other (to_end [] piece (λ k d l m. first.0 k d l (omega arith)))
whole_cut [] i some h first = absurd (omega arith)

-- the first piece of a text that is cut after its line feeds is its first line
pub cut : (piece rest : List ℕ) (i : ℕ) → length piece ≡ min (i + 1) (length (piece ++ rest)) → IsFirstMatchOrLen is_feed (piece ++ rest) i → 0 < length (piece ++ rest) → lines_of (piece ++ rest) ≡ without_feed piece ∷ lines_of rest
unfolding lines_after
cut piece [] i h first some =
    let size : length (piece ++ []) ≡ length piece = ap length (append-nil piece) in
    elim (eq-or-lt_of_le {n = length piece} {m = suc i} (omega arith)) [
      | inl e ↦ feed_cut piece [] i e first
      | inr l ↦ rw append-nil (whole_cut piece i (omega arith) (omega arith) (subst (λ text. IsFirstMatchOrLen is_feed text i) (append-nil piece) first))
    ]
cut piece (b ∷ bs) i h first some =
    feed_cut piece (b ∷ bs) i (omega (arith, length-append piece (b ∷ bs))) first

abbrev Steps : {F : Type 0} → Mut F (Bor ℕ × Unit {0}) Bool → List ℕ → F → List ℕ → List ℕ → F → Type 0
Steps g text f piece rest f' =
    (text ≡ piece ++ rest)
    × ((i : ℕ) × (length piece ≡ min (i + 1) (length text)) × ((p : ℕ → Bool) → ComputesKey g p f → ComputesKey g p f' × IsFirstMatchOrLen p text i))
    × (0 < length text)

-- and so it is where a closure knows the line feeds
pub next_line : {F : Type 0} (g : Mut F (Bor ℕ × Unit {0}) Bool) (text : List ℕ) (f : F) (piece rest : List ℕ) (f' : F) → ((a : Bor ℕ × Unit {0}) (r : Bool) (f' : F) → Called g f a r f' → (r ≡ is_feed a.0.now) × (f' ≡ f)) → Steps g text f piece rest f' → (lines_of text ≡ without_feed piece ∷ lines_of rest) × (length rest < length text)
next_line g text f piece rest f' knows steps =
    let first = (steps.1.2 is_feed (always_returns_same g _ f knows)).1 in (
      rw steps.0 (cut piece rest steps.1.0 (rw steps.0 at steps.1.1) (rw steps.0 at first) (rw steps.0 at steps.2)),
      omega (arith, ap length steps.0, length-append piece rest, steps.1.1, steps.2),
    )

pub no_line : (text : List ℕ) → length text ≡ 0 → lines_of text ≡ []
unfolding lines_after
no_line [] e = refl
no_line (b ∷ bs) e = absurd (omega (arith, e))

-- each line counts
pub counted : (t : Text) (r : Result (Option Meaning) ParseError) (u : Text) → one_more t r ≡ Ok u → u.lines ≡ t.lines + 1
counted t r u e = grind arith

-- a text is refused where a line is
pub refused : (m : Result Text JournalFault) (f : JournalFault) (t : Text) (more : Text → Result Text JournalFault) → ReadsLine m (Err f) t → ReadsText (and_then m more) (Err f)
refused m f t more h = grind arith
