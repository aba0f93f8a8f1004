-- Packing lines one by one.
use Rattle.std.proofs.Common.{◌≡◌, ℕ, ◌+◌, ◌<◌, ◌≤◌, List, [], ◌∷◌, ◌++◌, map, length, get_or, drop, arith}
use Rattle.std.specs.Int.{to_le_bytes, w16, w32}
use Rattle.std.specs.List.{flat_map}
use Rattle.std.proofs.lemmas.List.{append_assoc, length-append, drop_more}
use Rattle.accounts.specs.declared.record.Size.TheVariants.{Small}
use Rattle.accounts.specs.declared.record.Kind.TheVariants.{Member}
use Rattle.requests.specs.declared.filed.FiledLine.{FiledLine}
use Rattle.requests.specs.Packing.{item, behind, text, pairs}
use Rattle.requests.proofs.Texts.{length_text, three}

-- a remark is no longer than what stands behind the fields
pub length_behind : (r : List ℕ) → length r ≤ length (behind r)
length_behind [] = omega arith
length_behind (b ∷ r) = omega arith

-- a remark takes one byte more than it has, at most
pub length_behind_most : (r : List ℕ) → length (behind r) ≤ length r + 1
length_behind_most [] = omega arith
length_behind_most (b ∷ r) = omega arith

-- the filed line at i and those behind it
module _ (es : List FiledLine) (i : ℕ) (d : FiledLine) (l : i < length es) where
  pub texts_more : (bs : List ℕ) → (bs ++ text (item (get_or es i d))) ++ flat_map text (map item (drop (i + 1) es)) ≡ bs ++ flat_map text (map item (drop i es))
  texts_more bs = rw (drop_more es i d l, append_assoc)

  pub pairs_more : (bs : List ℕ) (at : ℕ) → ((bs ++ to_le_bytes w32 at) ++ to_le_bytes w16 (length (text (item (get_or es i d))))) ++ pairs (at + length (text (item (get_or es i d)))) (map item (drop (i + 1) es)) ≡ bs ++ pairs at (map item (drop i es))
  unfolding pairs
  pairs_more bs at = rw (drop_more es i d l) (three bs (to_le_bytes w32 at) (to_le_bytes w16 (length (text (item (get_or es i d))))) _)

  pub left_more : length (flat_map text (map item (drop i es))) ≡ length (text (item (get_or es i d))) + length (flat_map text (map item (drop (i + 1) es)))
  left_more = rw (drop_more es i d l, length-append)

  pub remark_short : length (get_or es i d).remark.now ≤ length (text (item (get_or es i d)))
  remark_short = omega (arith, length_text (item (get_or es i d)), length_behind (get_or es i d).remark.now)

-- what is read past the last filed line
abbrev pub blank : FiledLine
blank = record { line = record { account = 0; percentage = 0; savings = 0; class = 0; size = Small; kind = Member }; remark = record { ref_ptr = (0, 0); now = [] } }
