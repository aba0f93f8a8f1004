-- A record as bytes.
use Rattle.std.specs.Prelude.{ℕ, Bool, cond, ◌&&◌, List, ◌∷◌, ◌++◌, length, replicate, Some, None, Option, ◌==◌, slice_index}
use Rattle.std.specs.Int.{w16, w32, w64, to_le_bytes, from_le_bytes}
use Rattle.std.specs.Str.{bytes_eq}
use Rattle.accounts.specs.declared.record.Size.{Size}
use Rattle.accounts.specs.declared.record.Kind.{Kind}
use Rattle.accounts.specs.declared.record.State.{State}
use Rattle.accounts.specs.declared.record.Record.{Record}
use Rattle.accounts.specs.Ranges.{in_range}
use Rattle.accounts.specs.Marks.{size_letter, size_of, kind_letter, kind_of, state_number, state_of}
use Rattle.books.specs.Bytes.{part}

-- how many bytes a record has
abbrev pub record_bytes : ℕ
record_bytes = 36

-- how many of them, the last, are 0
abbrev pub filler_bytes : ℕ
filler_bytes = 6

-- account at 0 in eight bytes, percentage at 8 in four, savings rate at 12 in two, class at 14, size at 15, kind at 16,
-- state at 17, units held at 18 in eight, last period billed at 26 in four, and six zero bytes
unfoldable pub encoded : Record → List ℕ
encoded r =
    to_le_bytes w64 r.account
    ++ (to_le_bytes w32 r.percentage
    ++ (to_le_bytes w16 r.savings
    ++ (r.class ∷ size_letter r.size ∷ kind_letter r.kind ∷ state_number r.state
    ∷ (to_le_bytes w64 r.held ++ (to_le_bytes w32 r.last ++ replicate filler_bytes 0)))))

abbrev pub ranged : Record → Option Record
ranged r = cond (in_range r) (Some r) None

-- the record at known marks, where its numbers are in range
abbrev pub marked : Option Size → Option Kind → Option State → List ℕ → Option Record
marked None k s bs = None
marked (Some z) None s bs = None
marked (Some z) (Some k) None bs = None
marked (Some z) (Some k) (Some s) bs =
    ranged record {
      account = from_le_bytes w64 (part 0 8 bs);
      percentage = from_le_bytes w32 (part 8 4 bs);
      savings = from_le_bytes w16 (part 12 2 bs);
      class = slice_index bs 14;
      size = z;
      kind = k;
      state = s;
      held = from_le_bytes w64 (part 18 8 bs);
      last = from_le_bytes w32 (part 26 4 bs);
    }

unfoldable pub fields_in : List ℕ → Option Record
fields_in bs = marked (size_of (slice_index bs 15)) (kind_of (slice_index bs 16)) (state_of (slice_index bs 17)) bs

abbrev pub has_zero_filler : List ℕ → Bool
has_zero_filler bs = bytes_eq (part 30 filler_bytes bs) (replicate filler_bytes 0)

-- as many bytes as a record has, of which the filler is 0
abbrev pub framed : List ℕ → Bool
framed bs = length bs == record_bytes && has_zero_filler bs

-- nothing where the bytes are too few or too many, a filler byte is not 0, a mark is unknown or a number is out of
-- range
abbrev pub decoded : List ℕ → Option Record
decoded bs = cond (framed bs) (fields_in bs) None
