-- A number of so many bytes, at most eight, is below 256 to that many.
use Rattle.std.proofs.Common.{◌≡◌, ℕ, ◌^◌, ◌<◌, min, List, [], ◌∷◌, length, get_or, arith}
use Rattle.std.specs.Int.{w64, from_le_bytes}
use Rattle.books.proofs.numbers.number.Goals as goal

bounded : (bs : List ℕ) → ((i : ℕ) → get_or bs i 0 < 256) → from_le_bytes w64 bs < 256 ^ min 8 (length bs)
bounded [] h = omega arith
bounded (a ∷ []) h = omega (arith, h 0)
bounded (a ∷ b ∷ []) h = omega (arith, h 0, h 1)
bounded (a ∷ b ∷ c ∷ []) h = omega (arith, h 0, h 1, h 2)
bounded (a ∷ b ∷ c ∷ d ∷ []) h = omega (arith, h 0, h 1, h 2, h 3)
bounded (a ∷ b ∷ c ∷ d ∷ e ∷ []) h = omega (arith, h 0, h 1, h 2, h 3, h 4)
bounded (a ∷ b ∷ c ∷ d ∷ e ∷ f ∷ []) h = omega (arith, h 0, h 1, h 2, h 3, h 4, h 5)
bounded (a ∷ b ∷ c ∷ d ∷ e ∷ f ∷ g ∷ []) h = omega (arith, h 0, h 1, h 2, h 3, h 4, h 5, h 6)
bounded (a ∷ b ∷ c ∷ d ∷ e ∷ f ∷ g ∷ k ∷ rest) h = let z : min 8 (length (a ∷ b ∷ c ∷ d ∷ e ∷ f ∷ g ∷ k ∷ rest)) ≡ 8 = omega arith in rw z (omega (arith, h 0, h 1, h 2, h 3, h 4, h 5, h 6, h 7))

pub returns-clause-bound : goal.returns-clause-bound
returns-clause-bound c =
    rw (c.from_le_bytes.ensures, c.byte.ensures, c.byte-2.ensures, c.byte-3.ensures, c.byte-4.ensures, c.byte-5.ensures, c.byte-6.ensures, c.byte-7.ensures, c.byte-8.ensures)
    (bounded c.args.bytes.now (λ i. (c.type_inv.bytes i).fits))
