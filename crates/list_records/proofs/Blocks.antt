-- Facts of all records of a list, and that each of a write split into blocks is one block.
-- Assumes nothing.
use mathlib.Core.Path.{sym, subst}
use mathlib.Core.List.{List, [], ◌∷◌, ◌++◌}
use mathlib.Core.Logic.{inl, inr}
use Prim.Native.Nat.{ℕ, zero, suc, ◌+◌, ◌*◌, ◌≤◌}
use native.Mathlib.Omega.{arith}
use lib.ListN.{length, drop, length-drop}
use lib.Seq.{length-take-le}
use Rattle.list_records.specs.Records.{Record, OneBlock, All, Member, Among, block_records}

-- ---- all of a list

pub all_append : (q : Record → Type 0) (xs ys : List Record) → All q xs → All q ys → All q (xs ++ ys)
all_append q [] ys a b = b
all_append q (x ∷ xs) ys a b = (a.0, all_append q xs ys a.1 b)

pub all_map : (p q : Record → Type 0) (xs : List Record) → ((r : Record) → p r → q r) → All p xs → All q xs
all_map p q [] f a = tt
all_map p q (x ∷ xs) f a = (f x a.0, all_map p q xs f a.1)

-- of a list, all before a cut
pub all-prefix : (q : Record → Type 0) (xs ys : List Record) → All q (xs ++ ys) → All q xs
all-prefix q [] ys a = tt
all-prefix q (x ∷ xs) ys a = (a.0, all-prefix q xs ys a.1)

-- of a list, one, and some in any order
one-all : (q : Record → Type 0) (ws : List Record) (r : Record) → All q ws → Member ws r → q r
one-all q [] r a m = absurd m
one-all q (w ∷ ws) r a (inl e) = subst q (sym e) a.0
one-all q (w ∷ ws) r a (inr m) = one-all q ws r a.1 m

pub among-all : (q : Record → Type 0) (ws rs : List Record) → All q ws → Among ws rs → All q rs
among-all q ws rs a m = all_map (Member ws) q rs (λ r. one-all q ws r a) m

-- ---- a write split into n blocks, with bytes enough for them

pub blocks-whole : (bs offset n : ℕ) (bytes : List ℕ) → n * bs ≤ length bytes → All (OneBlock bs) (block_records bs offset n bytes)
unfolding block_records
blocks-whole bs offset zero bytes h = tt
blocks-whole bs offset (suc n) bytes h = (
  length-take-le bs bytes (omega arith),
  blocks-whole bs (offset + bs) n (drop bs bytes) (omega (arith, length-drop bs bytes)),
)
