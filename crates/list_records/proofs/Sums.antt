-- Sums over records by their kind: a write split into blocks, and the number and bytes of records, are such sums.
-- Assumes nothing.
use mathlib.Core.Path.{◌≡◌, refl, ◌∙◌}
use mathlib.Core.List.{List, [], ◌∷◌}
use Prim.Native.Nat.{ℕ, zero, suc, ◌+◌, ◌*◌, ◌≤◌}
use native.Mathlib.Omega.{arith}
use lib.ListN.{length, drop}
use Rattle.seqs.specs.Lists.{total}
use Rattle.list_records.specs.Records.{Record, WZ, Wb, FL, OneBlock, All, block_records, list_bytes, by_kind, block_writes, payload}
use Rattle.list_records.proofs.Blocks.{blocks-whole}
use Rattle.list_records.proofs.Sizes.{zeros-bytes, block-bytes, flush-bytes, list-nil, list-cons}

-- all records of a split write are blocks
pub blocks-total : (z b f bs offset n : ℕ) (bytes : List ℕ) → total (by_kind z b f) (block_records bs offset n bytes) ≡ n * b
unfolding total block_records
blocks-total z b f bs offset zero bytes = omega arith
blocks-total z b f bs offset (suc n) bytes = let h = blocks-total z b f bs (offset + bs) n (drop bs bytes) in omega arith

-- the number of records: one for each, whatever its kind
pub count-total : (rs : List Record) → length rs ≡ total (by_kind 1 1 1) rs
unfolding total
count-total [] = refl
count-total (WZ offset n ∷ rs) = let h = count-total rs in omega arith
count-total (Wb offset bytes ∷ rs) = let h = count-total rs in omega arith
count-total (FL ∷ rs) = let h = count-total rs in omega arith

-- where each Wb has one block of bs bytes
module _ (bs : ℕ) where
  -- the bytes that they carry
  pub payload-total : (rs : List Record) → All (OneBlock bs) rs → payload rs ≡ block_writes rs * bs
  unfolding total
  payload-total [] a = omega arith
  payload-total (WZ offset n ∷ rs) a = let h = payload-total rs a.1 in omega arith
  payload-total (Wb offset bytes ∷ rs) a = let h = payload-total rs a.1 in omega (arith, a.0)
  payload-total (FL ∷ rs) a = let h = payload-total rs a.1 in omega arith

  -- the bytes of the list
  pub bytes-total : (rs : List Record) → All (OneBlock bs) rs → length (list_bytes rs) ≡ total (by_kind 18 (18 + bs) 2) rs
  unfolding total
  bytes-total [] a = list-nil
  bytes-total (WZ offset n ∷ rs) a = let h = bytes-total rs a.1 in omega (arith, list-cons (WZ offset n) rs, zeros-bytes offset n)
  bytes-total (Wb offset bytes ∷ rs) a = let h = bytes-total rs a.1 in omega (arith, list-cons (Wb offset bytes) rs, block-bytes offset bytes, a.0)
  bytes-total (FL ∷ rs) a = let h = bytes-total rs a.1 in omega (arith, list-cons FL rs, flush-bytes)

  -- and those of a split write
  pub blocks-bytes : (offset n : ℕ) (bytes : List ℕ) → n * bs ≤ length bytes → length (list_bytes (block_records bs offset n bytes)) ≡ n * (18 + bs)
  blocks-bytes offset n bytes l = bytes-total (block_records bs offset n bytes) (blocks-whole bs offset n bytes l) ∙ blocks-total 18 (18 + bs) 2 bs offset n bytes
