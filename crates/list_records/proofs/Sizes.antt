-- How many bytes records have in the list.
-- Assumes nothing.
use mathlib.Core.Path.{◌≡◌, refl}
use mathlib.Core.List.{List, [], ◌∷◌, ◌++◌}
use Prim.Native.Nat.{ℕ, ◌+◌}
use native.Mathlib.Omega.{arith}
use lib.ListN.{length, length-append}
use Rattle.endian.specs.Bytes.{be_bytes}
use Rattle.endian.proofs.Laws.{length-be}
use Rattle.list_records.specs.Records.{Record, WZ, Wb, FL, record_bytes, list_bytes}

-- ---- one record: mark, offset and length; with a block, its bytes too

pub zeros-bytes : (offset n : ℕ) → length (record_bytes (WZ offset n)) ≡ 18
unfolding record_bytes
zeros-bytes offset n = omega (arith, length-append (be_bytes 8 offset) (be_bytes 8 n), length-be 8 offset, length-be 8 n)

pub block-bytes : (offset : ℕ) (bytes : List ℕ) → length (record_bytes (Wb offset bytes)) ≡ 18 + length bytes
unfolding record_bytes
block-bytes offset bytes =
    let n = be_bytes 8 (length bytes) in
    omega (arith, length-append (be_bytes 8 offset) (n ++ bytes), length-append n bytes, length-be 8 offset, length-be 8 (length bytes))

pub flush-bytes : length (record_bytes FL) ≡ 2
unfolding record_bytes
flush-bytes = refl

-- ---- a list

pub list-nil : length (list_bytes []) ≡ 0
unfolding list_bytes
list-nil = refl

pub list-cons : (r : Record) (rs : List Record) → length (list_bytes (r ∷ rs)) ≡ length (record_bytes r) + length (list_bytes rs)
unfolding list_bytes
list-cons r rs = length-append (record_bytes r) (list_bytes rs)
