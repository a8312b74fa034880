-- Bytes are Below 256: in a number's bytes, in fields that are written, in a checksum.
-- Assumes nothing.
use mathlib.Core.Path.{◌≡◌}
use mathlib.Core.Bool.{Bool, true, false, cond}
use mathlib.Core.List.{List, [], ◌∷◌, ◌++◌}
use Prim.Native.Nat.{ℕ, zero, suc, ◌/◌, ◌%◌, ◌^◌, ◌<◌}
use native.Mathlib.Nat.{mod-lt}
use lib.Dec.{lit<}
use lib.ListN.{set, replicate}
use Rattle.endian.specs.Bytes.{be_bytes, numbers_bytes, Below, patch}
use Rattle.endian_little.specs.Bytes.{le_bytes}
use Rattle.endian.specs.Fields.{Field, write_fields}
use Rattle.crc.specs.Crc.{cksum_of, stamped}
use Rattle.btree.specs.Records.{records_bytes}

pub byte : (v : ℕ) → v % 256 < 256
byte v = mod-lt v (lit< tt)

pub below-append : (m : ℕ) (xs ys : List ℕ) → Below m xs → Below m ys → Below m (xs ++ ys)
below-append m [] ys a b = b
below-append m (x ∷ xs) ys a b = (a.0, below-append m xs ys a.1 b)

pub below-same : (m n v : ℕ) → v < m → Below m (replicate n v)
below-same m zero v h = tt
below-same m (suc n) v h = (h, below-same m n v h)

below_set : (m : ℕ) (vs : List ℕ) (i v : ℕ) → Below m vs → v < m → Below m (set vs i v)
below_set m [] i v b h = b
below_set m (w ∷ vs) zero v b h = (h, b.1)
below_set m (w ∷ vs) (suc i) v b h = (b.0, below_set m vs i v b.1 h)

pub below-patch : (m off : ℕ) (bs xs : List ℕ) → Below m bs → Below m xs → Below m (patch off bs xs)
unfolding patch
below-patch m off [] xs b x = x
below-patch m off (c ∷ bs) xs b x = below_set m (patch (suc off) bs xs) off c (below-patch m (suc off) bs xs b.1 x) b.0

pub below-be : (n v : ℕ) → Below 256 (be_bytes n v)
unfolding be_bytes
below-be zero v = tt
below-be (suc n) v = (byte (v / 256 ^ n), below-be n v)

pub below-le : (n v : ℕ) → Below 256 (le_bytes n v)
unfolding le_bytes
below-le zero v = tt
below-le (suc n) v = (byte v, below-le n (v / 256))

pub below-run : (n : ℕ) (vs : List ℕ) → Below 256 (numbers_bytes n vs)
unfolding numbers_bytes
below-run n [] = tt
below-run n (v ∷ vs) = below-append 256 (be_bytes n v) (numbers_bytes n vs) (below-be n v) (below-run n vs)

pub below-zeros : (n : ℕ) → Below 256 (replicate n 0)
below-zeros n = below-same 256 n 0 (lit< tt)

pub below-choose : (t : Bool) (xs : List ℕ) → Below 256 xs → Below 256 (cond t xs [])
below-choose true xs b = b
below-choose false xs b = tt

-- ---- fields

abbrev pub AllBelow : List Field → Type 0
AllBelow [] = Unit {0}
AllBelow (f ∷ fs) = Below 256 f.bytes × AllBelow fs

pub all_append : (fs gs : List Field) → AllBelow fs → AllBelow gs → AllBelow (fs ++ gs)
all_append [] gs a b = b
all_append (f ∷ fs) gs a b = (a.0, all_append fs gs a.1 b)

pub below-write : (fs : List Field) (xs : List ℕ) → AllBelow fs → Below 256 xs → Below 256 (write_fields fs xs)
below-write [] xs a x = x
below-write (f ∷ fs) xs a x = below-write fs (patch f.at f.bytes xs) a.1 (below-patch 256 f.at f.bytes xs a.0 x)

pub below-stamped : (off : ℕ) (xs : List ℕ) → Below 256 xs → Below 256 (stamped off xs)
unfolding stamped
below-stamped off xs x = below-patch 256 off (le_bytes 4 (cksum_of off xs)) xs (below-le 4 (cksum_of off xs)) x

pub below-listed : {A : Type 0} (f : A → List ℕ) → ((a : A) → Below 256 (f a)) → (rs : List A) → Below 256 (records_bytes f rs)
below-listed f b [] = tt
below-listed f b (r ∷ rs) = below-append 256 (f r) (records_bytes f rs) (b r) (below-listed f b rs)
