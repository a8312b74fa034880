-- What the bytes of records say.
-- Assumes nothing.
use Rattle.std.specs.Prelude.{List, [], ◌∷◌, ℕ, zero, suc, ◌+◌, ◌<◌, ◌^◌}
use Rattle.endian.specs.Bytes.{be_at}
use Rattle.endian.specs.Fields.{part}
use Rattle.btree.specs.declared.records.AllocRec.{AllocRec}
use Rattle.btree.specs.declared.records.InobtRec.{InobtRec}
use Rattle.btree.specs.declared.records.RmapRec.{RmapRec}

-- the `c` records of `n` bytes from `off` on, Each as `g` reads it
abbrev pub read_records : {A : Type 0} → (List ℕ → A) → ℕ → ℕ → ℕ → List ℕ → List A
read_records g n zero off xs = []
read_records g n (suc c) off xs = g (part off n xs) ∷ read_records g n c (off + n) xs

-- Each record has what `ok` asks
abbrev pub Each : {A : Type 0} → (A → Type 0) → List A → Type 0
Each ok [] = Unit {0}
Each ok (r ∷ rs) = ok r × Each ok rs

unfoldable pub alloc_of : List ℕ → AllocRec
alloc_of xs = record { start = be_at 4 0 xs; count = be_at 4 4 xs }

unfoldable pub inobt_of : List ℕ → InobtRec
inobt_of xs = record { startino = be_at 4 0 xs; holemask = be_at 2 4 xs; count = be_at 1 6 xs; freecount = be_at 1 7 xs; free = be_at 8 8 xs }

unfoldable pub rmap_rec_in : List ℕ → RmapRec
rmap_rec_in xs = record { start = be_at 4 0 xs; count = be_at 4 4 xs; owner = be_at 8 8 xs }

-- the numbers have the bits of their fields
abbrev pub AllocFits : AllocRec → Type 0
AllocFits r = (r.start < 2 ^ 32) × (r.count < 2 ^ 32)

abbrev pub InobtFits : InobtRec → Type 0
InobtFits r = (r.startino < 2 ^ 32) × (r.holemask < 2 ^ 16) × (r.count < 2 ^ 8) × (r.freecount < 2 ^ 8) × (r.free < 2 ^ 64)

abbrev pub RmapFits : RmapRec → Type 0
RmapFits r = (r.start < 2 ^ 32) × (r.count < 2 ^ 32) × (r.owner < 2 ^ 64)
