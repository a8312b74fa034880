-- Written records: zeros, one block's bytes, or a flush; and their bytes in the list.
-- Assumes nothing.
use Rattle.std.specs.Prelude.{◌≡◌, List, [], ◌∷◌, ◌++◌, ◌⊎◌, ℕ, zero, suc, ◌+◌, length, take, drop}
use Rattle.endian.specs.Bytes.{be_bytes}
use Rattle.seqs.specs.Lists.{total}

-- zeros from an offset on, so many; bytes from an offset on; flush
pub data Record : Type 0 where
  WZ : ℕ → ℕ → Record
  Wb : ℕ → List ℕ → Record
  FL : Record

-- a record in the list: its mark, then offset and length in 8 bytes each, then the bytes
unfoldable pub record_bytes : Record → List ℕ
record_bytes (WZ offset n) = 0x57 ∷ 0x5a ∷ (be_bytes 8 offset ++ be_bytes 8 n)
record_bytes (Wb offset bytes) = 0x57 ∷ 0x42 ∷ (be_bytes 8 offset ++ (be_bytes 8 (length bytes) ++ bytes))
record_bytes FL = 0x46 ∷ 0x4c ∷ []

-- records one after the other
unfoldable pub list_bytes : List Record → List ℕ
list_bytes [] = []
list_bytes (r ∷ rs) = record_bytes r ++ list_bytes rs

-- a longer write is split into its n blocks of bs bytes, rising
unfoldable pub block_records : ℕ → ℕ → ℕ → List ℕ → List Record
block_records bs offset zero bytes = []
block_records bs offset (suc n) bytes = Wb offset (take bs bytes) ∷ block_records bs (offset + bs) n (drop bs bytes)

-- a record of zeros, a flush, or one block of bs bytes
abbrev pub OneBlock : ℕ → Record → Type 0
OneBlock bs (WZ offset n) = Unit {0}
OneBlock bs (Wb offset bytes) = length bytes ≡ bs
OneBlock bs FL = Unit {0}

-- all of a list
abbrev pub All : (Record → Type 0) → List Record → Type 0
All q [] = Unit {0}
All q (r ∷ rs) = q r × All q rs

-- one of a list's records
abbrev pub Member : List Record → Record → Type 0
Member [] r = ⊥
Member (w ∷ ws) r = (r ≡ w) ⊎ Member ws r

-- some of a list's records, in any order, each once, several times or not at all
abbrev pub Among : List Record → List Record → Type 0
Among ws rs = All (Member ws) rs

-- ---- how many records of each kind, and how many bytes stand in blocks: sums over a list

-- a number for each kind: zeros, a block, a flush
abbrev pub by_kind : ℕ → ℕ → ℕ → Record → ℕ
by_kind z b f (WZ offset n) = z
by_kind z b f (Wb offset bytes) = b
by_kind z b f FL = f

-- the WZ of a list
abbrev pub zeroings : List Record → ℕ
zeroings rs = total (by_kind 1 0 0) rs

-- its Wb
abbrev pub block_writes : List Record → ℕ
block_writes rs = total (by_kind 0 1 0) rs

-- its FL
abbrev pub flushes : List Record → ℕ
flushes rs = total (by_kind 0 0 1) rs

-- the bytes of a Wb
abbrev pub carried : Record → ℕ
carried (WZ offset n) = 0
carried (Wb offset bytes) = length bytes
carried FL = 0

-- of all Wb of a list
abbrev pub payload : List Record → ℕ
payload rs = total carried rs
