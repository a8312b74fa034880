-- A device, and written records applied to whatever stood on it.
-- Assumes nothing.
use Rattle.std.specs.Prelude.{cond, ◌&&◌, ◌≡◌, List, [], ◌∷◌, ℕ, zero, suc, ◌+◌, ◌-◌, ◌%◌, ◌≤◌, ◌<◌, leb, ltb, length, get_or}
use Rattle.list_records.specs.Records.{Record, WZ, Wb, FL}

-- the byte at each offset
abbrev pub Device : Type 0
Device = ℕ → ℕ

-- ---- a record writes `len` bytes from the offset `at` on; `byte` gives each

abbrev pub at : Record → ℕ
at (WZ offset n) = offset
at (Wb offset bytes) = offset
at FL = 0

abbrev pub len : Record → ℕ
len (WZ offset n) = n
len (Wb offset bytes) = length bytes
len FL = 0

abbrev pub byte : Record → ℕ → ℕ
byte (WZ offset n) i = 0
byte (Wb offset bytes) i = get_or bytes i 0
byte FL i = 0

-- one record applied: it decides each offset that it covers, elsewhere the device stays
unfoldable pub step_record : Record → Device → Device
step_record r d x = cond (leb (at r) x && ltb x (at r + len r)) (byte r (x - at r)) (d x)

-- all of a list, in order
unfoldable pub applied : List Record → Device → Device
applied [] d = d
applied (r ∷ rs) d = applied rs (step_record r d)

-- the n bytes from an offset on
unfoldable pub read : Device → ℕ → ℕ → List ℕ
read d off zero = []
read d off (suc n) = d off ∷ read d (suc off) n

-- ---- where a record lies

-- it covers none of the n bytes from an offset on
abbrev pub Misses : ℕ → ℕ → Record → Type 0
Misses off n r = (x : ℕ) → off ≤ x → x < off + n → at r ≤ x → x < at r + len r → ⊥

-- it begins at a multiple of the block size and ends inside a device of so many bytes
abbrev pub InsideDevice : ℕ → ℕ → Record → Type 0
InsideDevice bs device r = (at r % bs ≡ 0) × (at r + len r ≤ device)

-- the first begins at an offset, and each other where the one before it ends
abbrev pub Rising : ℕ → List Record → Type 0
Rising off [] = Unit {0}
Rising off (r ∷ rs) = (at r ≡ off) × Rising (off + len r) rs
