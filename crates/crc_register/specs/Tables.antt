-- The tables of a fast CRC32C, as they are computed: what zero bits make of the register.
-- Assumes nothing.
use Rattle.std.specs.Prelude.{List, [], ◌∷◌, ◌++◌, map, ℕ, zero, suc, ◌*◌, ◌/◌, ◌%◌, ◌^◌}
use Rattle.std.specs.Int.Bits.{bit_xor}
use Rattle.crc_register.specs.Register.{crc_bits}

-- `n` entries, that of `f i` first: the register `f i` after `m` zero bits
unfoldable pub register_table : (ℕ → ℕ) → ℕ → ℕ → ℕ → List ℕ
register_table f m zero i = []
register_table f m (suc n) i = crc_bits m (f i) 0 ∷ register_table f m n (suc i)

abbrev pub itself : ℕ → ℕ
itself i = i

abbrev pub power_of_two : ℕ → ℕ
power_of_two i = 2 ^ i

-- `x` through a table that has an entry for each bit
unfoldable pub through : List ℕ → ℕ → ℕ
through [] x = 0
through (t ∷ ts) x = bit_xor (t * (x % 2)) (through ts (x / 2))

-- `n` tables one after the other: `t`, and each next made of the last by `g`
unfoldable pub tables_made : (List ℕ → ℕ → ℕ) → ℕ → List ℕ → List ℕ
tables_made g zero t = []
tables_made g (suc n) t = t ++ tables_made g n (map (g t) t)

-- the table of `g`'s `k`-th turn
unfoldable pub row : (List ℕ → ℕ → ℕ) → ℕ → List ℕ → List ℕ
row g zero t = t
row g (suc k) t = row g k (map (g t) t)

-- a byte of the register
unfoldable pub byte_table : List ℕ
byte_table = register_table itself 8 256 0

-- a bit of the register, after 64, 128, .. 16,384 zero bytes
unfoldable pub leap_table : List ℕ
leap_table = tables_made through 9 (register_table power_of_two 512 32 0)

abbrev pub zero_byte : List ℕ → ℕ → ℕ
zero_byte t v = crc_bits 8 v 0

-- a byte of the register, after 1, 2, .. 8 zero bytes
unfoldable pub slice_table : List ℕ
slice_table = tables_made zero_byte 8 (register_table itself 8 256 0)
