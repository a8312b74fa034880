-- The register of CRC32C, a bit at a time (RFC 3720, 12.1). The lowest bit of a byte goes first, so the polynomial's bits stand in reverse
-- order.
-- Assumes nothing.
use Rattle.std.specs.Prelude.{List, [], ◌∷◌, ℕ, zero, suc, ◌+◌, ◌*◌, ◌/◌, ◌%◌, ◌^◌}
use Rattle.std.specs.Int.Bits.{bit_xor}
use Rattle.endian.specs.Bytes.{patch}

-- the `n` low bits of `v` in reverse order: the lowest becomes the highest
abbrev pub reflected : ℕ → ℕ → ℕ
reflected zero v = 0
reflected (suc n) v = v % 2 * 2 ^ n + reflected n (v / 2)

-- RFC 3720's polynomial 0x11edc6f41 below its highest term
abbrev pub polynomial : ℕ
polynomial = reflected 32 0x1edc_6f41

-- The register `c` takes in a bit, the lowest of `b`: it goes down by a bit, and where the bit that falls out and the new one differ, the
-- polynomial is added.
unfoldable pub crc_bit : ℕ → ℕ → ℕ
crc_bit c b = bit_xor (c / 2) ((c + b) % 2 * polynomial)

-- the `n` low bits of `b`, the lowest first
unfoldable pub crc_bits : ℕ → ℕ → ℕ → ℕ
crc_bits zero c b = c
crc_bits (suc n) c b = crc_bits n (crc_bit c b) (b / 2)

-- the bytes of a list, the first first
unfoldable pub crc_bytes : ℕ → List ℕ → ℕ
crc_bytes c [] = c
crc_bytes c (b ∷ bs) = crc_bytes (crc_bits 8 c b) bs

-- `xs` with the four bytes at `off` zero
abbrev pub zeroed : ℕ → List ℕ → List ℕ
zeroed off xs = patch off (0 ∷ 0 ∷ 0 ∷ 0 ∷ []) xs
