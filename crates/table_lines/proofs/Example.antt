-- Lines of planlist's example, a device of 1 GiB, byte for byte.
-- Assumes nothing.
use mathlib.Core.Path.{◌≡◌}
use mathlib.Core.List.{[], ◌∷◌}
use lib.Dec.{lit<}
use Rattle.table_lines.specs.Decimal.{digits}
use Rattle.table_lines.proofs.Digits.{digits-few}
use Rattle.table_lines.specs.Lines.{line, row_bytes, total_bytes, refused_bytes}

-- `2 65536 16384 6 0 49139 49139`
pub row-2 : row_bytes (record { number = 0; group = 2; length = 65536; log = 16384; list = 6; chunk = 0; free = 49139; longest = 49139 })
    ≡ 50 ∷ 32 ∷ 54 ∷ 53 ∷ 53 ∷ 51 ∷ 54 ∷ 32 ∷ 49 ∷ 54 ∷ 51 ∷ 56 ∷ 52 ∷ 32 ∷ 54 ∷ 32 ∷ 48 ∷ 32 ∷ 52 ∷ 57 ∷ 49 ∷ 51 ∷ 57 ∷ 32 ∷ 52 ∷ 57 ∷ 49 ∷ 51 ∷ 57 ∷ 10 ∷ []
unfolding digits line row_bytes
row-2 = rw (digits-few 0 2 (lit< tt), digits-few 4 65536 (lit< tt), digits-few 4 16384 (lit< tt), digits-few 0 6 (lit< tt), digits-few 0 0 (lit< tt), digits-few 4 49139 (lit< tt))

-- `total 262144 16384 24 8 245700`
pub total : total_bytes (record { length = 262144; log = 16384; list = 24; chunk = 8; free = 245700 })
    ≡ 116 ∷ 111 ∷ 116 ∷ 97 ∷ 108 ∷ 32 ∷ 50 ∷ 54 ∷ 50 ∷ 49 ∷ 52 ∷ 52 ∷ 32 ∷ 49 ∷ 54 ∷ 51 ∷ 56 ∷ 52 ∷ 32 ∷ 50 ∷ 52 ∷ 32 ∷ 56 ∷ 32 ∷ 50 ∷ 52 ∷ 53 ∷ 55 ∷ 48 ∷ 48 ∷ 10 ∷ []
unfolding digits line total_bytes
total = rw (digits-few 5 262144 (lit< tt), digits-few 4 16384 (lit< tt), digits-few 1 24 (lit< tt), digits-few 0 8 (lit< tt), digits-few 5 245700 (lit< tt))

-- `refused 28`
pub refused-28 : refused_bytes 28 ≡ 114 ∷ 101 ∷ 102 ∷ 117 ∷ 115 ∷ 101 ∷ 100 ∷ 32 ∷ 50 ∷ 56 ∷ 10 ∷ []
unfolding digits line refused_bytes
refused-28 = rw (digits-few 1 28 (lit< tt))
