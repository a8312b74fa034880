-- The table of no disk, byte for byte.
-- Assumes nothing.
use Rattle.std.proofs.Common.{◌≡◌, [], ◌∷◌, ◌++◌, lit<}
use Rattle.table_lines.specs.Decimal.{digits}
use Rattle.table_lines.specs.Lines.{line, header_bytes, total_bytes}
use Rattle.table_lines.proofs.Digits.{digits-few}
use Rattle.plan_table.specs.Printed.{no_disk_bytes}

-- the header, and `total 0 0 0 0 0`
pub no-disk-text : no_disk_bytes
    ≡ header_bytes ++ (116 ∷ 111 ∷ 116 ∷ 97 ∷ 108 ∷ 32 ∷ 48 ∷ 32 ∷ 48 ∷ 32 ∷ 48 ∷ 32 ∷ 48 ∷ 32 ∷ 48 ∷ 10 ∷ [])
unfolding digits line total_bytes no_disk_bytes
no-disk-text = rw (digits-few 0 0 (lit< tt))
