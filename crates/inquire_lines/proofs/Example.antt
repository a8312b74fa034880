-- Lines of `inquire`, byte for byte.
-- Assumes nothing.
use mathlib.Core.Path.{◌≡◌, refl}
use mathlib.Core.Bool.{true, false}
use mathlib.Core.List.{[], ◌∷◌}
use lib.Dec.{lit<}
use Rattle.table_lines.specs.Decimal.{digits}
use Rattle.table_lines.proofs.Digits.{digits-few}
use Rattle.inquire_lines.specs.Items.{word_bytes, item_bytes, size_bytes}

-- `left 1024`, and the end of the line
pub left-1024 : item_bytes (108 ∷ 101 ∷ 102 ∷ 116 ∷ []) 1024 true ≡ 108 ∷ 101 ∷ 102 ∷ 116 ∷ 32 ∷ 49 ∷ 48 ∷ 50 ∷ 52 ∷ 10 ∷ []
unfolding digits item_bytes
left-1024 = rw (digits-few 3 1024 (lit< tt))

-- `bytes 7 `, with more behind it
pub bytes-7 : item_bytes (98 ∷ 121 ∷ 116 ∷ 101 ∷ 115 ∷ []) 7 false ≡ 98 ∷ 121 ∷ 116 ∷ 101 ∷ 115 ∷ 32 ∷ 55 ∷ 32 ∷ []
unfolding digits item_bytes
bytes-7 = rw (digits-few 0 7 (lit< tt))

-- `held`
pub held : word_bytes (104 ∷ 101 ∷ 108 ∷ 100 ∷ []) ≡ 104 ∷ 101 ∷ 108 ∷ 100 ∷ 10 ∷ []
unfolding word_bytes
held = refl

-- `records 43 bytes 156390 payload 155648`, the line of 1 GiB without options
pub gib-line : size_bytes (record { number = 0; records = 43; bytes = 156390; payload = 155648 })
    ≡ 114 ∷ 101 ∷ 99 ∷ 111 ∷ 114 ∷ 100 ∷ 115 ∷ 32 ∷ 52 ∷ 51 ∷ 32 ∷ 98 ∷ 121 ∷ 116 ∷ 101 ∷ 115 ∷ 32 ∷ 49 ∷ 53 ∷ 54 ∷ 51 ∷ 57 ∷ 48 ∷ 32 ∷ 112 ∷ 97 ∷ 121 ∷ 108 ∷ 111 ∷ 97 ∷ 100 ∷ 32 ∷ 49 ∷ 53 ∷ 53 ∷ 54 ∷ 52 ∷ 56 ∷ 10 ∷ []
unfolding digits item_bytes size_bytes
gib-line = rw (digits-few 1 43 (lit< tt), digits-few 5 156390 (lit< tt), digits-few 5 155648 (lit< tt))
