-- RFC 3720's test vectors (B.4), as examples of the checksum's definition.
-- Assumes nothing.
use Rattle.std.specs.Prelude.{◌≡◌, List, [], ◌∷◌, ◌++◌, ℕ, zero, suc, replicate}
use Rattle.crc.specs.Crc.{crc32c_of}

-- the bytes 0 to 31
abbrev up_to : ℕ → List ℕ → List ℕ
up_to zero xs = xs
up_to (suc n) xs = up_to n (n ∷ xs)

abbrev pub rising_bytes : List ℕ
rising_bytes = up_to 32 []

-- the bytes 31 to 0
abbrev down_from : ℕ → List ℕ
down_from zero = []
down_from (suc n) = n ∷ down_from n

abbrev pub falling_bytes : List ℕ
falling_bytes = down_from 32

-- an iSCSI read command
abbrev pub read_command : List ℕ
read_command =
    0x01 ∷ 0xc0 ∷ (replicate 14 0
    ++ (0x14 ∷ 0 ∷ 0 ∷ 0 ∷ 0 ∷ 0 ∷ 0x04 ∷ 0 ∷ 0 ∷ 0 ∷ 0 ∷ 0x14 ∷ 0 ∷ 0 ∷ 0 ∷ 0x18 ∷ 0x28 ∷ (replicate 7 0 ++ (0x02 ∷ replicate 7 0))))

-- The five vectors and their checksums.
pub record Vectors : Type 0 where
  pub zeros : crc32c_of (replicate 32 0) ≡ 0x8a91_36aa
  pub ones : crc32c_of (replicate 32 0xff) ≡ 0x62a8_ab43
  pub rising-bytes : crc32c_of rising_bytes ≡ 0x46dd_794e
  pub falling-bytes : crc32c_of falling_bytes ≡ 0x113f_db5c
  pub read-command : crc32c_of read_command ≡ 0xd996_3a56
