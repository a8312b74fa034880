-- An empty directory within its inode: `struct xfs_dir2_sf_hdr`.
-- Assumes nothing.
use Rattle.std.specs.Prelude.{◌≡◌, List, ◌∷◌, ◌++◌, Bool, true, false, ℕ, ◌-◌, ◌^◌, ltb, length, replicate}
use Rattle.endian.specs.Bytes.{be_bytes}

-- count: no entries; i8count: how many inode numbers need 8 bytes; parent
abbrev pub directory_header : Bool → ℕ → List ℕ
directory_header true parent = 0 ∷ (0 ∷ be_bytes 4 parent)
directory_header false parent = 0 ∷ (1 ∷ be_bytes 8 parent)

-- 6 bytes, or 10 where the parent is above 2^32 − 1
unfoldable pub empty_dir : ℕ → List ℕ
empty_dir parent = directory_header (ltb parent (2 ^ 32)) parent

-- What `empty_sf_dir` answers: the bytes, zeros behind them, and how many they are.
pub record EmptyDir (parent : ℕ) (bytes : List ℕ) (len : ℕ) : Type 0 where
  pub bytes-are : bytes ≡ empty_dir parent ++ replicate (10 - length (empty_dir parent)) 0
  pub len_is : len ≡ length (empty_dir parent)
