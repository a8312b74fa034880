-- Every field of an inode is read back, and its data fork; and one encoded twice is one encoded once.
-- Assumes nothing.
use mathlib.Core.Path.{◌≡◌, refl}
use mathlib.Core.List.{List}
use Prim.Native.Nat.{ℕ, ◌+◌, ◌≤◌, ◌<◌, ◌^◌}
use native.Mathlib.Omega.{arith}
use lib.Dec.{T, lit<}
use lib.IntN.{pos}
use lib.ListN.{length, replicate}
use Rattle.endian.specs.Bytes.{be_bytes, be_at}
use Rattle.endian.specs.Fields.{part, spans, clear}
use Rattle.crc.proofs.Laws.{read-stamped}
use Rattle.structs.specs.Holds.{Holds}
use Rattle.structs.proofs.Reading.{read_number}
use Rattle.structs.proofs.Rising.{rises-tidy}
use Rattle.structs.proofs.Encoded.{encoded-again}
use Rattle.params.specs.declared.Timestamp.{Timestamp}
use Rattle.inode.specs.declared.dinode.Dinode.{Dinode}
use Rattle.inode.specs.Dinode.{inode_crc_at, dinode_fields, dinode_bytes, free_fields, free_bytes}

abbrev pub no_time : Timestamp
no_time = record { secs = pos 0; nsecs = 0 }

abbrev pub no_dinode : Dinode
no_dinode = record { ino = 0; mode = 0; format = 0; nlink = 0; size = 0; flags = 0; flags2 = 0; generation = 0; changecount = 0; atime = no_time; mtime = no_time; ctime = no_time; crtime = no_time }

module _ (d : Dinode) (fork_data uuid xs : List ℕ) (u : length uuid ≡ 16) (fits : 176 + length fork_data ≤ length xs) where
  pub stands : spans (dinode_fields d fork_data uuid) ≡ spans (dinode_fields no_dinode fork_data (replicate 16 0))
  unfolding dinode_fields be_bytes
  stands = rw u refl

  -- clear of the checksum
  pub dinode-clear : T (clear inode_crc_at 4 (spans (dinode_fields no_dinode fork_data (replicate 16 0))))
  unfolding dinode_fields be_bytes
  dinode-clear = tt

  pub dinode-again : dinode_bytes d fork_data uuid (dinode_bytes d fork_data uuid xs) ≡ dinode_bytes d fork_data uuid xs
  unfolding dinode_bytes dinode_fields be_bytes
  dinode-again =
      encoded-again (spans (dinode_fields no_dinode fork_data (replicate 16 0))) (176 + length fork_data) inode_crc_at
      (rises-tidy 0 (176 + length fork_data) (spans (dinode_fields no_dinode fork_data (replicate 16 0))) tt (omega arith)) tt
      (dinode_fields d fork_data uuid) stands xs

  pub dinode-holds : Holds (dinode_fields d fork_data uuid) (dinode_bytes d fork_data uuid xs)
  unfolding dinode_bytes dinode_fields be_bytes
  dinode-holds k h =
      read-stamped (spans (dinode_fields no_dinode fork_data (replicate 16 0))) (176 + length fork_data) 100
      (rises-tidy 0 (176 + length fork_data) (spans (dinode_fields no_dinode fork_data (replicate 16 0))) tt (omega arith)) tt
      (dinode_fields d fork_data uuid) stands xs fits k h

  -- the inode's number, and its data fork
  pub dinode-ino : d.ino < 2 ^ 64 → be_at 8 152 (dinode_bytes d fork_data uuid xs) ≡ d.ino
  unfolding dinode_fields
  dinode-ino = read_number (dinode_fields d fork_data uuid) (dinode_bytes d fork_data uuid xs) dinode-holds 17 152 8 d.ino (lit< tt) refl

  pub dinode-data : part 176 (length fork_data) (dinode_bytes d fork_data uuid xs) ≡ fork_data
  unfolding dinode_fields
  dinode-data = dinode-holds 19 (lit< tt)

module _ (ino generation : ℕ) (uuid xs : List ℕ) (u : length uuid ≡ 16) (l : 176 ≤ length xs) where
  pub free-stands : spans (free_fields ino generation uuid) ≡ spans (free_fields 0 0 (replicate 16 0))
  unfolding free_fields be_bytes
  free-stands = rw u refl

  pub free-clear : T (clear inode_crc_at 4 (spans (free_fields 0 0 (replicate 16 0))))
  unfolding free_fields be_bytes
  free-clear = tt

  pub free-again : free_bytes ino generation uuid (free_bytes ino generation uuid xs) ≡ free_bytes ino generation uuid xs
  unfolding free_bytes free_fields be_bytes
  free-again = encoded-again (spans (free_fields 0 0 (replicate 16 0))) 176 inode_crc_at tt tt (free_fields ino generation uuid) free-stands xs

  pub free-holds : Holds (free_fields ino generation uuid) (free_bytes ino generation uuid xs)
  unfolding free_bytes free_fields be_bytes
  free-holds k h = read-stamped (spans (free_fields 0 0 (replicate 16 0))) 176 100 tt tt (free_fields ino generation uuid) free-stands xs l k h

  pub free-ino : ino < 2 ^ 64 → be_at 8 152 (free_bytes ino generation uuid xs) ≡ ino
  unfolding free_fields
  free-ino = read_number (free_fields ino generation uuid) (free_bytes ino generation uuid xs) free-holds 4 152 8 ino (lit< tt) refl
