-- Parts that are fed one after the other, wherever they come from: a first sector, heads, a log block. When they are accepted.
-- Assumes nothing.
use Rattle.std.specs.Prelude.{◌≡◌, false, List, ℕ, ◌+◌, length}
use Rattle.head_bytes.specs.Head.{head_length}
use Rattle.reader_names.specs.Named.{named_by}
use Rattle.reader_exact.specs.Read.{least_sector}
use Rattle.reader_exact.specs.Disk.{ByRecords}
use Rattle.reader_pass.specs.Device.{groups_fed}

-- a first sector of 512 bytes that names, in plain sizing, an accepted geometry whose heads are as long as this head
pub record Announces (sector head : List ℕ) : Type 0 where
  pub long : length sector ≡ least_sector
  pub named : (named_by false sector).number ≡ 0
  pub head-long : length head ≡ head_length (named_by false sector).geometry

-- the first sector, a head for each group that group 0's head counts, and the log block
abbrev pub parts_needed : (ℕ → List ℕ) → ℕ
parts_needed parts = groups_fed parts + 2

-- the written records of one accepted run leave the heads behind the first sector and the log block behind them, whatever the device held;
-- and the first sector announces group 0's head
pub record RunParts (parts : ℕ → List ℕ) : Type 0 where
  pub sector : Announces (parts 0) (parts 1)
  pub run : ByRecords (λ k. parts (k + 1)) (parts (groups_fed parts + 1))
