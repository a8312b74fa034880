-- What accepted runs leave in one place, said by their written records alone.
-- Assumes nothing.
use Rattle.std.specs.Prelude.{◌≡◌, List, ℕ, ◌<◌}
use Rattle.geometry.specs.declared.Geometry.{Geometry}
use Rattle.list_records.specs.Device.{Device}
use Rattle.list_accepted.specs.Accepted.{Source}
use Rattle.reader_exact.specs.Disk.{head_on, log_on, formatted}

-- Some accepted run with geometry g and UUID u leaves exactly the bytes xs as the head of group k: whatever the device held before, they
-- stand there when the run's written records have been applied.
pub record Leaves (g : Geometry) (u : List ℕ) (k : ℕ) (xs : List ℕ) : Type 0 where
  pub run : Source g u
  pub group : k < g.agcount
  pub bytes : (old : Device) → xs ≡ head_on g (formatted run.request old) k

-- The same of the log's first block.
pub record LeavesLog (g : Geometry) (u xs : List ℕ) : Type 0 where
  pub run : Source g u
  pub bytes : (old : Device) → xs ≡ log_on g (formatted run.request old)

-- Some accepted run, of whatever geometry and UUID, leaves xs as the head of group 0.
pub record SomeLeaves (xs : List ℕ) : Type 0 where
  pub geometry : Geometry
  pub uuid : List ℕ
  pub leaves : Leaves geometry uuid 0 xs
