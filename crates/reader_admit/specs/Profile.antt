-- What accepted runs under the profile leave, in one place and on the whole disk.
-- Assumes nothing.
use Rattle.std.specs.Prelude.{◌≡◌, true, List, ℕ}
use Rattle.geometry.specs.declared.Geometry.{Geometry}
use Rattle.list_records.specs.Device.{Device}
use Rattle.list_accepted.specs.Accepted.{Source}
use Rattle.reader_exact.specs.Disk.{ByRecords}
use Rattle.reader_vouch.specs.Leaving.{Leaves, LeavesLog}
use Rattle.reader_pass.specs.Device.{LeftByRun}

-- some accepted run under the profile has this geometry and this UUID
pub record ProfileSource (g : Geometry) (u : List ℕ) : Type 0 where
  pub run : Source g u
  pub profile : run.request.profile ≡ true

-- its written records leave the bytes xs as the head of group k, whatever the device held
pub record ProfileLeaves (g : Geometry) (u : List ℕ) (k : ℕ) (xs : List ℕ) : Type 0 where
  pub leaves : Leaves g u k xs
  pub profile : leaves.run.request.profile ≡ true

-- the same of the log's first block
pub record ProfileLeavesLog (g : Geometry) (u xs : List ℕ) : Type 0 where
  pub leaves : LeavesLog g u xs
  pub profile : leaves.run.request.profile ≡ true

-- some run under the profile, of whatever geometry and UUID, leaves xs as the head of group 0
pub record ProfileFirst (xs : List ℕ) : Type 0 where
  pub geometry : Geometry
  pub uuid : List ℕ
  pub leaves : ProfileLeaves geometry uuid 0 xs

-- one run under the profile leaves all these heads and this log block
pub record ProfileRecords (heads : ℕ → List ℕ) (log : List ℕ) : Type 0 where
  pub records : ByRecords heads log
  pub profile : records.request.profile ≡ true

-- and on any old device what stands on this one in all its heads and its log block
pub record ProfileDisk (d : Device) : Type 0 where
  pub left : LeftByRun d
  pub profile : left.request.profile ≡ true
