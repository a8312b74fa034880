-- That the first bytes of a run's list say the run's own sector size.
-- Assumes nothing.
use Rattle.std.specs.Prelude.{◌≡◌, List, ℕ, ◌≤◌, ltb, take}
use Rattle.list_records.specs.Records.{list_bytes}
use Rattle.list_sector.specs.Sector.{sector_in, enough, below_logical}
use Rattle.run.specs.declared.Run.{Run}
use Rattle.list_spec.specs.Listing.{list_of}

-- the first n bytes of a run's list
abbrev pub first_bytes : Run → ℕ → ℕ → List ℕ
first_bytes run device n = take n (list_bytes (list_of run device))

pub record Learned (run : Run) (device : ℕ) : Type 0 where
  -- the sector size that they say is the run's
  pub sector : (n : ℕ) → enough ≤ n → sector_in (first_bytes run device n) ≡ run.geometry.sectsize
  -- A LIST IS REFUSED EXACTLY WHERE THE RUN'S SECTORS ARE SMALLER THAN THE DEVICE'S LOGICAL ONES
  pub exactly : (n logical : ℕ) → enough ≤ n → below_logical (first_bytes run device n) logical ≡ ltb run.geometry.sectsize logical
