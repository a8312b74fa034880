-- `crc::crc32c` meets its contract.
-- Assumes nothing.
use Rattle.crc.specs.Crc.{crc32c_of}
use Prim.Native.Nat.{ℕ, ◌-◌}
use mathlib.Core.Path.{ap}
use Rattle.crc.proofs.crc32c.Goals as goal

pub returns : goal.returns
unfolding crc32c_of
returns c = ap (λ (k : ℕ). 0xffff_ffff - k) c.update.ensures
