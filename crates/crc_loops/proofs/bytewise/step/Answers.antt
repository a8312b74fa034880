-- `crc_loops::bytewise::step` meets its contract.
-- Assumes nothing.
use Rattle.crc_register.proofs.Linear.{byte-turn}
use lib.Bits.{bit_xor}
use lib.ListN.{get_or}
use Prim.Native.Nat.{ℕ, ◌%◌}
use mathlib.Core.List.{List}
use mathlib.Core.Path.{ap}
use Rattle.crc_loops.proofs.bytewise.step.Goals as goal

pub returns : goal.returns
returns c = let a = c.args in byte-turn a.c a.b (get_or a.t.now (bit_xor a.c a.b % 256) 0) c.ranges.b.fits (ap (λ (l : List ℕ). get_or l (bit_xor a.c a.b % 256) 0) c.requires)
