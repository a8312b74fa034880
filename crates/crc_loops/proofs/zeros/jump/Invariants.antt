-- `crc_loops::zeros::jump` meets its contract. Invariant: r with the jump of the bits from i on, which x holds, is the jump of c.
-- Assumes nothing.
use Rattle.crc_register.specs.Register.{crc_bits}
use lib.Bits.{bit_xor}
use Prim.Native.Nat.{◌*◌, ◌-◌, ◌^◌, ◌≤◌, ◌<◌}
use mathlib.Core.Path.{◌≡◌}
use Rattle.crc_loops.proofs.zeros.jump.Given as goal

abbrev pub invariant-loop-entry : goal.invariant-loop-entry
invariant-loop-entry l = (l.entry-index ≤ 32) × ((l.x < 2 ^ (32 - l.entry-index)) × (bit_xor l.r (crc_bits (512 * 2 ^ l.k) (l.x * 2 ^ l.entry-index) 0) ≡ crc_bits (512 * 2 ^ l.k) l.c 0))
