-- `crc_loops::zeros::leap` meets its contract. Invariant: x after `left` · 64 · 2^k zero bytes is c after n · 64 of them.
-- Assumes nothing.
use Rattle.crc_register.specs.Register.{crc_bits}
use Prim.Native.Nat.{◌-◌, ◌*◌, ◌^◌, ◌<◌}
use mathlib.Core.Path.{◌≡◌}
use Rattle.crc_loops.proofs.zeros.leap.Given as goal

abbrev pub invariant-loop-k : goal.invariant-loop-k
invariant-loop-k l = (l.left < 2 ^ (9 - l.k)) × (crc_bits (512 * 2 ^ l.k * l.left) l.x 0 ≡ crc_bits (512 * l.n) l.c 0)
