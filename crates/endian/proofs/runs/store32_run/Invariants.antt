-- `endian::runs::store32_run` meets its contract. Invariant: the numbers from i on, over what stands there, still make all of them.
-- Assumes nothing.
use mathlib.Core.Path.{◌≡◌}
use Prim.Native.Nat.{◌+◌, ◌*◌, ◌≤◌}
use lib.ListN.{length, drop}
use Rattle.endian.specs.Bytes.{patch, numbers_bytes}
use Rattle.endian.proofs.runs.store32_run.Given as goal

abbrev pub invariant-loop-i : goal.invariant-loop-i
invariant-loop-i l = (l.i ≤ length l.v) × (patch (l.off + 4 * l.i) (numbers_bytes 4 (drop l.i l.v)) l.buf ≡ patch l.off (numbers_bytes 4 l.v) l.initial.buf) × (length l.buf ≡ length l.initial.buf)
