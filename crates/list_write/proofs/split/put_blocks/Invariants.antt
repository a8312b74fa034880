-- `list_write::split::put_blocks` meets its contract. Invariant: the records from block j on, over what stands there, still make all n.
-- Assumes nothing.
use lib.ListN.{length}
use Prim.Native.Nat.{◌+◌, ◌*◌}
use mathlib.Core.Path.{◌≡◌}
use Rattle.endian.specs.Bytes.{patch}
use Rattle.list_records.specs.Records.{list_bytes, block_records}
use Rattle.list_write.proofs.Splitting.{blocks_from}
use Rattle.list_write.proofs.split.put_blocks.Given as goal

abbrev pub invariant-loop-j : goal.invariant-loop-j
invariant-loop-j l = (length l.buf ≡ length l.initial.buf) × (patch (l.at + l.j * (18 + l.bs)) (blocks_from l.bs l.offset l.n l.src l.j) l.buf ≡ patch l.at (list_bytes (block_records l.bs l.offset l.n l.src)) l.initial.buf)
