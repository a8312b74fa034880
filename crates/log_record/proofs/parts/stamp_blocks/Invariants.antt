-- `log_record::parts::stamp_blocks` meets its contract. Invariant: the stamps from block i on, over what stands there, still make all of them.
-- Assumes nothing.
use Rattle.log_record.specs.Record.{stamps}
use Rattle.endian.specs.Fields.{write_fields}
use lib.ListN.{length}
use Prim.Native.Nat.{◌-◌}
use mathlib.Core.Path.{◌≡◌}
use Rattle.log_record.proofs.parts.stamp_blocks.Given as goal

abbrev pub invariant-loop-i : goal.invariant-loop-i
invariant-loop-i l = (length l.rec ≡ length l.initial.rec) × (write_fields (stamps l.cycle l.i (l.blocks - l.i)) l.rec ≡ write_fields (stamps l.cycle 2 (l.blocks - 2)) l.initial.rec)
