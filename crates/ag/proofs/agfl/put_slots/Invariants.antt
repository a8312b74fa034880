-- `ag::agfl::put_slots` meets its contract. Invariant: the list's first i blocks stand in their slots, and every other slot is null.
-- Assumes nothing.
use Rattle.ag.specs.Agfl.{placed}
use Rattle.structs.specs.Written.{null32}
use Rattle.endian.specs.Bytes.{patch, numbers_bytes}
use lib.ListN.{take, replicate}
use mathlib.Core.Path.{◌≡◌}
use Rattle.ag.proofs.agfl.put_slots.Given as goal

abbrev pub invariant-loop-i : goal.invariant-loop-i
invariant-loop-i l = l.sector ≡ patch 36 (numbers_bytes 4 (placed l.slots l.first (take l.i l.block-items) (replicate l.slots null32))) l.initial.sector
