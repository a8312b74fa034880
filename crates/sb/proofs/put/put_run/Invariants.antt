-- `sb::put::put_run` meets its contract. Invariant: what is left of the run, from number i on, still makes the whole run's bytes.
-- Assumes nothing.
use Rattle.std.proofs.Common.{◌≡◌, ◌+◌, ◌*◌, ◌-◌, drop}
use Rattle.endian.specs.Fields.{write_fields, table}
use Rattle.sb.specs.Numbers.{evenly}
use Rattle.sb.proofs.put.put_run.Given as goal

abbrev pub invariant-loop-i : goal.invariant-loop-i
invariant-loop-i l = write_fields (table (evenly (l.off + l.width * l.i) l.width (l.n - l.i)) (drop (l.from + l.i) l.v)) l.sector ≡ write_fields (table (evenly l.off l.width l.n) (drop l.from l.v)) l.initial.sector
