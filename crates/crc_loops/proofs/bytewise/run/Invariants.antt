-- `crc_loops::bytewise::run` meets its contract. Invariant: c with the bytes from i on gives what `from` gives with all of them.
-- Assumes nothing.
use Rattle.crc_register.specs.Register.{crc_bytes}
use lib.ListN.{drop}
use mathlib.Core.Path.{◌≡◌}
use Rattle.crc_loops.proofs.bytewise.run.Given as goal

abbrev pub invariant-loop-b : goal.invariant-loop-b
invariant-loop-b l = crc_bytes l.c (drop l.b-index l.s) ≡ crc_bytes l.from l.s
