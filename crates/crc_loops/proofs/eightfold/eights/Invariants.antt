-- `crc_loops::eightfold::eights` meets its contract. Invariant: c with the bytes from chunk i on gives what `from` gives with all of them.
-- Assumes nothing.
use Rattle.crc_register.specs.Register.{crc_bytes}
use lib.ListN.{drop}
use Prim.Native.Nat.{◌*◌}
use mathlib.Core.Path.{◌≡◌}
use Rattle.crc_loops.proofs.eightfold.eights.Given as goal

abbrev pub invariant-loop-eight : goal.invariant-loop-eight
invariant-loop-eight l = crc_bytes l.c (drop (8 * l.eight-index) l.s) ≡ crc_bytes l.from l.s
