-- `crc_loops::eightfold::look` meets its contract.
-- Assumes nothing.
use Rattle.crc_register.proofs.Linear.{slice_at}
use lib.ListN.{get_or}
use Prim.Native.Nat.{ℕ, ◌+◌, ◌*◌}
use mathlib.Core.List.{List}
use mathlib.Core.Path.{ap, ◌∙◌}
use Rattle.crc_loops.proofs.eightfold.look.Goals as goal

pub returns : goal.returns
returns c = let a = c.args in ap (λ (l : List ℕ). get_or l (a.k * 256 + a.i) 0) c.requires.0 ∙ slice_at a.k a.i c.requires.1.0 c.requires.1.1
