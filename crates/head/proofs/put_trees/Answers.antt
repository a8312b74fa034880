-- `head::put_trees` meets its contract.
-- Assumes nothing.
use Rattle.head_bytes.proofs.Whole.{three-inside}
use native.Mathlib.Nat.{le_trans, mul-le-mul_right}
use Rattle.head.proofs.put_trees.Goals as goal

pub put_roots-requires : goal.put_roots-requires
put_roots-requires c = let w = c.args.w in (c.requires.0, c.requires.1, le_trans (mul-le-mul_right w.block (three-inside w)) c.requires.2)

pub returns : goal.returns
returns c = rw (c.put_more.ensures, c.put_roots.ensures)
