-- `head_leaves::put_maps` meets its contract.
-- Assumes nothing.
use Rattle.btree.proofs.Laws.{rmap-size}
use Rattle.btree.specs.Records.{rmap_bytes}
use Rattle.head_leaves.proofs.Laws.{list-fits, lent_again, lent_length, listed-length, leaf-of}
use Rattle.structs.proofs.Written.{written_in}
use lib.ListN.{length}
use native.Mathlib.Omega.{arith}
use Prim.Native.Nat.{◌*◌}
use mathlib.Core.Path.{◌≡◌}
use Rattle.head_leaves.proofs.put_maps.Goals as goal

pub returns : goal.returns
returns c = let k : length c.args.l.recs ≡ 64 = c.well_formed.1.1.1.1.0.1.1.0.1.0.1 in let n = listed-length rmap_bytes 24 rmap-size c.args.l.len 64 c.args.l.recs k c.requires.0 in let e = written_in c.rmap_recs_64.ensures (list-fits 24 c.args.l.len _ (lent_length (24 * c.args.l.len) 1536 c.args.work.now c.requires.1 (omega (arith, c.requires.0))) c.requires.0) in leaf-of _ _ _ _ _ _ _ (lent_again (24 * c.args.l.len) c.args.work.now e n) n c.leaf_block.ensures
