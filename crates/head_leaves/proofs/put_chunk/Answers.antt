-- `head_leaves::put_chunk` meets its contract.
-- Assumes nothing.
use Rattle.head_leaves.proofs.Laws.{few-alike, few-length}
use Rattle.head_leaves.specs.Leaves.{chunk_rec}
use lib.ListN.{replicate, length-replicate}
use Rattle.btree.proofs.Laws.{inobt-size}
use Rattle.btree.specs.Records.{inobt_bytes}
use Rattle.head_leaves.proofs.Laws.{list-fits, lent_again, lent_length, listed-length, leaf-of}
use Rattle.structs.proofs.Written.{written_in}
use lib.ListN.{length}
use native.Mathlib.Omega.{arith}
use Prim.Native.Nat.{◌*◌}
use mathlib.Core.Path.{◌≡◌, ◌∙◌}
use Rattle.head_leaves.proofs.put_chunk.Goals as goal

pub returns : goal.returns
returns c = let rec = c.chunk_rec-rec.result in let k : length (replicate 64 rec) ≡ 64 = length-replicate 64 rec in let n = listed-length (inobt_bytes c.args.sparse) 16 (inobt-size c.args.sparse) c.args.n 64 (replicate 64 rec) k c.requires.0 in let e = written_in c.inobt_recs_64.ensures (list-fits 16 c.args.n _ (lent_length (16 * c.args.n) 1536 c.args.work.now c.requires.1 (omega (arith, c.requires.0))) c.requires.0) in leaf-of _ _ _ _ _ _ _ (lent_again (16 * c.args.n) c.args.work.now e n ∙ few-alike c.args.sparse c.args.n rec (chunk_rec c.args.startino) c.requires.0 c.chunk_rec-rec.ensures) (few-length c.args.sparse c.args.n (chunk_rec c.args.startino)) c.leaf_block.ensures
