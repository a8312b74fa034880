-- `list_size::block_count` meets its contract.
-- Assumes nothing.
use Rattle.list_size.proofs.Closed.{heads-most, blocks-are}
use mathlib.Core.Path.{ap, ◌∙◌}
use native.Mathlib.Omega.{arith}
use Prim.Native.Nat.{ℕ, ◌*◌, ◌≤◌}
use Rattle.list_size.proofs.block_count.Goals as goal

pub head_blocks-heads-requires : goal.head_blocks-heads-requires
head_blocks-heads-requires c = let m = heads-most c.args.g c.requires in rw c.prealloc_of.ensures (omega arith)

pub overflow_add-result : goal.overflow_add-result
overflow_add-result c = let m : c.head_blocks-heads.result ≤ 42949672940 = rw (c.head_blocks-heads.ensures, c.prealloc_of.ensures) (heads-most c.args.g c.requires) in omega arith

pub overflow_add-result-2 : goal.overflow_add-result-2
overflow_add-result-2 c = let m : c.head_blocks-heads.result ≤ 42949672940 = rw (c.head_blocks-heads.ensures, c.prealloc_of.ensures) (heads-most c.args.g c.requires) in let e = c.chunk_of-chunk.ensures in let d = c.requires.places.chunk-most in omega arith

pub overflow_add-result-3 : goal.overflow_add-result-3
overflow_add-result-3 c = let m : c.head_blocks-heads.result ≤ 42949672940 = rw (c.head_blocks-heads.ensures, c.prealloc_of.ensures) (heads-most c.args.g c.requires) in let e = c.chunk_of-chunk.ensures in let d = c.requires.places.chunk-most in let h = c.header_of-header.ensures in let k = c.requires.places.header-most in omega arith

pub returns : goal.returns
returns c = blocks-are c.args.g (c.head_blocks-heads.ensures ∙ ap (λ (n : ℕ). c.args.g.agcount * n) c.prealloc_of.ensures) c.chunk_of-chunk.ensures c.header_of-header.ensures
