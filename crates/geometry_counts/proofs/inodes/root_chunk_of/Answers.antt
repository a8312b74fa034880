-- `geometry_counts::inodes::root_chunk_of` meets its contract: head, free list and alignment are far below 64 bits.
-- Assumes nothing.
use native.Mathlib.Omega.{arith}
use Rattle.geometry_layout.specs.Places.{root_chunk_of}
use Rattle.geometry_layout.proofs.Small.{freelist-most}
use Rattle.geometry_counts.proofs.Room.{prealloc-le, prealloc-pos, align-le}
use Rattle.geometry_counts.proofs.inodes.root_chunk_of.Goals as goal

pub overflow_add-first : goal.overflow_add-first
overflow_add-first c = let a = c.args in
    omega (arith, prealloc-le a.f a.sector a.bs, freelist-most a.f)

pub align_to-requires : goal.align_to-requires
align_to-requires c = let a = c.args in
    rw (c.align_of.ensures, c.freelist_of.ensures, c.prealloc_of.ensures) (
      omega (arith, prealloc-pos a.f a.sector a.bs),
      omega (
        arith,
        prealloc-le a.f a.sector a.bs,
        freelist-most a.f,
        align-le a.f.sparse a.inode a.bs,
      ),
    )

pub returns : goal.returns
unfolding root_chunk_of
returns c = rw (c.align_to.ensures, c.align_of.ensures, c.freelist_of.ensures, c.prealloc_of.ensures)
