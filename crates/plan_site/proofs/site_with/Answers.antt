-- `plan_site::site_with` meets its contract.
-- Assumes nothing.
use Rattle.plan_site.specs.Sites.{site_of}
use Rattle.geometry_layout.specs.Places.{ibt_block, rmap_block, refc_block}
use native.Mathlib.Omega.{arith}
use Rattle.geometry.proofs.Bit.{from-bit}
use Rattle.plan_site.proofs.site_with.Goals as goal

pub narrow-header-requires : goal.narrow-header-requires
narrow-header-requires c = omega (arith, c.header_of.ensures, c.requires.0.header)

pub overflow_add-rmap_at : goal.overflow_add-rmap_at
overflow_add-rmap_at c = let n = c.requires.0 in omega (arith, c.narrow-header.ensures, c.header_of.ensures, n.header)

pub overflow_add-rmap_at-2 : goal.overflow_add-rmap_at-2
overflow_add-rmap_at-2 c = let n = c.requires.0 in omega (arith, c.narrow-header.ensures, c.header_of.ensures, n.header, from-bit c.args.g.features.finobt, n.finobt)

pub narrow-requires : goal.narrow-requires
narrow-requires c = let n = c.requires.0 in omega (arith, c.requires.1, n.length)

pub narrow-requires-2 : goal.narrow-requires-2
narrow-requires-2 c = let n = c.requires.0 in omega (arith, c.prealloc_of.ensures, n.head)

pub narrow-requires-3 : goal.narrow-requires-3
narrow-requires-3 c = let n = c.requires.0 in omega (arith, c.freelist_of.ensures, n.list)

pub narrow-requires-4 : goal.narrow-requires-4
narrow-requires-4 c = let n = c.requires.0 in n.log-at

pub narrow-requires-5 : goal.narrow-requires-5
narrow-requires-5 c = let n = c.requires.0 in n.log-blocks

pub narrow-requires-6 : goal.narrow-requires-6
narrow-requires-6 c = let n = c.requires.0 in omega (arith, c.root_chunk_of.ensures, n.chunk-at)

pub narrow-requires-7 : goal.narrow-requires-7
narrow-requires-7 c = let n = c.requires.0 in omega (arith, c.chunk_of.ensures, n.chunk-blocks)

pub overflow_add-result : goal.overflow_add-result
overflow_add-result c = let n = c.requires.0 in omega (arith, c.narrow-header.ensures, c.header_of.ensures, n.header)

pub overflow_add-result-2 : goal.overflow_add-result-2
overflow_add-result-2 c = let n = c.requires.0 in omega (arith, c.narrow-header.ensures, c.header_of.ensures, n.header, from-bit c.args.g.features.finobt, n.finobt, from-bit c.args.g.features.rmapbt, n.rmapbt)

pub returns : goal.returns
unfolding site_of ibt_block rmap_block refc_block
returns c = rw (c.from-2.ensures, from-bit c.args.g.features.rmapbt, c.narrow-7.ensures, c.chunk_of.ensures, c.narrow-6.ensures, c.root_chunk_of.ensures, c.narrow-5.ensures, c.narrow-4.ensures, c.narrow-3.ensures, c.freelist_of.ensures, c.narrow-2.ensures, c.prealloc_of.ensures, c.narrow.ensures, c.requires.1, c.from.ensures, from-bit c.args.g.features.finobt, c.narrow-header.ensures, c.header_of.ensures)
