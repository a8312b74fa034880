-- `chunk::root_chunk` meets its contract.
-- Assumes nothing.
use Rattle.chunk.proofs.Chunks.{accepted, size-inode, whole_chunk, first_fits, flags-inside, chunk-refused, chunk-made, chunk-bytes}
use Rattle.geometry_layout.proofs.Bounding.{answer-bounds}
use Rattle.crc.specs.Right.{already_right}
use Rattle.chunk.specs.Chunk.{chunk_places}
use mathlib.Core.Path.{◌≡◌, refl, ap, sym, ◌∙◌}
use lib.ListN.{length}
use native.Mathlib.Omega.{arith}
use borrow.Author.Rules.{rules}
use Rattle.chunk.proofs.root_chunk.Goals as goal

pub returns-then-n-ne0 : goal.returns-then-n-ne0
returns-then-n-ne0 c = chunk-refused c.refusal-n.ensures c.if-n-ne0.true

pub overflow_mul-first : goal.overflow_mul-first
overflow_mul-first c = let l : length c.args.g.label ≡ 12 = search (rules, c.well_formed.0.1.1.1.1.1.1.1.1.1.1.1.1.1.1.1.1.1.1.1.1) in
    let a = accepted c.args.g c.args.agbno c.args.time _ (sym c.refusal-n.ensures ∙ c.if-n-ne0.false) in
    let z = answer-bounds c.args.g l a.answer in
    omega (arith, first_fits c.args.g z c.args.agbno a.blocks-in)

pub fill_chunk-made-requires : goal.fill_chunk-made-requires
fill_chunk-made-requires c = let l : length c.args.g.label ≡ 12 = search (rules, c.well_formed.0.1.1.1.1.1.1.1.1.1.1.1.1.1.1.1.1.1.1.1.1) in
    let a = accepted c.args.g c.args.agbno c.args.time _ (sym c.refusal-n.ensures ∙ c.if-n-ne0.false) in
    let z = answer-bounds c.args.g l a.answer in (
      size-inode c.args.g z,
      a.length-is ∙ whole_chunk c.args.g z,
      omega (arith, first_fits c.args.g z c.args.agbno a.blocks-in),
      rw c.flags_of.ensures (flags-inside c.args.g.features c.args.time a.time-in),
    )

pub returns : goal.returns
returns c = let l : length c.args.g.label ≡ 12 = search (rules, c.well_formed.0.1.1.1.1.1.1.1.1.1.1.1.1.1.1.1.1.1.1.1.1) in
    let a = accepted c.args.g c.args.agbno c.args.time _ (sym c.refusal-n.ensures ∙ c.if-n-ne0.false) in
    let z = answer-bounds c.args.g l a.answer in
    let w = c.fill_chunk-made.ensures in
    let q = chunk-bytes c.args.g z c.args.agbno _ c.args.time _ _ _ c.flags_of.ensures refl in
    chunk-made (sym c.refusal-n.ensures ∙ c.if-n-ne0.false) (w.2 ∙ q) (w.0 ∙ ap (already_right (chunk_places c.args.g.inodesize) c.args.buf.now) q) w.1
