-- `chunk::fill::fill_chunk` meets its contract.
-- Assumes nothing.
use mathlib.Core.List.{List}
use mathlib.Core.Path.{ap, ◌∙◌}
use Prim.Native.Nat.{ℕ}
use native.Mathlib.Omega.{arith}
use lib.ListN.{length}
use Rattle.crc.specs.Right.{already_right}
use Rattle.crc_sums.proofs.Laws.{looked-at}
use Rattle.structs.proofs.Lengths.{inode-most}
use Rattle.chunk.specs.Chunk.{chunk_places}
use Rattle.chunk.proofs.Asked.{length-places, few-places}
use Rattle.chunk.proofs.Filled.{filled}
use borrow.Author.Rules.{rules}
use Rattle.chunk.proofs.fill.fill_chunk.Goals as goal

pub places_of-places-requires : goal.places_of-places-requires
places_of-places-requires c = inode-most _ c.requires.0

pub put_summary-requires : goal.put_summary-requires
put_summary-requires c = let p = c.requires in (p.0, search rules, p.2, p.3)

pub slice_bounds-same_sums-end : goal.slice_bounds-same_sums-end
slice_bounds-same_sums-end c = omega (arith, ap (λ (l : List ℕ). length l) c.places_of-places.ensures, length-places c.args.size)

pub returns : goal.returns
returns c = let a = c.args in
    let q = looked-at 64 (chunk_places a.size) a.buf.now c.put_summary.new.buf c.same_sums-right.ensures c.places_of-places.ensures (search rules) (few-places a.size) in
    let d = c.draw_three-g.ensures in
    let m = filled _ _ _ _ _ _ _ _ _ _ _ _ _ _ d c.free_slots.ensures c.put_root.ensures c.put_bitmap.ensures c.put_summary.ensures in
    (q ∙ ap (already_right (chunk_places a.size) a.buf.now) m, d.state-is, m)
