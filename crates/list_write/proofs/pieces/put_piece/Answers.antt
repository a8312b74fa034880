-- `list_write::pieces::put_piece` meets its contract.
-- Assumes nothing.
use Prim.Native.Nat.{◌+◌, ◌-◌}
use mathlib.Core.Path.{◌≡◌, refl, ap, ◌∙◌}
use native.Mathlib.Omega.{arith}
use lib.ListN.{length}
use Rattle.geometry_layout.specs.Bounds.{Bounds}
use Rattle.geometry_places.specs.Answers.{root_chunk}
use Rattle.list_spec.specs.Listing.{head_blocks, header_blocks, chunk_blocks}
use Rattle.list_lengths.specs.declared.parts.Sizes.{Sizes}
use Rattle.list_lengths.specs.Lengths.{blocks_length}
use Rattle.list_lengths.proofs.Which.{opening-length, group-length, root-length, closing-length, opening-size, root-size, head-size}
use Rattle.list_lengths.specs.Pieces.{sizes_in, format_number}
use Rattle.run.specs.declared.Run.{Run}
use Rattle.list_lengths.proofs.Numbers.{format-zero}
use Rattle.group_bytes.proofs.Accepted.{bounded}
use Rattle.list_write.proofs.Which.{one_less}
use Rattle.list_write.proofs.Accepted.{group-room}
use Rattle.list_write.proofs.PieceLaws.{log-place, log-bytes, root-few, blocks-room, closing-room, opening-done, group-done, root-done, closing-done}
use borrow.Author.Rules.{rules}
use Rattle.list_write.proofs.pieces.put_piece.Goals as goal

bounds : (run : Run) → length run.geometry.label ≡ 12 → format_number run ≡ 0 → Bounds run.geometry
bounds run label made = bounded run.geometry label (format-zero run made).0

-- what `sizes_of` gave
module _ (run : Run) {z : Sizes} (e : z ≡ sizes_in run.geometry) where
  block-is : z.block ≡ run.geometry.blocksize
  block-is = ap (λ (z : Sizes). z.block) e

  header_is : z.header ≡ header_blocks run.geometry
  header_is = ap (λ (z : Sizes). z.header) e

  head-is : z.head ≡ head_blocks run.geometry
  head-is = ap (λ (z : Sizes). z.head) e

  chunk-is : z.chunk ≡ chunk_blocks run.geometry
  chunk-is = ap (λ (z : Sizes). z.chunk) e

  closing-is : 2 + blocks_length run.geometry.blocksize (header_blocks run.geometry) + 2 ≡ 2 + blocks_length z.block z.header + 2
  closing-is = rw (block-is, header_is) refl

pub byte_of-at-requires : goal.byte_of-at-requires
byte_of-at-requires c = log-place c.args.run.geometry (bounds c.args.run (search rules) c.requires.0) _ (block-is c.args.run c.sizes_of-s.ensures)

pub overflow_mul-g : goal.overflow_mul-g
overflow_mul-g c = omega (arith, log-bytes c.args.run.geometry (bounds c.args.run (search rules) c.requires.0) _ (block-is c.args.run c.sizes_of-s.ensures))

pub put_opening-requires : goal.put_opening-requires
unfolding blocks_length
put_opening-requires c = let e = c.if-k-eq0.true in
    let g = c.args.run.geometry in
    omega (arith, c.requires.4 ∙ opening-length (sizes_in g) g.agcount c.args.k e, c.requires.3 ∙ opening-size (sizes_in g) g.agcount c.args.k e)

pub returns-then-k-eq0 : goal.returns-then-k-eq0
returns-then-k-eq0 c = opening-done c.args.run c.args.device _ _ _ c.args.k _ _ c.if-k-eq0.true (block-is c.args.run c.sizes_of-s.ensures) c.byte_of-at.ensures refl c.requires.2 c.put_opening.ensures

pub byte_of-at-requires-then-k-g : goal.byte_of-at-requires-then-k-g
byte_of-at-requires-then-k-g c = let g = c.args.run.geometry in
    rw (block-is c.args.run c.sizes_of-s.ensures) (group-room g (bounds c.args.run (search rules) c.requires.0) (c.args.k - 1) 0 (one_less c.args.k g.agcount c.if-k-eq0.false c.if-k-g.true) (omega arith))

pub put_blocks-requires : goal.put_blocks-requires
put_blocks-requires c = let g = c.args.run.geometry in
    let k = c.args.k in
    let n = c.if-k-eq0.false in
    let h = c.if-k-g.true in
    let e = c.sizes_of-s.ensures in
    let m = (bounds c.args.run (search rules) c.requires.0).places.head-most in
    blocks-room g (bounds c.args.run (search rules) c.requires.0) _ _ _ _ _ 0 _ _ (block-is c.args.run e) (head-is c.args.run e) c.byte_of-at-then-k-g.ensures (one_less k g.agcount n h) (omega arith)
    (c.requires.3 ∙ head-size (sizes_in g) g.agcount k n (λ q. n (omega arith))) (c.requires.4 ∙ group-length (sizes_in g) g.agcount k n h)

pub returns-then-k-g : goal.returns-then-k-g
returns-then-k-g c = let e = c.sizes_of-s.ensures in
    group-done c.args.run c.args.device _ _ _ c.args.k _ _ _ c.if-k-eq0.false c.if-k-g.true (block-is c.args.run e) (head-is c.args.run e) c.byte_of-at-then-k-g.ensures c.requires.2 c.requires.3 c.requires.4 c.put_blocks.ensures

pub byte_of-at-requires-then-k-g-2 : goal.byte_of-at-requires-then-k-g-2
unfolding root_chunk
byte_of-at-requires-then-k-g-2 c = let g = c.args.run.geometry in
    let f = root-few g (bounds c.args.run (search rules) c.requires.0) in
    let n = (bounds c.args.run (search rules) c.requires.0).groups.count-least in
    rw (block-is c.args.run c.sizes_of-s.ensures, c.root_chunk_of-b.ensures) (group-room g (bounds c.args.run (search rules) c.requires.0) 0 _ (omega arith) (omega arith))

pub put_blocks-requires-then-k-g-2 : goal.put_blocks-requires-then-k-g-2
unfolding root_chunk
put_blocks-requires-then-k-g-2 c = let g = c.args.run.geometry in
    let k = c.args.k in
    let h = c.if-k-g.false in
    let t = c.if-k-g-2.true in
    let e = c.sizes_of-s.ensures in
    let f = root-few g (bounds c.args.run (search rules) c.requires.0) in
    let n = (bounds c.args.run (search rules) c.requires.0).groups.count-least in
    blocks-room g (bounds c.args.run (search rules) c.requires.0) _ _ _ _ 0 _ _ _ (block-is c.args.run e) (chunk-is c.args.run e) c.byte_of-at-then-k-g-2.ensures (omega arith) (omega (arith, f, c.root_chunk_of-b.ensures))
    (c.requires.3 ∙ root-size (sizes_in g) g.agcount k (λ q. omega arith) t) (c.requires.4 ∙ root-length (sizes_in g) g.agcount k h t)

pub returns-then-k-g-2 : goal.returns-then-k-g-2
unfolding root_chunk
returns-then-k-g-2 c = let e = c.sizes_of-s.ensures in
    root-done c.args.run c.args.device _ _ _ _ c.args.k _ _ _ c.if-k-g.false c.if-k-g-2.true (block-is c.args.run e) (chunk-is c.args.run e) c.root_chunk_of-b.ensures c.byte_of-at-then-k-g-2.ensures c.requires.2 c.requires.3 c.requires.4 c.put_blocks-then-k-g-2.ensures

pub put_closing-requires : goal.put_closing-requires
put_closing-requires c = let g = c.args.run.geometry in
    let k = c.args.k in
    let h = c.if-k-g.false in
    let n = c.if-k-g-2.false in
    let e = c.sizes_of-s.ensures in
    let r = closing-room g (bounds c.args.run (search rules) c.requires.0) _ _ _ (block-is c.args.run e) (header_is c.args.run e) (c.requires.3 ∙ head-size (sizes_in g) g.agcount k (λ q. omega arith) n) in
    (r.0, r.1, r.2, c.requires.4 ∙ closing-length (sizes_in g) g.agcount k h n ∙ closing-is c.args.run e)

pub returns : goal.returns
returns c = let e = c.sizes_of-s.ensures in
    closing-done c.args.run c.args.device _ _ c.args.k _ _ c.if-k-g.false c.if-k-g-2.false (block-is c.args.run e) (header_is c.args.run e) c.requires.2 c.put_closing.ensures
