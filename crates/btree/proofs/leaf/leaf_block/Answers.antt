-- `btree::leaf::leaf_block` meets its contract.
-- Assumes nothing.
use Rattle.btree.specs.Leaf.{leaf_number}
use Rattle.crc.proofs.Right.{right-one}
use Rattle.structs.proofs.Encoded.{not-encoded, encoded}
use Rattle.structs.proofs.Lengths.{block-least}
use Rattle.structs.specs.Sizes.{is_block}
use borrow.Author.Tests.{leb-true}
use lib.ListN.{length}
use lib.Dec.{leb}
use Prim.Native.Nat.{◌+◌}
use mathlib.Core.Bool.{true, false}
use mathlib.Core.Path.{◌≡◌, refl, sym, ◌∙◌}
use Rattle.btree.proofs.leaf.leaf_block.Goals as goal

pub returns-then-not-is_block : goal.returns-then-not-is_block
unfolding leaf_number
returns-then-not-is_block c = let t : is_block (length c.args.block.now) ≡ false = sym c.is_block.ensures ∙ c.if-not-is_block.true in
    not-encoded (rw t refl) refl

pub returns-then-not-inside : goal.returns-then-not-inside
unfolding leaf_number
returns-then-not-inside c = let args = c.args in
    let t : is_block (length args.block.now) ≡ true = sym c.is_block.ensures ∙ c.if-not-is_block.false in
    let f : leb (56 + length args.recs.now) (length args.block.now) ≡ false = sym c.inside.ensures ∙ c.if-not-inside.true in
    not-encoded (rw (t, f) refl) refl

pub fill-requires : goal.fill-requires
fill-requires c = let args = c.args in
    let t : is_block (length args.block.now) ≡ true = sym c.is_block.ensures ∙ c.if-not-is_block.false in
    (block-least (length args.block.now) t, leb-true (56 + length args.recs.now) (length args.block.now) (sym c.inside.ensures ∙ c.if-not-inside.false))

pub returns : goal.returns
unfolding leaf_number
returns c = let args = c.args in
    let t : is_block (length args.block.now) ≡ true = sym c.is_block.ensures ∙ c.if-not-is_block.false in
    let f : leb (56 + length args.recs.now) (length args.block.now) ≡ true = sym c.inside.ensures ∙ c.if-not-inside.false in
    let d = c.fill.ensures in
    encoded (rw (t, f) refl) d (right-one 52 args.block.now _ (cc))
