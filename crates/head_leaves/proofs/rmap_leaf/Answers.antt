-- `head_leaves::rmap_leaf` meets its contract.
-- Assumes nothing.
use Rattle.head_leaves.specs.Leaves.{list_number}
use Rattle.structs.proofs.Encoded.{not-encoded}
use Rattle.structs.specs.Sizes.{is_block}
use borrow.Author.Tests.{le-leb, lt-leb}
use lib.ListN.{length}
use mathlib.Core.Bool.{true, false}
use mathlib.Core.Path.{◌≡◌, refl, sym, ◌∙◌}
use Rattle.head_leaves.proofs.rmap_leaf.Goals as goal

pub returns-then-not-is_block : goal.returns-then-not-is_block
unfolding list_number
returns-then-not-is_block c = let t : is_block (length c.args.block.now) ≡ false = sym c.is_block.ensures ∙ c.if-not-is_block.true in not-encoded (rw t refl) refl

pub returns-then-l-gt64 : goal.returns-then-l-gt64
unfolding list_number
returns-then-l-gt64 c = let t : is_block (length c.args.block.now) ≡ true = sym c.is_block.ensures ∙ c.if-not-is_block.false in not-encoded (rw (t, lt-leb _ _ c.if-l-gt64.true) refl) refl

pub returns : goal.returns
unfolding list_number
returns c = let t : is_block (length c.args.block.now) ≡ true = sym c.is_block.ensures ∙ c.if-not-is_block.false in rw (t, le-leb _ _ c.if-l-gt64.false) c.put_maps.ensures
