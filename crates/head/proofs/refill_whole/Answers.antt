-- `head::refill_whole` meets its contract.
-- Assumes nothing.
use Rattle.head_bytes.proofs.Ready.{length-fits, length-wrong, length-right}
use Rattle.head_bytes.specs.Head.{head_length}
use Rattle.structs.proofs.Encoded.{not-encoded, encoded}
use lib.ListN.{length}
use mathlib.Core.Path.{◌≡◌, refl, ◌∙◌}
use borrow.Author.Rules.{rules}
use Rattle.head.proofs.refill_whole.Goals as goal

pub overflow_mul-blocks : goal.overflow_mul-blocks
overflow_mul-blocks c = let l : length c.args.g.label ≡ 12 = search (rules, c.well_formed.0.1.1.1.1.1.1.1.1.1.1.1.1.1.1.1.1.1.1.1) in
    rw c.prealloc_of-blocks.ensures (search (rules, length-fits c.args.g c.args.p l c.requires.0))

pub returns-then-buf-blocks : goal.returns-then-buf-blocks
unfolding head_length
returns-then-buf-blocks c = let a = c.args in
    not-encoded (length-wrong a.g (length a.buf.now) (λ e. c.if-buf-blocks.true (e ∙ rw c.prealloc_of-blocks.ensures refl))) refl

pub refill-right-requires : goal.refill-right-requires
unfolding head_length
refill-right-requires c = (c.requires.0, c.requires.1, c.if-buf-blocks.false ∙ rw c.prealloc_of-blocks.ensures refl)

pub returns : goal.returns
unfolding head_length
returns c = let a = c.args in
    let e : length a.buf.now ≡ head_length a.g = c.if-buf-blocks.false ∙ rw c.prealloc_of-blocks.ensures refl in
    encoded (length-right a.g (length a.buf.now) e) c.refill-right.ensures.1 c.refill-right.ensures.0
