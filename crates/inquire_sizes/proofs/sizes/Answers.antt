-- `inquire_sizes::sizes` meets its contract: the question's own number first, then what the loop finds.
-- Assumes nothing.
use mathlib.Core.Path.{◌≡◌, sym, ◌∙◌}
use Prim.Native.Nat.{◌/◌, ◌^◌, ◌<◌}
use native.Mathlib.Omega.{arith}
use lib.ListN.{length}
use Rattle.geometry.specs.Sizes.{sizes_of}
use Rattle.inquire_sizes.specs.Ranges.{block_bytes, sizes_question}
use Rattle.inquire_sizes.proofs.Asked.{question-refused, in_order, ends-fit, range-found}
use borrow.Author.Rules.{rules}
use Rattle.inquire_sizes.proofs.sizes.Goals as goal

pub returns-then-n-ne0 : goal.returns-then-n-ne0
unfolding sizes_question sizes_of
returns-then-n-ne0 c = let a = c.args in
    let e : c.or_next-n.result ≡ sizes_question a.p a.logical a.physical (a.smallest / block_bytes a.p) (a.largest / block_bytes a.p) =
    c.or_next-n.ensures
    ∙ rw (c.first.ensures, c.no_range.ensures, c.quotient-to.ensures, c.quotient-from.ensures, c.chosen_sizes-s.ensures, c.options_number-early.ensures)
    in
    c.refused.ensures ∙ question-refused a.p a.logical a.physical a.smallest a.largest c.or_next-n.result e c.if-n-ne0.true

pub scan-requires : goal.scan-requires
unfolding sizes_question sizes_of
scan-requires c = let a = c.args in
    let e : c.or_next-n.result ≡ sizes_question a.p a.logical a.physical (a.smallest / block_bytes a.p) (a.largest / block_bytes a.p) =
    c.or_next-n.ensures
    ∙ rw (c.first.ensures, c.no_range.ensures, c.quotient-to.ensures, c.quotient-from.ensures, c.chosen_sizes-s.ensures, c.options_number-early.ensures)
    in
    let z = sym e ∙ c.if-n-ne0.false in
    let h : a.largest < 2 ^ 64 = search rules in
    rw (c.quotient-to.ensures, c.quotient-from.ensures, c.chosen_sizes-s.ensures)
    (in_order a.p a.logical a.physical a.smallest a.largest z, ends-fit a.p a.logical a.physical a.smallest a.largest z h)

pub returns : goal.returns
unfolding sizes_question sizes_of
returns c = let a = c.args in
    let e : c.or_next-n.result ≡ sizes_question a.p a.logical a.physical (a.smallest / block_bytes a.p) (a.largest / block_bytes a.p) =
    c.or_next-n.ensures
    ∙ rw (c.first.ensures, c.no_range.ensures, c.quotient-to.ensures, c.quotient-from.ensures, c.chosen_sizes-s.ensures, c.options_number-early.ensures)
    in
    let z = sym e ∙ c.if-n-ne0.false in
    let h : a.largest < 2 ^ 64 = omega (arith, c.ranges.largest) in
    let l : length a.p.label.bytes ≡ 12 = search (rules, c.well_formed.0.1.1.1.1.1.1.1) in
    c.scan.ensures
    ∙ rw (c.fixed_of-f.ensures, c.quotient-to.ensures, c.quotient-from.ensures, c.chosen_sizes-s.ensures)
    (range-found a.p a.logical a.physical a.smallest a.largest z l h)
