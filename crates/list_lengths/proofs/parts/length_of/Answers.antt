-- `list_lengths::parts::length_of` meets its contract.
-- Assumes nothing.
use Prim.Native.Nat.{ℕ, ◌+◌}
use mathlib.Core.Path.{◌≡◌, sym, ap, ◌∙◌}
use native.Mathlib.Omega.{arith}
use Rattle.list_lengths.specs.declared.parts.Sizes.{Sizes}
use Rattle.list_lengths.specs.Lengths.{list_sizes, piece_list_length}
use Rattle.list_lengths.proofs.Which.{opening-length, group-length, root-length, closing-length}
use Rattle.list_lengths.proofs.Fits.{Fit, all-fit}
use borrow.Author.Rules.{rules}
use Rattle.list_lengths.proofs.parts.length_of.Goals.{Start}
use Rattle.list_lengths.proofs.parts.length_of.Goals as goal

fit : (s : Start) {z : Sizes} → z ≡ list_sizes s.args.f s.args.sector s.args.inode s.args.bs → Fit z
fit s e = rw e (all-fit s.args.f _ _ _ (search rules) (search rules) (search rules))

-- by the sizes that `sizes_of` gave
by-sizes : (s : Start) {z : Sizes} → z ≡ list_sizes s.args.f s.args.sector s.args.inode s.args.bs → {n : ℕ} → n ≡ piece_list_length z s.args.groups s.args.k
    → n ≡ piece_list_length (list_sizes s.args.f s.args.sector s.args.inode s.args.bs) s.args.groups s.args.k
by-sizes s e h = h ∙ ap (λ (z : Sizes). piece_list_length z s.args.groups s.args.k) e

pub blocks_length-requires : goal.blocks_length-requires
blocks_length-requires c = let f = fit c.before.before c.sizes_of-s.ensures in (f.block, f.one)

pub overflow_add-result : goal.overflow_add-result
overflow_add-result c = let f = fit c.before.before.before c.sizes_of-s.ensures in omega (arith, c.blocks_length.ensures, f.one)

pub returns-then-k-eq0 : goal.returns-then-k-eq0
returns-then-k-eq0 c = by-sizes c.before.before.before c.sizes_of-s.ensures
    (ap (λ (x : ℕ). 54 + x) c.blocks_length.ensures ∙ sym (opening-length _ _ _ c.if-k-eq0.true))

pub blocks_length-requires-then-k-groups : goal.blocks_length-requires-then-k-groups
blocks_length-requires-then-k-groups c = let f = fit c.before.before.before c.sizes_of-s.ensures in (f.block, f.head)

pub returns-then-k-groups : goal.returns-then-k-groups
returns-then-k-groups c = by-sizes c.before.before.before.before c.sizes_of-s.ensures
    (c.blocks_length-then-k-groups.ensures ∙ sym (group-length _ _ _ c.if-k-eq0.false c.if-k-groups.true))

pub blocks_length-requires-then-k-groups-2 : goal.blocks_length-requires-then-k-groups-2
blocks_length-requires-then-k-groups-2 c = let f = fit c.before.before.before.before c.sizes_of-s.ensures in (f.block, f.chunk)

pub returns-then-k-groups-2 : goal.returns-then-k-groups-2
returns-then-k-groups-2 c = by-sizes c.before.before.before.before.before c.sizes_of-s.ensures
    (c.blocks_length-then-k-groups-2.ensures ∙ sym (root-length _ _ _ c.if-k-groups.false c.if-k-groups-2.true))

pub blocks_length-requires-2 : goal.blocks_length-requires-2
blocks_length-requires-2 c = let f = fit c.before.before.before.before c.sizes_of-s.ensures in (f.block, f.header)

pub overflow_add-result-2 : goal.overflow_add-result-2
overflow_add-result-2 c = let f = fit c.before.before.before.before.before c.sizes_of-s.ensures in omega (arith, c.blocks_length-2.ensures, f.header)

pub overflow_add-result-3 : goal.overflow_add-result-3
overflow_add-result-3 c = let f = fit c.before.before.before.before.before c.sizes_of-s.ensures in omega (arith, c.blocks_length-2.ensures, f.header)

pub returns : goal.returns
returns c = by-sizes c.before.before.before.before.before c.sizes_of-s.ensures
    (ap (λ (x : ℕ). 2 + x + 2) c.blocks_length-2.ensures ∙ sym (closing-length _ _ _ c.if-k-groups.false c.if-k-groups-2.false))
