-- `list_lengths::parts::part_of` meets its contract.
-- Assumes nothing.
use Prim.Native.Nat.{ℕ}
use mathlib.Core.Path.{◌≡◌, sym, ap, ◌∙◌}
use native.Mathlib.Omega.{arith}
use Rattle.list_lengths.specs.declared.parts.Sizes.{Sizes}
use Rattle.list_lengths.specs.Lengths.{list_sizes, split_part}
use Rattle.list_lengths.proofs.Which.{opening-size, root-size, head-size}
use Rattle.list_lengths.proofs.Fits.{Fit, all-fit, bytes_fit}
use borrow.Author.Rules.{rules}
use Rattle.list_lengths.proofs.parts.part_of.Goals.{Start}
use Rattle.list_lengths.proofs.parts.part_of.Goals as goal

fit : (s : Start) {z : Sizes} → z ≡ list_sizes s.args.f s.args.sector s.args.inode s.args.bs → Fit z
fit s e = rw e (all-fit s.args.f _ _ _ (search rules) (search rules) (search rules))

-- by the sizes that `sizes_of` gave
by-sizes : (s : Start) {z : Sizes} → z ≡ list_sizes s.args.f s.args.sector s.args.inode s.args.bs → {n : ℕ} → split_part z s.args.groups s.args.k ≡ n
    → n ≡ split_part (list_sizes s.args.f s.args.sector s.args.inode s.args.bs) s.args.groups s.args.k
by-sizes s e h = sym h ∙ ap (λ (z : Sizes). split_part z s.args.groups s.args.k) e

pub returns-then-k-eq0 : goal.returns-then-k-eq0
returns-then-k-eq0 c = by-sizes c.before.before c.sizes_of-s.ensures (opening-size _ _ _ c.if-k-eq0.true)

pub overflow_mul-result : goal.overflow_mul-result
overflow_mul-result c = let f = fit c.before.before.before.before c.sizes_of-s.ensures in omega (arith, bytes_fit _ _ f.chunk)

pub returns-then-k-groups : goal.returns-then-k-groups
returns-then-k-groups c = by-sizes c.before.before.before.before c.sizes_of-s.ensures
    (root-size _ _ _ c.if-k-eq0.false c.if-k-groups.true)

pub overflow_mul-result-2 : goal.overflow_mul-result-2
overflow_mul-result-2 c = let f = fit c.before.before.before.before c.sizes_of-s.ensures in omega (arith, bytes_fit _ _ f.head)

pub returns : goal.returns
returns c = by-sizes c.before.before.before.before c.sizes_of-s.ensures
    (head-size _ _ _ c.if-k-eq0.false c.if-k-groups.false)
