-- `head::roots::by_size` meets its contract.
-- Assumes nothing.
use Rattle.head_bytes.proofs.Sorting.{few-sorted, two-sorted, two-swapped}
use lib.ListN.{length}
use native.Mathlib.Omega.{arith}
use mathlib.Core.Path.{◌≡◌, refl, sym, ◌∙◌}
use borrow.Author.Rules.{rules}
use Rattle.head.proofs.roots.by_size.Goals as goal

pub returns-then-l-lt2 : goal.returns-then-l-lt2
returns-then-l-lt2 c = (refl, few-sorted c.args.l.len c.args.l.recs c.if-l-lt2.true)

pub returns-then-comes_first : goal.returns-then-comes_first
returns-then-comes_first c = let k : length c.args.l.recs ≡ 64 = search rules in let e : c.args.l.len ≡ 2 = omega (arith, c.requires, c.if-l-lt2.false) in (refl, rw e (two-sorted c.args.l.recs (omega arith) (sym c.comes_first.ensures ∙ c.if-comes_first.true)))

pub returns : goal.returns
returns c = let k : length c.args.l.recs ≡ 64 = search rules in let e : c.args.l.len ≡ 2 = omega (arith, c.requires, c.if-l-lt2.false) in (refl, rw e (two-swapped c.args.l.recs (omega arith) (sym c.comes_first.ensures ∙ c.if-comes_first.false)))
