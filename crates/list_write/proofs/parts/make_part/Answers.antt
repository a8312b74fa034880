-- `list_write::parts::make_part` meets its contract.
-- Assumes nothing.
use Prim.Native.Nat.{◌-◌}
use mathlib.Core.Path.{◌≡◌, sym, ◌∙◌}
use native.Mathlib.Omega.{arith}
use lib.ListN.{length}
use Rattle.list_lengths.proofs.Which.{opening-size, root-size, head-size}
use Rattle.plan_totals.specs.Totals.{plans_number}
use Rattle.list_lengths.specs.Pieces.{sizes_in}
use Rattle.list_lengths.proofs.Numbers.{format-zero}
use Rattle.list_write.proofs.Accepted.{log-made, group-made, finished-made}
use Rattle.list_write.proofs.Which.{one_less, opening-part, group-part, root-part, closing-part}
use borrow.Author.Rules.{rules}
use Rattle.list_write.proofs.parts.make_part.Goals.{Start}
use Rattle.list_write.proofs.parts.make_part.Goals as goal

label : (s : Start) → length s.args.run.geometry.label ≡ 12
label s = search rules

plans : (s : Start) → plans_number s.args.run.geometry ≡ 0
plans s = (format-zero s.args.run s.requires.0).0

pub returns-then-k-eq0 : goal.returns-then-k-eq0
returns-then-k-eq0 c = let g = c.args.run.geometry in
    let e = c.if-k-eq0.true in
    log-made g (label c.before.before.before.before.before.before.before.before.before) (plans c.before.before.before.before.before.before.before.before.before) _ _ _ (c.requires.2 ∙ opening-size (sizes_in g) g.agcount c.args.k e) c.log_block.ensures ∙ sym (opening-part c.args.run c.args.k e)

pub returns-then-k-g : goal.returns-then-k-g
returns-then-k-g c = let g = c.args.run.geometry in
    let k = c.args.k in
    let n = c.if-k-eq0.false in
    let h = c.if-k-g.true in
    group-made g (label c.before.before.before.before.before.before.before.before.before.before.before) (plans c.before.before.before.before.before.before.before.before.before.before.before) _ (k - 1) _ _ (one_less k g.agcount n h) (c.requires.2 ∙ head-size (sizes_in g) g.agcount k n (λ q. n (omega arith))) c.head_written.ensures.written
    ∙ sym (group-part c.args.run k n h)

pub make_root-requires : goal.make_root-requires
make_root-requires c = (c.requires.0, c.requires.2 ∙ root-size (sizes_in c.args.run.geometry) c.args.run.geometry.agcount c.args.k c.if-k-eq0.false c.if-k-g-2.true)

pub returns-then-k-g-2 : goal.returns-then-k-g-2
returns-then-k-g-2 c = c.make_root.ensures ∙ sym (root-part c.args.run c.args.k c.if-k-g.false c.if-k-g-2.true)

pub returns : goal.returns
returns c = let g = c.args.run.geometry in
    let k = c.args.k in
    let n = c.if-k-g-2.false in
    finished-made g (label c.before.before.before.before.before.before.before.before.before.before.before.before.before) (plans c.before.before.before.before.before.before.before.before.before.before.before.before.before) _ _ _ (c.requires.2 ∙ head-size (sizes_in g) g.agcount k c.if-k-eq0.false n) c.head_left.ensures.written
    ∙ sym (closing-part c.args.run k c.if-k-g.false n)
