-- `geometry::Geometry::compute` meets its contract.
-- Assumes nothing.
use mathlib.Core.Path.{sym, ◌∙◌}
use Rattle.geometry.specs.Compute.{geometry_of, compute_def}
use Rattle.geometry.proofs.Answer.{accepted, refused}
use Rattle.geometry.proofs.Geometry.compute.Goals as goal

pub returns-then-number-eq0 : goal.returns-then-number-eq0
unfolding compute_def
returns-then-number-eq0 c = let r = c.refusal-number in
    sym (accepted r.result c.built-geometry.result c.if-number-eq0.true) ∙ rw (c.built-geometry.ensures, r.ensures, c.choose-c.ensures)

pub returns-else-number-eq0 : goal.returns-else-number-eq0
unfolding compute_def
returns-else-number-eq0 c = let r = c.refusal-number in
    rw c.zero-geometry.ensures
    (sym (refused r.result (geometry_of c.args.params c.choose-c.result) c.if-number-eq0.false)
    ∙ rw (r.ensures, c.choose-c.ensures))
