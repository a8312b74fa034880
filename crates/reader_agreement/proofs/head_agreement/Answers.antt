-- `reader_agreement::head_agreement` meets its contract.
-- Assumes nothing.
use mathlib.Core.Path.{sym, ◌∙◌}
use native.Mathlib.Omega.{arith}
use Rattle.reader_agreement.proofs.Laws.{head-long, buffer-for}
use Rattle.reader_agreement.proofs.head_agreement.Goals as goal

pub returns-then-head-gt-LARGEST_HEAD : goal.returns-then-head-gt-LARGEST_HEAD
returns-then-head-gt-LARGEST_HEAD c = c.unknown.ensures ∙ head-long _ _ c.args.head.now (omega arith) _

pub slice_bounds-with_head-end : goal.slice_bounds-with_head-end
slice_bounds-with_head-end c = sym (buffer-for c.args.head.now c.large_buffer-work.result (omega arith) c.large_buffer-work.ensures)

pub with_head-requires : goal.with_head-requires
with_head-requires c = (buffer-for c.args.head.now c.large_buffer-work.result (omega arith) c.large_buffer-work.ensures, omega arith)
