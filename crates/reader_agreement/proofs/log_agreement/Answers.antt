-- `reader_agreement::log_agreement` meets its contract.
-- Assumes nothing.
use mathlib.Core.Path.{sym, ◌∙◌}
use native.Mathlib.Omega.{arith}
use Rattle.reader_agreement.proofs.Laws.{log-long, buffer-for}
use Rattle.reader_agreement.proofs.log_agreement.Goals as goal

pub returns-then-block-gt-LARGEST_HEAD : goal.returns-then-block-gt-LARGEST_HEAD
returns-then-block-gt-LARGEST_HEAD c = c.unknown.ensures ∙ log-long _ _ c.args.block.now (omega arith)

pub slice_bounds-with_log-end : goal.slice_bounds-with_log-end
slice_bounds-with_log-end c = sym (buffer-for c.args.block.now c.large_buffer-work.result (omega arith) c.large_buffer-work.ensures)

pub with_log-requires : goal.with_log-requires
with_log-requires c = (buffer-for c.args.block.now c.large_buffer-work.result (omega arith) c.large_buffer-work.ensures, omega arith)
