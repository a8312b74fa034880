-- Bytes within the largest file end at an offset.
use Rattle.std.proofs.Common.{sym, ◌∙◌, arith}
use Rattle.list_read.proofs.Heads.{within_end}
use Rattle.applylist.proofs.output.hole_end.Goals as goal

pub are_zeros-requires : goal.are_zeros-requires
are_zeros-requires c = within_end _ _ (sym c.within.ensures ∙ c.if-within.true)

pub overflow_add-result : goal.overflow_add-result
overflow_add-result c = let h = within_end _ _ (sym c.within.ensures ∙ c.if-within.true) in grind (arith, h)
