-- Bytes within the largest file end at an offset.
use Rattle.std.proofs.Common.{sym, ◌∙◌, arith}
use Rattle.std.proofs.lemmas.Grind.{common_steps}
use Rattle.list_read.proofs.Heads.{within_end}
use Rattle.applylist.proofs.output.put_bytes.Goals as goal

pub put_all-requires : goal.put_all-requires
put_all-requires c =
    let h = within_end _ _ (sym c.within.ensures ∙ c.if-not-within.false) in
    let part = c.in-Some.ensures.lookup in
    grind (arith, common_steps, h, part)
