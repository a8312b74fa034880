-- `log_record::parts::header` meets its contract.
-- Assumes nothing.
use Rattle.log_record.proofs.Laws.{header-written}
use Rattle.endian.proofs.Tables.{put-table}
use Rattle.endian.proofs.Laws.{put_in}
use Rattle.endian.specs.Bytes.{patch}
use lib.ListN.{length}
use native.Mathlib.Omega.{arith}
use Prim.Native.Nat.{◌≤◌}
use mathlib.Core.Path.{◌≡◌, ap, ◌∙◌}
use borrow.Author.Rules.{rules}
use Rattle.log_record.proofs.parts.header.Goals as goal

pub returns : goal.returns
returns c = let args = c.args in
    let u : length args.uuid.now ≡ 16 = search rules in
    put_in c.put_bytes.ensures (search rules)
    ∙ ap (patch 304 args.uuid.now) (put-table 324 c.put_all.ensures (let h : 324 ≤ length args.rec.now = search rules in h) tt)
    ∙ header-written _ _ _ _ _ _ u (omega arith)
