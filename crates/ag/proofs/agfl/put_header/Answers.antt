-- `ag::agfl::put_header` meets its contract.
-- Assumes nothing.
use Rattle.ag.proofs.Orders.{agfl-order}
use Rattle.endian.proofs.Tables.{put-table}
use Rattle.endian.proofs.Laws.{put_in}
use Rattle.endian.specs.Bytes.{patch}
use lib.ListN.{length}
use Prim.Native.Nat.{◌≤◌}
use mathlib.Core.Path.{◌≡◌, ap, ◌∙◌}
use borrow.Author.Rules.{rules}
use Rattle.ag.proofs.agfl.put_header.Goals as goal

pub returns : goal.returns
returns c = let args = c.args in
    let u : length args.uuid.now ≡ 16 = search rules in (
      put_in c.put_bytes.ensures (search rules)
          ∙ ap (patch 8 args.uuid.now) (put-table 32 c.put_all.ensures (let h : 32 ≤ length args.sector.now = search rules in h) tt)
          ∙ agfl-order _ _ _ u,
      u,
    )
