-- `ag::agi::put_prefix` meets its contract.
-- Assumes nothing.
use Rattle.ag.proofs.Orders.{prefix-written}
use Rattle.endian.proofs.Laws.{put_in}
use lib.ListN.{length}
use native.Mathlib.Omega.{arith}
use mathlib.Core.Path.{◌≡◌}
use borrow.Author.Rules.{rules}
use Rattle.ag.proofs.agi.put_prefix.Goals as goal

pub returns : goal.returns
returns c = let args = c.args in
    let u : length args.uuid.now ≡ 16 = search rules in
    let v : length args.prefix ≡ 10 = search rules in
    let l = c.requires in
    let k1 = c.put32_run.auto.buf in
    let k2 = c.put_same.auto.buf in
    (rw (put_in c.put_bytes.ensures (omega (arith, l, u, k1, k2)), put_in c.put_same.ensures (omega (arith, l, k1)), put_in c.put32_run.ensures (omega (arith, l, v))) (prefix-written args.prefix args.uuid.now args.sector.now), u)
