-- `ag::agf::Agf::encode` meets its contract.
-- Assumes nothing.
use Rattle.ag.proofs.Orders.{agf-written}
use Rattle.ag.proofs.Held.{empty_agf, agf-stands, agf-clear}
use Rattle.ag.specs.Agf.{agf_crc_at, agf_fields, agf_bytes}
use Rattle.structs.proofs.Encoded.{not-encoded, stamps}
use Rattle.structs.proofs.Lengths.{sector-least}
use Rattle.structs.specs.Sizes.{is_sector}
use Rattle.endian.specs.Fields.{spans}
use Rattle.endian.proofs.Laws.{put_in}
use lib.ListN.{length, replicate}
use native.Mathlib.Omega.{arith}
use mathlib.Core.Bool.{true, false}
use mathlib.Core.Path.{◌≡◌, refl, sym, ◌∙◌}
use borrow.Author.Rules.{rules}
use Rattle.ag.proofs.agf.Agf.encode.Goals as goal

pub returns-then-not-is_sector : goal.returns-then-not-is_sector
returns-then-not-is_sector c = let t : is_sector (length c.args.sector.now) ≡ false = sym c.is_sector.ensures ∙ c.if-not-is_sector.true in
    not-encoded (rw t refl) refl

pub returns : goal.returns
unfolding agf_bytes
returns c = let args = c.args in
    let t : is_sector (length args.sector.now) ≡ true = sym c.is_sector.ensures ∙ c.if-not-is_sector.false in
    let l = sector-least (length args.sector.now) t in
    let u : length args.uuid.now ≡ 16 = search rules in
    let k1 = c.put32_run.auto.buf in
    let k2 = c.put_bytes.auto.buf in
    let k3 = c.put32_run-2.auto.buf in
    stamps (spans (agf_fields empty_agf (replicate 16 0))) agf_crc_at agf-clear (agf_fields args.self args.uuid.now) (agf-stands args.self args.uuid.now u) (rw t refl) (omega (arith, l)) (rw (put_in c.put64.ensures (omega (arith, l, k1, k2, k3)), put_in c.put32_run-2.ensures (omega (arith, l, k1, k2)), put_in c.put_bytes.ensures (omega (arith, l, u, k1)), put_in c.put32_run.ensures (omega (arith, l))) (agf-written args.self args.uuid.now args.sector.now)) c.stamp.ensures
