-- `ag::agi::Agi::encode` meets its contract.
-- Assumes nothing.
use Rattle.ag.proofs.Orders.{agi-written}
use Rattle.ag.proofs.Held.{empty_agi, agi-stands, agi-clear}
use Rattle.ag.specs.Agi.{agi_crc_at, agi_fields, agi_bytes}
use Rattle.structs.proofs.Encoded.{not-encoded, stamps}
use Rattle.structs.proofs.Lengths.{sector-least}
use Rattle.structs.specs.Sizes.{is_sector}
use Rattle.endian.specs.Fields.{spans}
use Rattle.endian.proofs.Laws.{put_in}
use lib.ListN.{length, replicate}
use native.Mathlib.Omega.{arith}
use mathlib.Core.Bool.{true, false}
use mathlib.Core.Path.{◌≡◌, refl, sym, ◌∙◌}
use Rattle.ag.proofs.agi.Agi.encode.Goals as goal

pub returns-then-not-is_sector : goal.returns-then-not-is_sector
returns-then-not-is_sector c = let t : is_sector (length c.args.sector.now) ≡ false = sym c.is_sector.ensures ∙ c.if-not-is_sector.true in
    not-encoded (rw t refl) refl

pub put_prefix-requires : goal.put_prefix-requires
put_prefix-requires c = let args = c.args in
    let t : is_sector (length args.sector.now) ≡ true = sym c.is_sector.ensures ∙ c.if-not-is_sector.false in
    sector-least (length args.sector.now) t

pub returns : goal.returns
unfolding agi_bytes
returns c = let args = c.args in
    let t : is_sector (length args.sector.now) ≡ true = sym c.is_sector.ensures ∙ c.if-not-is_sector.false in
    let l = sector-least (length args.sector.now) t in
    let k1 = c.put_prefix.auto.sector in
    let k2 = c.put64.auto.buf in
    let d = c.put_prefix.ensures in
    stamps (spans (agi_fields empty_agi (replicate 16 0))) agi_crc_at agi-clear (agi_fields args.self args.uuid.now) (agi-stands args.self args.uuid.now d.1) (rw t refl) (omega (arith, l)) (rw (put_in c.put32_run.ensures (omega (arith, l, k1, k2)), put_in c.put64.ensures (omega (arith, l, k1))) (agi-written args.self args.uuid.now args.sector.now _ d.0)) c.stamp.ensures
