-- `ag::agfl::encode_agfl` meets its contract.
-- Assumes nothing.
use Rattle.ag.proofs.Slots.{agfl-written}
use Rattle.ag.proofs.Ring.{agfl-stands, agfl-clear}
use Rattle.ag.specs.Agfl.{agfl_crc_at, agfl_number, agfl_fields, agfl_bytes}
use Rattle.structs.proofs.Encoded.{not-encoded, stamps}
use Rattle.structs.proofs.Lengths.{sector-least}
use Rattle.structs.specs.Sizes.{is_sector}
use Rattle.endian.specs.Fields.{spans}
use borrow.Author.Tests.{le-leb, lt-leb}
use lib.ListN.{length, take, replicate}
use native.Mathlib.Omega.{arith}
use mathlib.Core.Bool.{true, false}
use mathlib.Core.Path.{◌≡◌, refl, sym, ◌∙◌}
use Rattle.ag.proofs.agfl.encode_agfl.Goals as goal

pub returns-then-not-is_sector : goal.returns-then-not-is_sector
unfolding agfl_number
returns-then-not-is_sector c = let t : is_sector (length c.args.sector.now) ≡ false = sym c.is_sector.ensures ∙ c.if-not-is_sector.true in
    not-encoded (rw t refl) refl

pub returns-then-count-gt64 : goal.returns-then-count-gt64
unfolding agfl_number
returns-then-count-gt64 c = let t : is_sector (length c.args.sector.now) ≡ true = sym c.is_sector.ensures ∙ c.if-not-is_sector.false in
    not-encoded (rw (t, lt-leb _ _ c.if-count-gt64.true) refl) refl

pub put_header-requires : goal.put_header-requires
put_header-requires c = sector-least (length c.args.sector.now) (sym c.is_sector.ensures ∙ c.if-not-is_sector.false)

pub put_slots-requires : goal.put_slots-requires
put_slots-requires c = let l = sector-least (length c.args.sector.now) (sym c.is_sector.ensures ∙ c.if-not-is_sector.false) in
    (c.if-count-gt64.false, omega (arith, l, c.put_header.auto.sector))

pub returns : goal.returns
unfolding agfl_number agfl_bytes
returns c = let args = c.args in
    let t : is_sector (length args.sector.now) ≡ true = sym c.is_sector.ensures ∙ c.if-not-is_sector.false in
    let l = sector-least (length args.sector.now) t in
    let k1 = c.put_header.auto.sector in
    let list = take args.count args.list in
    let d = c.put_header.ensures in
    let u = d.1 in
    stamps (spans (agfl_fields (length args.sector.now) 0 (replicate 16 0) args.first list)) agfl_crc_at (agfl-clear args.seqno args.uuid.now args.first list args.sector.now u (omega (arith, l))) (agfl_fields (length args.sector.now) args.seqno args.uuid.now args.first list) (agfl-stands args.seqno args.uuid.now args.first list args.sector.now u (omega (arith, l))) (rw (t, le-leb _ _ c.if-count-gt64.false) refl) (omega (arith, l)) (agfl-written args.seqno args.uuid.now args.first list args.sector.now _ _ k1 d.0 c.put_slots.ensures) c.stamp.ensures
