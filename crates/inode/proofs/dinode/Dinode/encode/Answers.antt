-- `inode::dinode::Dinode::encode` meets its contract.
-- Assumes nothing.
use Rattle.inode.proofs.Core.{times-refuse, times-fit, times-pass, dinode-written, both_left, both_right}
use Rattle.inode.proofs.Held.{no_dinode, stands, dinode-clear}
use Rattle.inode.specs.Dinode.{inode_crc_at, dinode_number, dinode_fields, dinode_bytes}
use Rattle.structs.proofs.Encoded.{not-encoded, stamps}
use Rattle.structs.proofs.Lengths.{inode-least}
use Rattle.structs.specs.Sizes.{is_inode}
use Rattle.endian.specs.Fields.{spans}
use Rattle.endian.proofs.Laws.{put_in}
use borrow.Author.Tests.{leb-true, ne_eqb}
use lib.ListN.{length, replicate}
use lib.Dec.{leb}
use native.Mathlib.Omega.{arith}
use Prim.Native.Nat.{◌+◌}
use mathlib.Core.Bool.{true, false, ◌&&◌}
use mathlib.Core.Path.{◌≡◌, refl, sym, ◌∙◌}
use borrow.Author.Rules.{rules}
use Rattle.inode.proofs.dinode.Dinode.encode.Goals as goal

pub returns-then-n-ne0 : goal.returns-then-n-ne0
unfolding dinode_number
returns-then-n-ne0 c = let e = c.encode_times-t.ensures.number_is in
    not-encoded (times-refuse _ _ _ _ _ _ (λ z. c.if-n-ne0.true (e ∙ z)) ∙ sym e) (ne_eqb _ 0 c.if-n-ne0.true)

pub returns-then-not-has_room : goal.returns-then-not-has_room
unfolding dinode_number
returns-then-not-has_room c = let args = c.args in
    let e = c.encode_times-t.ensures.number_is in
    let f = times-fit _ _ _ _ _ (sym e ∙ c.if-n-ne0.false) in
    let t : is_inode (length args.slot.now) && leb (176 + length args.«data».now) (length args.slot.now) ≡ false = sym c.has_room.ensures ∙ c.if-not-has_room.true in
    not-encoded (times-pass _ _ _ _ _ _ f ∙ rw t refl) refl

pub put_core-requires : goal.put_core-requires
put_core-requires c = let t = sym c.has_room.ensures ∙ c.if-not-has_room.false in
    inode-least (length c.args.slot.now) (both_left _ _ t)

pub returns : goal.returns
unfolding dinode_number dinode_bytes
returns c = let args = c.args in
    let e = c.encode_times-t.ensures.number_is in
    let f = times-fit _ _ _ _ _ (sym e ∙ c.if-n-ne0.false) in
    let t : is_inode (length args.slot.now) && leb (176 + length args.«data».now) (length args.slot.now) ≡ true = sym c.has_room.ensures ∙ c.if-not-has_room.false in
    let l = inode-least (length args.slot.now) (both_left _ _ t) in
    let g = leb-true (176 + length args.«data».now) (length args.slot.now) (both_right (is_inode (length args.slot.now)) _ t) in
    let u : length args.uuid.now ≡ 16 = search rules in
    let k1 = c.put_core.auto.slot in
    let k2 = c.put_bytes.auto.buf in
    let d = args.«data».now in
    stamps (spans (dinode_fields no_dinode d (replicate 16 0))) inode_crc_at (dinode-clear args.self d args.uuid.now args.slot.now u g) (dinode_fields args.self d args.uuid.now) (stands args.self d args.uuid.now args.slot.now u g) (times-pass _ _ _ _ _ _ f ∙ rw t refl) (omega (arith, l)) (dinode-written args.self _ _ _ _ _ _ _ _ _ _ _ c.encode_times-t.ensures f c.put_core.ensures (put_in c.put_bytes.ensures (omega (arith, l, u, k1))) (put_in c.put_bytes-2.ensures (omega (arith, g, k1, k2)))) c.stamp.ensures
