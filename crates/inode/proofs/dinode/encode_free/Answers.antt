-- `inode::dinode::encode_free` meets its contract.
-- Assumes nothing.
use Rattle.inode.proofs.Held.{free-stands, free-clear}
use Rattle.inode.specs.Dinode.{inode_crc_at, free_bytes, free_fields}
use Rattle.structs.proofs.Encoded.{not-encoded, stamps}
use Rattle.structs.proofs.Lengths.{inode-least}
use Rattle.structs.specs.Sizes.{is_inode}
use Rattle.endian.specs.Fields.{spans}
use Rattle.endian.proofs.Tables.{put-table}
use Rattle.endian.proofs.Laws.{put_in}
use Rattle.endian.specs.Bytes.{patch}
use lib.ListN.{length, replicate}
use native.Mathlib.Omega.{arith}
use Prim.Native.Nat.{◌≤◌}
use mathlib.Core.Bool.{true, false}
use mathlib.Core.Path.{◌≡◌, refl, ap, sym, ◌∙◌}
use borrow.Author.Rules.{rules}
use Rattle.inode.proofs.dinode.encode_free.Goals as goal

pub returns-then-not-is_inode : goal.returns-then-not-is_inode
returns-then-not-is_inode c = let t : is_inode (length c.args.slot.now) ≡ false = sym c.is_inode.ensures ∙ c.if-not-is_inode.true in
    not-encoded (rw t refl) refl

pub returns : goal.returns
unfolding free_bytes free_fields
returns c = let args = c.args in
    let t : is_inode (length args.slot.now) ≡ true = sym c.is_inode.ensures ∙ c.if-not-is_inode.false in
    let l = inode-least (length args.slot.now) t in
    let u : length args.uuid.now ≡ 16 = search rules in
    let k1 = c.put_all.auto.buf in
    let w = args.uuid.now in
    let h : 176 ≤ length args.slot.now = omega (arith, l) in
    stamps (spans (free_fields 0 0 (replicate 16 0))) inode_crc_at (free-clear args.ino args.generation w args.slot.now u h) (free_fields args.ino args.generation w) (free-stands args.ino args.generation w args.slot.now u h) (rw t refl) (omega (arith, l)) (put_in c.put_bytes.ensures (omega (arith, l, u, k1)) ∙ ap (patch 160 args.uuid.now) (put-table 160 c.put_all.ensures (let h : 160 ≤ length args.slot.now = omega (arith, l) in h) tt)) c.stamp.ensures
