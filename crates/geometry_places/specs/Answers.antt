-- What each function answers: the value, or the number of the refusal.
-- Assumes nothing.
use Rattle.std.specs.Prelude.{not, cond, [], ◌∷◌, ℕ, ◌/◌, ◌%◌, ◌^◌, leb, eqb, Result, Ok, Err}
use Rattle.refusals.specs.Numbers.{no_answer, no_place}
use Rattle.refusals.specs.Table.{◌if◌, first}
use Rattle.geometry.specs.declared.Geometry.{Geometry}
use Rattle.geometry.specs.Log.{prealloc_of}
use Rattle.geometry_answers.specs.Named.{is_answer}
use Rattle.geometry_layout.specs.Places.{group_blocks, is_place, fsb_of, ino_of, daddr_of, byte_of, root_chunk_of, initial_free}
use Rattle.geometry_places.specs.declared.GroupBlock.{GroupBlock}
use Rattle.geometry_places.specs.declared.DiskAddress.{DiskAddress}
use Rattle.geometry_places.specs.declared.ByteOffset.{ByteOffset}
use Rattle.geometry_places.specs.declared.FsBlock.{FsBlock}
use Rattle.geometry_places.specs.declared.DiskAddress.{DiskAddress}
use Rattle.geometry_places.specs.declared.ByteOffset.{ByteOffset}

-- ---- refusals of places

-- the value where the number is 0, else the refusal
unfoldable pub unless64 : ℕ → ℕ → Result ℕ ℕ
unless64 n v = cond (eqb n 0) (Ok v) (Err n)

-- the group is not there
unfoldable pub group_refusal : Geometry → ℕ → ℕ
group_refusal g k =
    first (no_answer if not (is_answer g) ∷ no_place if leb g.agcount k ∷ []) 0

-- the group, or its block, is not there
unfoldable pub place_refusal : Geometry → ℕ → ℕ → ℕ
place_refusal g k b =
    first (no_answer if not (is_answer g) ∷ no_place if not (is_place g.dblocks g.agsize g.agcount k b) ∷ []) 0

-- the group, its block, or the slot is not there
unfoldable pub slot_refusal : Geometry → ℕ → ℕ → ℕ → ℕ
slot_refusal g k b slot =
    first (no_answer if not (is_answer g) ∷ no_place if not (is_place g.dblocks g.agsize g.agcount k b)
    ∷ no_place if leb g.inopblock slot ∷ []) 0

-- ---- conversions

unfoldable pub ag_blocks : Geometry → ℕ → Result ℕ ℕ
ag_blocks g k = unless64 (group_refusal g k) (group_blocks g.dblocks g.agsize g.agcount k)

unfoldable pub to_fs_block : Geometry → GroupBlock → Result FsBlock ℕ
to_fs_block g b =
    cond (eqb (place_refusal g b.0 b.1) 0)
    (Ok (record { 0 = fsb_of g.agblklog b.0 b.1 }))
    (Err (place_refusal g b.0 b.1))

unfoldable pub to_disk_address : Geometry → GroupBlock → Result DiskAddress ℕ
to_disk_address g b =
    cond (eqb (place_refusal g b.0 b.1) 0)
    (Ok (record { 0 = daddr_of g.blocksize g.agsize b.0 b.1 }))
    (Err (place_refusal g b.0 b.1))

unfoldable pub to_byte_offset : Geometry → GroupBlock → Result ByteOffset ℕ
to_byte_offset g b =
    cond (eqb (place_refusal g b.0 b.1) 0)
    (Ok (record { 0 = byte_of g.blocksize g.agsize b.0 b.1 }))
    (Err (place_refusal g b.0 b.1))

-- the group is above agblklog bits, the block below
unfoldable pub to_group_block : Geometry → FsBlock → Result GroupBlock ℕ
to_group_block g f =
    cond (eqb (place_refusal g (f.0 / 2 ^ g.agblklog) (f.0 % 2 ^ g.agblklog)) 0)
    (Ok (record { 0 = f.0 / 2 ^ g.agblklog; 1 = f.0 % 2 ^ g.agblklog }))
    (Err (place_refusal g (f.0 / 2 ^ g.agblklog) (f.0 % 2 ^ g.agblklog)))

unfoldable pub inode_number : Geometry → GroupBlock → ℕ → Result ℕ ℕ
inode_number g b slot =
    unless64 (slot_refusal g b.0 b.1 slot) (ino_of g.agblklog g.inopblog b.0 b.1 slot)

-- ---- numbers that are places

-- the log's first block
unfoldable pub log_start : Geometry → ℕ
log_start g = fsb_of g.agblklog g.logagno g.log_agbno

-- the root chunk's first block in group 0
unfoldable pub root_chunk : Geometry → ℕ
root_chunk g = root_chunk_of g.features g.sectsize g.inodesize g.blocksize

-- the root directory's inode: the first of the root chunk
unfoldable pub root_ino : Geometry → ℕ
root_ino g = ino_of g.agblklog g.inopblog 0 (root_chunk g) 0

unfoldable pub initial_fdblocks : Geometry → ℕ
initial_fdblocks g =
    initial_free g.dblocks g.agcount (prealloc_of g.features g.sectsize g.blocksize) g.logblocks
