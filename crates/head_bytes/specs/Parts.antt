-- How the code goes: parts of the lent bytes, changed in their place.
-- Assumes nothing.
use Rattle.std.specs.Prelude.{Bool, cond, List, ℕ, ◌*◌, take}
use Rattle.geometry_layout.specs.Places.{cnt_block, ibt_block, fibt_block, rmap_block, refc_block}
use Rattle.ag.specs.Agf.{agf_bytes}
use Rattle.ag.specs.Agi.{agi_bytes}
use Rattle.ag.specs.Agfl.{agfl_bytes}
use Rattle.plan.specs.declared.AgPlan.{AgPlan}
use Rattle.head_frame.specs.declared.Frame.{Frame}
use Rattle.head_bytes.specs.Head.{agf_for, agi_for, ino_magic, fino_magic, bno_root, cnt_root, inode_root, rmap_root, refc_root}
use Rattle.endian.specs.Bytes.{patch}
use Rattle.endian.specs.Fields.{part}

-- xs with the n bytes from a on replaced by what f makes of them
unfoldable pub sector_on : ℕ → ℕ → (List ℕ → List ℕ) → List ℕ → List ℕ
sector_on a n f xs = patch a (f (part a n xs)) xs

-- xs with a block at a, where `on` holds
unfoldable pub block_if : Bool → ℕ → List ℕ → List ℕ → List ℕ
block_if on a new xs = cond on (patch a new xs) xs

-- AGF, AGI and free list in their sectors
unfoldable pub sectors_on : Frame → AgPlan → List ℕ → List ℕ → List ℕ
sectors_on w p uuid xs =
    sector_on (3 * w.sector) w.sector (agfl_bytes w.agno uuid 1 (take p.agfl.len p.agfl.blocks))
    (sector_on (2 * w.sector) w.sector (agi_bytes (agi_for w) uuid)
    (sector_on w.sector w.sector (agf_bytes (agf_for w p.free p.agfl.len) uuid) xs))

-- the three roots of every group in their blocks
unfoldable pub roots_on : Frame → AgPlan → List ℕ → List ℕ → List ℕ
roots_on w p uuid xs =
    patch (ibt_block w.header * w.block) (inode_root w uuid ino_magic (ibt_block w.header))
    (patch (cnt_block w.header * w.block) (cnt_root w uuid p.free)
    (patch (w.header * w.block) (bno_root w uuid p.free) xs))

-- and those of finobt, rmapbt and reflink
unfoldable pub more_on : Frame → AgPlan → List ℕ → List ℕ → List ℕ
more_on w p uuid xs =
    block_if w.features.reflink (refc_block w.features w.header * w.block) (refc_root w uuid)
    (block_if w.features.rmapbt (rmap_block w.features w.header * w.block) (rmap_root w uuid p.rmap)
    (block_if w.features.finobt (fibt_block w.header * w.block) (inode_root w uuid fino_magic (fibt_block w.header)) xs))
