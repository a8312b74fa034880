-- The stamped parts of a head and of a root chunk, each by the bytes of its own.
-- Assumes nothing.
use Rattle.std.specs.Prelude.{Bool, ◌&&◌, List, ℕ, ◌+◌, ◌*◌}
use Rattle.arith.specs.Choice.{bit}
use Rattle.params.specs.declared.Features.{Features}
use Rattle.crc.specs.Means.{part_right, parts_right}
use Rattle.btree.specs.Leaf.{leaf_crc_at}
use Rattle.ag.specs.Agf.{agf_crc_at}
use Rattle.ag.specs.Agi.{agi_crc_at}
use Rattle.ag.specs.Agfl.{agfl_crc_at}
use Rattle.inode.specs.Dinode.{inode_crc_at}
use Rattle.sb.specs.Superblock.{crc_at}

-- superblock, AGF, AGI and free list in their sectors, and the roots in their blocks behind the header blocks
unfoldable pub head_right : ℕ → ℕ → ℕ → Features → List ℕ → List ℕ → Bool
head_right header sector block f before after =
    part_right crc_at 0 sector before after
    && (part_right agf_crc_at sector sector before after
    && (part_right agi_crc_at (2 * sector) sector before after
    && (part_right agfl_crc_at (3 * sector) sector before after
    && parts_right leaf_crc_at (header * block) block (3 + bit f.finobt + bit f.rmapbt + bit f.reflink) before after)))

-- 64 inodes
unfoldable pub inodes_right : ℕ → List ℕ → List ℕ → Bool
inodes_right size before after = parts_right inode_crc_at 0 size 64 before after
