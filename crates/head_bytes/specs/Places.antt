-- Where the checksums of a head stand.
-- Assumes nothing.
use Rattle.std.specs.Prelude.{List, ◌∷◌, ℕ, ◌+◌, ◌*◌}
use Rattle.arith.specs.Choice.{bit}
use Rattle.params.specs.declared.Features.{Features}
use Rattle.crc.specs.Right.{spaced}
use Rattle.btree.specs.Leaf.{leaf_crc_at}
use Rattle.ag.specs.Agf.{agf_crc_at}
use Rattle.ag.specs.Agi.{agi_crc_at}
use Rattle.ag.specs.Agfl.{agfl_crc_at}
use Rattle.sb.specs.Superblock.{crc_at}
use Rattle.geometry.specs.declared.Geometry.{Geometry}
use Rattle.geometry.specs.Log.{header_of}

-- superblock, AGF, AGI and free list, each in its sector; and the roots, each in its block behind the header blocks: three, and one more
-- for each of finobt, rmapbt and reflink
unfoldable pub places_of : ℕ → ℕ → ℕ → Features → List ℕ
places_of header sector block f =
    crc_at
    ∷ ((sector + agf_crc_at)
    ∷ ((2 * sector + agi_crc_at)
    ∷ ((3 * sector + agfl_crc_at)
    ∷ spaced (header * block + leaf_crc_at) block (3 + bit f.finobt + bit f.rmapbt + bit f.reflink))))

unfoldable pub head_places : Geometry → List ℕ
head_places g = places_of (header_of g.sectsize g.blocksize) g.sectsize g.blocksize g.features
