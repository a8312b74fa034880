-- A small head, so that every decoding is also seen on bytes: sectors of 256 bytes, blocks of 128, 4 inodes a block, and a free list that
-- goes around.
-- Assumes nothing.
use Rattle.std.specs.Prelude.{false, List, [], ◌∷◌, ◌++◌, ℕ, replicate}
use Rattle.endian.specs.Fields.{Field, field, write_fields}
use Rattle.geometry.specs.declared.Geometry.{Geometry}

-- one group, 2^5 blocks to a group's number; no formatter makes it
unfoldable pub small : Geometry
small =
    record {
      blocksize = 128;
      blocklog = 7;
      sectsize = 256;
      sectlog = 8;
      lsectsize = 256;
      lsectlog = 8;
      inodesize = 32;
      inodelog = 5;
      inopblock = 4;
      inopblog = 2;
      dirblocklog = 7;
      dblocks = 32;
      agsize = 32;
      agcount = 1;
      agblklog = 5;
      imaxpct = 0;
      logblocks = 0;
      logagno = 0;
      log_agbno = 0;
      features = record {
        finobt = false;
        rmapbt = false;
        reflink = false;
        inobtcount = false;
        bigtime = false;
        nrext64 = false;
        sparse = false;
      };
      label = replicate 12 0;
      roomy = false;
    }

-- n bytes with fields
abbrev pub written_zeros : ℕ → List Field → List ℕ
written_zeros n fs = write_fields fs (replicate n 0)

-- the log has 9 blocks from block 4 of group 3 on; 777 blocks are counted as free
unfoldable pub small_super : List ℕ
small_super = written_zeros 256 (field 48 8 100 ∷ field 96 4 9 ∷ field 136 8 61 ∷ field 144 8 777 ∷ [])

-- group 0 of 32 blocks; the roots by block and by size are blocks 8 and 9; the free list has three entries from slot 54, the last, to slot
-- 1
unfoldable pub small_agf : List ℕ
small_agf = written_zeros 256 (field 12 4 32 ∷ field 16 4 8 ∷ field 20 4 9 ∷ field 40 4 54 ∷ field 44 4 1 ∷ field 48 4 3 ∷ [])

-- the inode tree's root is block 10
unfoldable pub small_agi : List ℕ
small_agi = written_zeros 256 (field 20 4 10 ∷ [])

-- slots 0, 1, 2 and 54
unfoldable pub small_list : List ℕ
small_list = written_zeros 256 (field 36 4 22 ∷ field 40 4 23 ∷ field 44 4 24 ∷ field 252 4 21 ∷ [])

-- two free records by block and by size, and two chunks
unfoldable pub small_roots : List ℕ
small_roots =
    written_zeros 128 (field 6 2 2 ∷ field 56 4 25 ∷ field 60 4 5 ∷ field 64 4 31 ∷ field 68 4 1 ∷ [])
    ++ (written_zeros 128 (field 6 2 2 ∷ field 56 4 31 ∷ field 60 4 1 ∷ field 64 4 25 ∷ field 68 4 5 ∷ [])
    ++ written_zeros 128 (field 6 2 2 ∷ field 56 4 24 ∷ field 72 4 48 ∷ []))

unfoldable pub small_head : List ℕ
small_head = small_super ++ (small_agf ++ (small_agi ++ (small_list ++ small_roots)))
