-- What the bytes of the small head say, computed.
-- Assumes nothing.
use mathlib.Core.Path.{◌≡◌, refl}
use mathlib.Core.List.{[], ◌∷◌}
use Rattle.endian.specs.Bytes.{be_bytes, be_at, numbers_at, patch}
use Rattle.geometry_layout.specs.Places.{agfl_size}
use Rattle.btree.specs.Decode.{alloc_of}
use Rattle.ag.specs.Decode.{agf_of, agi_of}
use Rattle.reader_decoded.specs.Decoded.{sector_at, block_at, agf_in, agi_in, entries, slots_in, list_in, numrecs_in, free_records_in, chunk_of_record, chunks_in, log_run_in, count_in}
use Rattle.reader_decoded.specs.Example.{small, small_super, small_agf, small_agi, small_list, small_roots, small_head}

-- three entries, around the ring's end
pub list-example : list_in small small_head ≡ 21 ∷ 22 ∷ 23 ∷ []
unfolding be_bytes be_at numbers_at patch agfl_size agf_of sector_at agf_in entries slots_in list_in small small_super small_agf small_agi small_list small_roots small_head
list-example = refl

-- two records, by block
pub free-example : free_records_in small small_head ≡ record { start = 25; count = 5 } ∷ record { start = 31; count = 1 } ∷ []
unfolding be_bytes be_at patch alloc_of agf_of sector_at block_at agf_in numrecs_in free_records_in small small_super small_agf small_agi small_list small_roots small_head
free-example = refl

-- inodes 24 and 48, four to a block
pub chunk-example : chunks_in small small_head ≡ 6 ∷ 12 ∷ []
unfolding be_bytes be_at patch agi_of sector_at block_at agi_in numrecs_in chunk_of_record chunks_in small small_super small_agf small_agi small_list small_roots small_head
chunk-example = refl

pub log-example : log_run_in small small_head ≡ record { group = 3; at = 4; blocks = 9 }
unfolding be_bytes be_at patch log_run_in small small_super small_agf small_agi small_list small_roots small_head
log-example = refl

pub count-example : count_in small_head ≡ 777
unfolding be_bytes be_at patch count_in small_super small_agf small_agi small_list small_roots small_head
count-example = refl
