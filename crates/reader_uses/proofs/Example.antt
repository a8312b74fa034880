-- Uses, totals and a row of the small head, computed.
-- Assumes nothing.
use mathlib.Core.Path.{◌≡◌, refl}
use Rattle.arith.specs.Choice.{when, bit}
use Rattle.arith.specs.Numbers.{ceil_div}
use Rattle.endian.specs.Bytes.{be_bytes, be_at, numbers_at, patch}
use Rattle.seqs.specs.Lists.{fold, total}
use Rattle.seqs.specs.Runs.{inside_run, has}
use Rattle.geometry.specs.Log.{header_of, prealloc_of}
use Rattle.geometry_layout.specs.Places.{agfl_size, chunk_of}
use Rattle.btree.specs.Decode.{alloc_of}
use Rattle.ag.specs.Decode.{agf_of, agi_of}
use Rattle.plan_totals.specs.Totals.{sum_to}
use Rattle.reader_decoded.specs.Decoded.{sector_at, block_at, agf_in, agi_in, entries, slots_in, list_in, numrecs_in, free_records_in, chunk_of_record, chunks_in, log_run_in}
use Rattle.reader_decoded.specs.Example.{small, small_super, small_agf, small_agi, small_list, small_roots, small_head}
use Rattle.reader_uses.specs.ByUse.{head_part, log_part, free_total, row_by_bytes}

-- block 0 is the head's
pub head-example : head_part (has 0) small ≡ 1
unfolding when bit ceil_div inside_run header_of prealloc_of small head_part
head-example = refl

-- the log is in group 3, and not in group 0
pub log-example : log_part (has 4) small small_head 3 ≡ 1
unfolding be_bytes be_at patch inside_run log_run_in small small_super small_agf small_agi small_list small_roots small_head log_part
log-example = refl

pub elsewhere-example : log_part (has 4) small small_head 0 ≡ 0
unfolding be_bytes be_at patch inside_run log_run_in small small_super small_agf small_agi small_list small_roots small_head log_part
elsewhere-example = refl

-- records of 5 and 1 blocks
pub free-example : free_total small (λ k. small_head) ≡ 6
unfolding be_bytes be_at patch alloc_of agf_of total sum_to sector_at block_at agf_in numrecs_in free_records_in small small_super small_agf small_agi small_list small_roots small_head free_total
free-example = refl

-- 32 blocks, no log, three entries, two chunks of 16 blocks, 6 blocks free, 5 in one record
pub row-example : row_by_bytes small small_head small_head 0 ≡ record { number = 0; group = 0; length = 32; log = 0; list = 3; chunk = 32; free = 6; longest = 5 }
unfolding be_bytes be_at numbers_at patch agfl_size chunk_of alloc_of agf_of agi_of fold total sector_at block_at agf_in agi_in entries slots_in list_in numrecs_in free_records_in chunk_of_record chunks_in log_run_in small small_super small_agf small_agi small_list small_roots small_head row_by_bytes
row-example = refl
