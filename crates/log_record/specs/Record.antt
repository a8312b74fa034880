-- A log record that holds only an unmount record, field by field: `struct xlog_rec_header`, `struct xlog_op_header` and `struct
-- xfs_unmount_log_format`.
-- Assumes nothing.
use Rattle.std.specs.Prelude.{List, [], ◌∷◌, ◌++◌, cond, ℕ, zero, suc, ◌+◌, ◌*◌, ◌-◌, ◌/◌, ◌^◌, max, leb, eqb, replicate}
use Rattle.refusals.specs.Numbers.{wrong_length, sunit_too_large}
use Rattle.endian_little.specs.Bytes.{le_bytes}
use Rattle.endian.specs.Fields.{Field, field, byte_run, write_fields}
use Rattle.structs.specs.Written.{null32, require}

abbrev pub largest_sunit : ℕ
largest_sunit = 16384

-- a basic block, in bytes; the size that the header names (XLOG_BIG_RECORD_BSIZE)
abbrev pub basic_block : ℕ
basic_block = 512

abbrev pub big_record : ℕ
big_record = 32768

-- XLOG_HEADER_MAGIC_NUM, XLOG_FMT_LINUX_LE
abbrev pub header_magic : ℕ
header_magic = 0xfeed_babe

abbrev pub linux_le : ℕ
linux_le = 1

-- XLOG_UNMOUNT_TYPE, the transaction's identifier, XFS_LOG, XLOG_UNMOUNT_TRANS
abbrev pub unmount_type : ℕ
unmount_type = 0x556e

abbrev pub unmount_tid : ℕ
unmount_tid = 0xb0c0_d0d0

abbrev pub client_log : ℕ
client_log = 0xaa

abbrev pub unmount_trans : ℕ
unmount_trans = 0x20

unfoldable pub clear_sunit : ℕ → ℕ → ℕ
clear_sunit logsunit logsectsize = cond (eqb logsunit 1) logsectsize logsunit

-- a log sequence number has the cycle in its high 32 bits and the basic block in its low ones
unfoldable pub lsn_of : ℕ → ℕ → ℕ
lsn_of cycle block = cycle * 2 ^ 32 + block

unfoldable pub cycle_of : ℕ → ℕ
cycle_of lsn = lsn / 2 ^ 32

-- `a / b`, rounded up
unfoldable pub rounded_up : ℕ → ℕ → ℕ
rounded_up a b = (a + (b - 1)) / b

-- a record is the larger of 2 and (stripe unit / 512, rounded up) basic blocks
unfoldable pub basic_blocks_of : ℕ → ℕ
basic_blocks_of sunit = max 2 (rounded_up sunit basic_block)

unfoldable pub record_number : ℕ → ℕ → ℕ
record_number sunit len = require wrong_length (eqb len (basic_block * basic_blocks_of sunit)) (require sunit_too_large (leb sunit largest_sunit) 0)

-- `struct xlog_rec_header`. The unmount record's first word has moved into the cycle data. The length is that of what follows.
unfoldable pub header_fields : List ℕ → ℕ → ℕ → ℕ → List Field
header_fields uuid sunit lsn tail_lsn =
    field 0 4 header_magic  -- h_magicno
    ∷ field 4 4 (cycle_of lsn)  -- h_cycle
    ∷ field 8 4 2  -- h_version
    ∷ field 12 4 (max (2 * basic_block) sunit - basic_block)  -- h_len
    ∷ field 16 8 lsn  -- h_lsn
    ∷ field 24 8 tail_lsn  -- h_tail_lsn
    ∷ field 32 4 0  -- h_crc
    ∷ field 36 4 null32  -- h_prev_block
    ∷ field 40 4 1  -- h_num_logops
    ∷ field 44 4 unmount_tid  -- h_cycle_data, the first of 64
    ∷ field 300 4 linux_le  -- h_fmt
    ∷ byte_run 304 uuid  -- h_fs_uuid
    ∷ field 320 4 big_record  -- h_size
    ∷ []

-- The unmount record in the basic block at `at`: `struct xlog_op_header` and `struct xfs_unmount_log_format`, whose magic is little-endian.
unfoldable pub unmount_fields : ℕ → ℕ → List Field
unmount_fields at cycle =
    field at 4 cycle  -- in the place of oh_tid
    ∷ field (at + 4) 4 8  -- oh_len
    ∷ field (at + 8) 1 client_log  -- oh_clientid
    ∷ field (at + 9) 1 unmount_trans  -- oh_flags
    ∷ byte_run (at + 12) (le_bytes 2 unmount_type)  -- magic
    ∷ []

-- the first word of each of `n` basic blocks from the block `from` on is the cycle
unfoldable pub stamps : ℕ → ℕ → ℕ → List Field
stamps cycle from zero = []
stamps cycle from (suc n) = field (basic_block * from) 4 cycle ∷ stamps cycle (suc from) n

-- the header, the unmount record in the block behind it, and stamps in all others
unfoldable pub record_fields : List ℕ → ℕ → ℕ → ℕ → List Field
record_fields uuid sunit lsn tail_lsn =
    header_fields uuid sunit lsn tail_lsn ++ (unmount_fields basic_block (cycle_of lsn) ++ stamps (cycle_of lsn) 2 (basic_blocks_of sunit - 2))

-- every byte that no field names is zero
unfoldable pub log_record_bytes : List ℕ → ℕ → ℕ → ℕ → List ℕ
log_record_bytes uuid sunit lsn tail_lsn = write_fields (record_fields uuid sunit lsn tail_lsn) (replicate (basic_block * basic_blocks_of sunit) 0)
