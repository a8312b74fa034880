-- How many header sectors the XFS document gives a record, and a record's bytes sector by sector where there is one.
-- Assumes nothing.
use Rattle.std.specs.Prelude.{◌≡◌, List, [], ◌++◌, ℕ, zero, suc, ◌*◌, ◌-◌, max, length, replicate}
use Rattle.endian.specs.Bytes.{be_at}
use Rattle.endian.specs.Fields.{Field, write_fields}
use Rattle.log_record.specs.Record.{basic_block, big_record, cycle_of, rounded_up, basic_blocks_of, header_fields, unmount_fields, stamps, log_record_bytes}

-- a header sector for each 32,768 bytes of the stripe unit, at least one
unfoldable pub headers_of : ℕ → ℕ
headers_of sunit = max 1 (rounded_up sunit 32768)

-- a sector of zeros with these fields
abbrev pub sector : List Field → List ℕ
sector fs = write_fields fs (replicate basic_block 0)

-- the same bytes `n` times
unfoldable pub repeated : ℕ → List ℕ → List ℕ
repeated zero xs = []
repeated (suc n) xs = xs ++ repeated n xs

-- A record with one header sector: the count; its bytes, which are that sector, the unmount record's sector, and sectors of zeros
-- but for the cycle in each first word; and the two header fields in which the count or the unit stands, h_len and h_size.
pub record OneHeader (uuid : List ℕ) (sunit lsn tail_lsn : ℕ) : Type 0 where
  pub headers : headers_of sunit ≡ 1
  pub sectors : log_record_bytes uuid sunit lsn tail_lsn
      ≡ sector (header_fields uuid sunit lsn tail_lsn)
      ++ (sector (unmount_fields 0 (cycle_of lsn)) ++ repeated (basic_blocks_of sunit - 2) (sector (stamps (cycle_of lsn) 0 1)))
  pub each : (fs : List Field) → length (sector fs) ≡ basic_block
  pub len : be_at 4 12 (log_record_bytes uuid sunit lsn tail_lsn) ≡ max (2 * basic_block) sunit - basic_block * headers_of sunit
  pub size : be_at 4 320 (log_record_bytes uuid sunit lsn tail_lsn) ≡ max sunit big_record
