-- `struct xfs_agfl`: a header, and behind it a ring of slots up to the end of the sector.
-- Assumes nothing.
use Rattle.std.specs.Prelude.{List, [], ◌∷◌, ◌++◌, ℕ, suc, ◌-◌, ◌/◌, ◌%◌, leb, length, set, replicate}
use Rattle.refusals.specs.Numbers.{wrong_length, too_many_records}
use Rattle.endian.specs.Bytes.{numbers_bytes}
use Rattle.endian.specs.Fields.{Field, field, byte_run, write_fields}
use Rattle.crc.specs.Crc.{stamped}
use Rattle.structs.specs.Sizes.{is_sector}
use Rattle.structs.specs.Written.{null32, require}

-- "XAFL"
abbrev pub agfl_magic : ℕ
agfl_magic = 0x5841_464c

-- where the checksum, agfl_crc, stands
abbrev pub agfl_crc_at : ℕ
agfl_crc_at = 32

unfoldable pub agfl_number : ℕ → ℕ → ℕ
agfl_number count len = require wrong_length (is_sector len) (require too_many_records (leb count 64) 0)

-- the slots of 4 bytes behind the header
abbrev pub slots_of : ℕ → ℕ
slots_of len = (len - 36) / 4

-- the blocks go into the slots of the ring of `n`, the first into slot `first`, and around at the end
abbrev pub placed : ℕ → ℕ → List ℕ → List ℕ → List ℕ
placed n first [] slots = slots
placed n first (b ∷ bs) slots = placed n (suc first) bs (set slots (first % n) b)

unfoldable pub agfl_header : ℕ → List ℕ → List Field
agfl_header seqno uuid =
    field 0 4 agfl_magic  -- agfl_magicnum
    ∷ field 4 4 seqno  -- agfl_seqno
    ∷ byte_run 8 uuid  -- agfl_uuid
    ∷ field 24 8 0  -- agfl_lsn
    ∷ []

-- agfl_bno: every slot that no block is put into is null
unfoldable pub agfl_slots : ℕ → ℕ → List ℕ → List Field
agfl_slots len first list = byte_run 36 (numbers_bytes 4 (placed (slots_of len) first list (replicate (slots_of len) null32))) ∷ []

unfoldable pub agfl_fields : ℕ → ℕ → List ℕ → ℕ → List ℕ → List Field
agfl_fields len seqno uuid first list = agfl_header seqno uuid ++ agfl_slots len first list

-- the fields over the old bytes, and then the checksum
unfoldable pub agfl_bytes : ℕ → List ℕ → ℕ → List ℕ → List ℕ → List ℕ
agfl_bytes seqno uuid first list xs = stamped agfl_crc_at (write_fields (agfl_fields (length xs) seqno uuid first list) xs)
