-- What a superblock's bytes name: a geometry and a UUID. No other byte is read for this, magic and checksum included.
-- Assumes nothing.
use Rattle.std.specs.Prelude.{◌≡◌, List, [], ◌∷◌, Bool, ℕ, ◌/◌, ◌%◌, eqb}
use Rattle.endian.specs.Bytes.{be_at}
use Rattle.endian.specs.Fields.{Span, part}
use Rattle.params.specs.declared.Features.{Features}
use Rattle.geometry.specs.declared.Computed.{Computed}
use Rattle.geometry_answers.specs.declared.Named.{Named}
use Rattle.geometry_answers.specs.Named.{named_answer}

-- the bit of this weight is set
unfoldable pub has_bit : ℕ → ℕ → Bool
has_bit weight n = eqb (n / weight % 2) 1

-- the known feature bits: FINOBT, RMAPBT, REFLINK and INOBTCNT of the first word, BIGTIME, NREXT64 and SPINODES of the second
unfoldable pub features_at : ℕ → ℕ → Features
features_at ro incompat =
    record {
      finobt = has_bit 1 ro;
      rmapbt = has_bit 2 ro;
      reflink = has_bit 4 ro;
      inobtcount = has_bit 8 ro;
      bigtime = has_bit 8 incompat;
      nrext64 = has_bit 0x20 incompat;
      sparse = has_bit 2 incompat;
    }

-- block count, agsize, block, sector and inode sizes, imaxpct, known feature bits and label
unfoldable pub names_at : List ℕ → Named
names_at xs =
    record {
      dblocks = be_at 8 8 xs;  -- sb_dblocks
      agsize = be_at 4 84 xs;  -- sb_agblocks
      blocksize = be_at 4 4 xs;  -- sb_blocksize
      sectsize = be_at 2 102 xs;  -- sb_sectsize
      inodesize = be_at 2 104 xs;  -- sb_inodesize
      imaxpct = be_at 1 127 xs;  -- sb_imax_pct
      features = features_at (be_at 4 212 xs) (be_at 4 216 xs);  -- sb_features_ro_compat, sb_features_incompat
      label = part 108 12 xs;  -- sb_fname
    }

-- what the geometry step answers for these under a sizing of the log, or 30 where the block count's bytes pass 64 bits
unfoldable pub named_by : Bool → List ℕ → Computed
named_by roomy xs = named_answer roomy (names_at xs)

-- sb_uuid
unfoldable pub uuid_at : List ℕ → List ℕ
uuid_at xs = part 32 16 xs

-- ---- the bytes that are read

abbrev span : ℕ → ℕ → Span
span from size = record { from = from; size = size }

-- where the named fields stand, in disk order
abbrev pub named_places : List Span
named_places = span 4 4 ∷ span 8 8 ∷ span 84 4 ∷ span 102 2 ∷ span 104 2 ∷ span 108 12 ∷ span 127 1 ∷ span 212 4 ∷ span 216 4 ∷ []

-- the same bytes in each of these places
abbrev pub Agree : List Span → List ℕ → List ℕ → Type 0
Agree [] xs ys = Unit {0}
Agree (s ∷ ss) xs ys = (part s.from s.size xs ≡ part s.from s.size ys) × Agree ss xs ys
