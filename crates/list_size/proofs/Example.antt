-- Sizes of a short list and of a disk, worked out.
-- Assumes nothing.
use mathlib.Core.Path.{◌≡◌, refl}
use mathlib.Core.List.{List, [], ◌∷◌}
use Rattle.endian.specs.Bytes.{be_bytes}
use Rattle.seqs.specs.Lists.{total}
use Rattle.list_records.specs.Records.{Record, WZ, Wb, FL, record_bytes, list_bytes}
use Rattle.list_size.specs.Sizes.{size_of}
use Rattle.list_size.specs.Closed.{closed_of}

abbrev short : List Record
short = WZ 0 131072 ∷ Wb 4096 (7 ∷ 8 ∷ 9 ∷ []) ∷ FL ∷ []

-- 18 bytes for the zeros, whatever their number; 18 and 3 for the block; 2 for the flush
pub short-size : size_of short ≡ record { number = 0; records = 3; bytes = 41; payload = 3 }
unfolding be_bytes total record_bytes list_bytes
short-size = refl

-- 1 GiB without options: 38 blocks of 4096 bytes (`example`, list_spec/proofs/Example.antt)
pub gib-size : closed_of 38 4096 ≡ record { number = 0; records = 43; bytes = 156390; payload = 155648 }
gib-size = refl
