-- The same in closed form, from the geometry alone.
-- Assumes nothing.
use Rattle.std.specs.Prelude.{ℕ, ◌+◌, ◌*◌}
use Rattle.geometry.specs.declared.Geometry.{Geometry}
use Rattle.list_spec.specs.Listing.{block_count}
use Rattle.list_size.specs.declared.ListSize.{ListSize}

-- no list has more blocks: 2^32 − 2 groups with heads of 10, a piece of 32, 4 header blocks, and the log's first
abbrev pub most_blocks : ℕ
most_blocks = 42949672977

-- w blocks of bs bytes, each behind its mark, offset and length of 18 bytes; three WZ of 18 bytes, and two FL of 2
abbrev pub closed_of : ℕ → ℕ → ListSize
closed_of w bs = record { number = 0; records = w + 5; bytes = 58 + w * (18 + bs); payload = w * bs }

-- w is 1 + groups × head + piece + header blocks
abbrev pub closed_size : Geometry → ListSize
closed_size g = closed_of (block_count g) g.blocksize
