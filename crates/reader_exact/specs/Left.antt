-- What accepted runs leave in each place; and disks that are read whole.
-- Assumes nothing.
use Rattle.std.specs.Prelude.{cond, ◌≡◌, List, ℕ, ◌<◌, length}
use Rattle.endian.specs.Bytes.{Octets}
use Rattle.geometry.specs.declared.Geometry.{Geometry}
use Rattle.geometry_answers.specs.Named.{is_answer}
use Rattle.geometry_answers.specs.Answers.{TypedGeometry}
use Rattle.list_spec.specs.Listing.{log_block, head_left}
use Rattle.list_accepted.specs.Accepted.{Source}
use Rattle.reader_names.specs.Sizings.{plain}
use Rattle.reader_exact.specs.Read.{read_group0, read_group, read_log}

-- a geometry and a UUID of their types
pub record Handed (g : Geometry) (u : List ℕ) : Type 0 where
  pub geometry : TypedGeometry g
  pub uuid-size : length u ≡ 16
  pub uuid-bytes : Octets u

-- some accepted run with this geometry and UUID leaves these bytes in group k's head
pub record HeadLeftBy (g : Geometry) (u : List ℕ) (k : ℕ) (xs : List ℕ) : Type 0 where
  pub source : Source g u
  pub group : k < g.agcount
  pub bytes : xs ≡ head_left g u k

-- some accepted run with them leaves this log block
pub record LeftLog (g : Geometry) (u xs : List ℕ) : Type 0 where
  pub source : Source g u
  pub bytes : xs ≡ log_block g u

-- some accepted run leaves these bytes in group 0's head, whatever its sizing
pub record LeftFirst (xs : List ℕ) : Type 0 where
  pub geometry : Geometry
  pub uuid : List ℕ
  pub left : HeadLeftBy geometry uuid 0 xs

-- the geometry as the reader reports it: with plain sizing where this gives the same log
unfoldable pub reported : Geometry → Geometry
reported g = cond (is_answer (plain g)) (plain g) g

-- the reader accepts group 0's head, and the other heads and the log block with what it gave
pub record ReadWhole (heads : ℕ → List ℕ) (log : List ℕ) : Type 0 where
  pub first : (read_group0 (heads 0)).number ≡ 0
  pub others : (k : ℕ) → 0 < k → k < (read_group0 (heads 0)).geometry.agcount
      → (read_group (read_group0 (heads 0)).geometry (read_group0 (heads 0)).uuid k (heads k)).number ≡ 0
  pub log-block : read_log (read_group0 (heads 0)).geometry (read_group0 (heads 0)).uuid log ≡ 0
