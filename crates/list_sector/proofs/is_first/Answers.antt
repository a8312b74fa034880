-- `list_sector::is_first` meets its contract.
-- Assumes nothing.
use mathlib.Core.Path.{refl}
use Rattle.list_sector.specs.Sector.{begins_superblock}
use Rattle.list_sector.proofs.is_first.Goals as goal

pub returns : goal.returns
unfolding begins_superblock
returns c = rw (c.both.ensures, c.both-start.ensures, c.both-marks.ensures, c.word_at.ensures, c.long_at.ensures, c.half_at-2.ensures, c.half_at.ensures) refl
