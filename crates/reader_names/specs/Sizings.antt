-- A geometry under the other sizing of the log.
-- Assumes nothing.
use Rattle.std.specs.Prelude.{Bool, false, ℕ}
use Rattle.geometry.specs.declared.Geometry.{Geometry}

-- the geometry with this log and this sizing
abbrev pub sized : Geometry → ℕ → Bool → Geometry
sized g log roomy =
    record {
      blocksize = g.blocksize;
      blocklog = g.blocklog;
      sectsize = g.sectsize;
      sectlog = g.sectlog;
      lsectsize = g.lsectsize;
      lsectlog = g.lsectlog;
      inodesize = g.inodesize;
      inodelog = g.inodelog;
      inopblock = g.inopblock;
      inopblog = g.inopblog;
      dirblocklog = g.dirblocklog;
      dblocks = g.dblocks;
      agsize = g.agsize;
      agcount = g.agcount;
      agblklog = g.agblklog;
      imaxpct = g.imaxpct;
      logblocks = log;
      logagno = g.logagno;
      log_agbno = g.log_agbno;
      features = g.features;
      label = g.label;
      roomy = roomy;
    }

-- the geometry with the same log, in plain sizing
abbrev pub plain : Geometry → Geometry
plain g = sized g g.logblocks false
