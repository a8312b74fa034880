-- A geometry and a superblock's state out of arrays of their fields. A field takes the low bits that it has room for.
-- Assumes nothing.
use Rattle.std.specs.Prelude.{false, List, ℕ, ◌%◌, ◌^◌, eqb, get_or}
use Rattle.params.specs.declared.Features.{Features}
use Rattle.geometry.specs.declared.Geometry.{Geometry}
use Rattle.sb.specs.declared.SbState.{SbState}

-- the features are the numbers 19 to 25, 1 where one is on
unfoldable pub features_from : List ℕ → Features
features_from fields =
    record {
      finobt = eqb (get_or fields 19 0) 1;
      rmapbt = eqb (get_or fields 20 0) 1;
      reflink = eqb (get_or fields 21 0) 1;
      inobtcount = eqb (get_or fields 22 0) 1;
      bigtime = eqb (get_or fields 23 0) 1;
      nrext64 = eqb (get_or fields 24 0) 1;
      sparse = eqb (get_or fields 25 0) 1;
    }

-- the numbers in the geometry's own order; plain sizing
unfoldable pub geometry_from : List ℕ → List ℕ → Geometry
geometry_from fields label =
    record {
      blocksize = get_or fields 0 0 % 2 ^ 32;
      blocklog = get_or fields 1 0 % 2 ^ 8;
      sectsize = get_or fields 2 0 % 2 ^ 32;
      sectlog = get_or fields 3 0 % 2 ^ 8;
      lsectsize = get_or fields 4 0 % 2 ^ 32;
      lsectlog = get_or fields 5 0 % 2 ^ 8;
      inodesize = get_or fields 6 0 % 2 ^ 32;
      inodelog = get_or fields 7 0 % 2 ^ 8;
      inopblock = get_or fields 8 0 % 2 ^ 32;
      inopblog = get_or fields 9 0 % 2 ^ 8;
      dirblocklog = get_or fields 10 0 % 2 ^ 8;
      dblocks = get_or fields 11 0;
      agsize = get_or fields 12 0;
      agcount = get_or fields 13 0;
      agblklog = get_or fields 14 0 % 2 ^ 8;
      imaxpct = get_or fields 15 0 % 2 ^ 8;
      logblocks = get_or fields 16 0;
      logagno = get_or fields 17 0;
      log_agbno = get_or fields 18 0;
      features = features_from fields;
      label = label;
      roomy = false;
    }

-- rootino, rbmino, rsumino, icount, ifree, fdblocks, and 1 where it is in progress
unfoldable pub state_from : List ℕ → List ℕ → SbState
state_from numbers uuid =
    record {
      uuid = uuid;
      rootino = get_or numbers 0 0;
      rbmino = get_or numbers 1 0;
      rsumino = get_or numbers 2 0;
      icount = get_or numbers 3 0;
      ifree = get_or numbers 4 0;
      fdblocks = get_or numbers 5 0;
      inprogress = eqb (get_or numbers 6 0) 1;
    }
