-- Two geometries are the same, as a test.
-- Assumes nothing.
use Rattle.std.specs.Prelude.{Bool, true, ◌&&◌, List, [], ◌∷◌, ℕ, zero, suc, ◌+◌, eqb, get_or}
use Rattle.arith.specs.Choice.{same_bool}
use Rattle.params.specs.declared.Features.{Features}
use Rattle.geometry.specs.declared.Geometry.{Geometry}

unfoldable pub same_features : Features → Features → Bool
same_features a b =
    (same_bool a.sparse b.sparse &&
    (same_bool a.nrext64 b.nrext64 &&
    (same_bool a.bigtime b.bigtime &&
    (same_bool a.inobtcount b.inobtcount &&
    (same_bool a.reflink b.reflink &&
    (same_bool a.rmapbt b.rmapbt &&
    (same_bool a.finobt b.finobt && true)))))))

-- the geometry's numbers, in the order of its fields
unfoldable pub numbers_of : Geometry → List ℕ
numbers_of g =
    g.blocksize
    ∷ g.blocklog
    ∷ g.sectsize
    ∷ g.sectlog
    ∷ g.lsectsize
    ∷ g.lsectlog
    ∷ g.inodesize
    ∷ g.inodelog
    ∷ g.inopblock
    ∷ g.inopblog
    ∷ g.dirblocklog
    ∷ g.dblocks
    ∷ g.agsize
    ∷ g.agcount
    ∷ g.agblklog
    ∷ g.imaxpct
    ∷ g.logblocks
    ∷ g.logagno
    ∷ g.log_agbno
    ∷ []

-- n elements from i on are the same
unfoldable pub same_from : ℕ → ℕ → List ℕ → List ℕ → Bool
same_from zero i a b = true
same_from (suc n) i a b = eqb (get_or a i 0) (get_or b i 0) && same_from n (i + 1) a b

unfoldable pub same_geometry : Geometry → Geometry → Bool
same_geometry a b =
    same_bool a.roomy b.roomy
    && (same_features a.features b.features
    && (same_from 12 0 a.label b.label && same_from 19 0 (numbers_of a) (numbers_of b)))
