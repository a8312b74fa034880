-- `same_geometry` holds exactly of equal geometries.
-- Assumes nothing.
use mathlib.Core.Path.{◌≡◌, refl, sym, subst, ◌∙◌}
use mathlib.Core.Bool.{Bool, true, false}
use mathlib.Core.List.{List}
use Prim.Native.Nat.{ℕ, zero, suc, ◌+◌, ◌<◌}
use native.Mathlib.Omega.{arith}
use native.Mathlib.Nat.{add-zero, zero-add, not-suc-le-zero}
use borrow.Author.Tests.{eq-eqb, eqb-true}
use lib.Dec.{eqb}
use lib.ListN.{length, get_or}
use lib.Seq.{ext_get_or}
use Rattle.std.specs.Bool.{Decides}
use Rattle.arith.specs.Choice.{same_bool}
use Rattle.arith.proofs.Both.{left-true, right-true}
use Rattle.params.specs.declared.Features.{Features}
use Rattle.geometry.specs.declared.Geometry.{Geometry}
use Rattle.geometry_answers.specs.Same.{same_features, numbers_of, same_from, same_geometry}

-- ---- the test holds of equal geometries

bool-refl : (a : Bool) → same_bool a a ≡ true
bool-refl true = refl
bool-refl false = refl

features-refl : (a : Features) → same_features a a ≡ true
unfolding same_features
features-refl a = simp bool-refl

from-refl : (n i : ℕ) (a : List ℕ) → same_from n i a a ≡ true
unfolding same_from
from-refl zero i a = refl
from-refl (suc n) i a = rw (eq-eqb (get_or a i 0) (get_or a i 0) refl) (from-refl n (i + 1) a)

pub geometry-refl : (a : Geometry) → same_geometry a a ≡ true
unfolding same_geometry
geometry-refl a = rw (bool-refl, features-refl, from-refl 12, from-refl 19)

-- ---- geometries of which the test holds are equal

bool_same : (a b : Bool) → same_bool a b ≡ true → a ≡ b
bool_same true b h = sym h
bool_same false true h = h
bool_same false false h = refl

from-same : (n i : ℕ) (a b : List ℕ) → same_from n i a b ≡ true → (k : ℕ) → k < n → get_or a (i + k) 0 ≡ get_or b (i + k) 0
unfolding same_from
from-same zero i a b h k l = absurd (not-suc-le-zero l)
from-same (suc n) i a b h zero l =
    rw add-zero (eqb-true (get_or a i 0) (get_or b i 0) (left-true _ (same_from n (i + 1) a b) h))
from-same (suc n) i a b h (suc k) l =
    let e : i + suc k ≡ i + 1 + k = omega arith in
    rw e (from-same n (i + 1) a b (right-true (eqb (get_or a i 0) (get_or b i 0)) _ h) k (omega arith))

label_same : (a b : List ℕ) → length a ≡ 12 → length b ≡ 12 → same_from 12 0 a b ≡ true → a ≡ b
label_same a b x y h =
    ext_get_or 0 a b (x ∙ sym y) (λ i l. subst (λ (k : ℕ). get_or a k 0 ≡ get_or b k 0) (zero-add i) (from-same 12 0 a b h i (omega arith)))

-- so the test decides whether two labels are equal
pub label-decides : (a b : List ℕ) → length a ≡ 12 → length b ≡ 12 → Decides (same_from 12 0 a b) (a ≡ b)
label-decides a b x y = (label_same a b x y, λ e. rw e (from-refl 12 0 b))

features-same : (a b : Features) → same_features a b ≡ true → a ≡ b
unfolding same_features
features-same a b h0 =
    let e0 = bool_same a.sparse b.sparse (left-true (same_bool a.sparse b.sparse) _ h0) in
    let h1 = right-true (same_bool a.sparse b.sparse) _ h0 in
    let e1 = bool_same a.nrext64 b.nrext64 (left-true (same_bool a.nrext64 b.nrext64) _ h1) in
    let h2 = right-true (same_bool a.nrext64 b.nrext64) _ h1 in
    let e2 = bool_same a.bigtime b.bigtime (left-true (same_bool a.bigtime b.bigtime) _ h2) in
    let h3 = right-true (same_bool a.bigtime b.bigtime) _ h2 in
    let e3 = bool_same a.inobtcount b.inobtcount (left-true (same_bool a.inobtcount b.inobtcount) _ h3) in
    let h4 = right-true (same_bool a.inobtcount b.inobtcount) _ h3 in
    let e4 = bool_same a.reflink b.reflink (left-true (same_bool a.reflink b.reflink) _ h4) in
    let h5 = right-true (same_bool a.reflink b.reflink) _ h4 in
    let e5 = bool_same a.rmapbt b.rmapbt (left-true (same_bool a.rmapbt b.rmapbt) _ h5) in
    let h6 = right-true (same_bool a.rmapbt b.rmapbt) _ h5 in
    let e6 = bool_same a.finobt b.finobt (left-true (same_bool a.finobt b.finobt) _ h6) in
    λ i. record { finobt = e6 i; rmapbt = e5 i; reflink = e4 i; inobtcount = e3 i; bigtime = e2 i; nrext64 = e1 i; sparse = e0 i }

-- the k-th number of both
abbrev At : Geometry → Geometry → ℕ → Type 0
At a b k = get_or (numbers_of a) (0 + k) 0 ≡ get_or (numbers_of b) (0 + k) 0

geometry-same : (a b : Geometry) → a.roomy ≡ b.roomy → a.features ≡ b.features → a.label ≡ b.label → ((k : ℕ) → k < 19 → At a b k) → a ≡ b
unfolding numbers_of
geometry-same a b s f l at =
    λ i.
    record {
      blocksize = at 0 (omega arith) i;
      blocklog = at 1 (omega arith) i;
      sectsize = at 2 (omega arith) i;
      sectlog = at 3 (omega arith) i;
      lsectsize = at 4 (omega arith) i;
      lsectlog = at 5 (omega arith) i;
      inodesize = at 6 (omega arith) i;
      inodelog = at 7 (omega arith) i;
      inopblock = at 8 (omega arith) i;
      inopblog = at 9 (omega arith) i;
      dirblocklog = at 10 (omega arith) i;
      dblocks = at 11 (omega arith) i;
      agsize = at 12 (omega arith) i;
      agcount = at 13 (omega arith) i;
      agblklog = at 14 (omega arith) i;
      imaxpct = at 15 (omega arith) i;
      logblocks = at 16 (omega arith) i;
      logagno = at 17 (omega arith) i;
      log_agbno = at 18 (omega arith) i;
      features = f i;
      label = l i;
      roomy = s i;
    }

pub same-is : (a b : Geometry) → length a.label ≡ 12 → length b.label ≡ 12 → same_geometry a b ≡ true → a ≡ b
unfolding same_geometry
same-is a b x y h =
    let q = right-true (same_bool a.roomy b.roomy) _ h in
    let r = right-true (same_features a.features b.features) _ q in
    geometry-same a b (bool_same a.roomy b.roomy (left-true (same_bool a.roomy b.roomy) _ h))
    (features-same a.features b.features (left-true (same_features a.features b.features) _ q))
    (label_same a.label b.label x y (left-true (same_from 12 0 a.label b.label) _ r))
    (from-same 19 0 (numbers_of a) (numbers_of b) (right-true (same_from 12 0 a.label b.label) _ r))
