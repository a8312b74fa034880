-- The places of a head's checksums, as the code has them.
-- Assumes nothing.
use mathlib.Core.Path.{◌≡◌, refl, ap, ◌∙◌}
use mathlib.Core.Bool.{Bool, true, false}
use mathlib.Core.List.{List, [], ◌∷◌}
use Prim.Native.Nat.{ℕ, ◌+◌, ◌*◌, ◌≤◌}
use native.Mathlib.Nat.{mul-le-mul}
use native.Mathlib.Omega.{arith}
use lib.ListN.{length, take, length-take}
use Rattle.arith.specs.Choice.{bit}
use Rattle.params.specs.declared.Features.{Features}
use Rattle.crc.specs.Right.{spaced}
use Rattle.geometry.specs.declared.Geometry.{Geometry}
use Rattle.plan.specs.declared.AgPlan.{AgPlan}
use Rattle.head_frame.specs.declared.Frame.{Frame}
use Rattle.head_frame.specs.Frames.{frame_of, FrameBounds}
use Rattle.head_bytes.specs.Places.{places_of, head_places}

-- the first of ten places
module _ (a b c d e s : ℕ) where
  abbrev ten : List ℕ
  ten = a ∷ (b ∷ (c ∷ (d ∷ (e ∷ ((e + s) ∷ ((e + s + s) ∷ ((e + s + s + s) ∷ ((e + s + s + s + s) ∷ ((e + s + s + s + s + s) ∷ [])))))))))

  by-features : (x y z : Bool) → take (7 + bit x + bit y + bit z) ten ≡ a ∷ (b ∷ (c ∷ (d ∷ spaced e s (3 + bit x + bit y + bit z))))
  unfolding bit spaced
  by-features true true true = refl
  by-features true true false = refl
  by-features true false true = refl
  by-features true false false = refl
  by-features false true true = refl
  by-features false true false = refl
  by-features false false true = refl
  by-features false false false = refl

pub places-are : (header sector block x y z : ℕ) (f : Features) → x ≡ bit f.finobt → y ≡ bit f.rmapbt → z ≡ bit f.reflink
    → take (7 + x + y + z) (ten 224 (sector + 216) (2 * sector + 312) (3 * sector + 32) (header * block + 52) block) ≡ places_of header sector block f
unfolding places_of
places-are header sector block x y z f ex ey ez =
    rw (ex, ey, ez) (by-features 224 (sector + 216) (2 * sector + 312) (3 * sector + 32) (header * block + 52) block f.finobt f.rmapbt f.reflink)

-- they are those of the geometry
pub frame-places : (g : Geometry) (p : AgPlan) (w : Frame) → w ≡ frame_of g p → places_of w.header w.sector w.block w.features ≡ head_places g
unfolding head_places frame_of
frame-places g p w e = rw e refl

-- and few
pub few-places : (n : ℕ) (at ps : List ℕ) → take n at ≡ ps → n ≤ 10 → length ps ≤ 64
few-places n at ps e h = omega (arith, ap (λ (l : List ℕ). length l) e, length-take n at)

-- the header blocks are at most four
pub header-bytes : (w : Frame) → FrameBounds w → w.header * w.block ≤ 65536
header-bytes w f = let m : w.header * w.block ≤ 4 * 16384 = mul-le-mul f.header-most f.block-most in omega arith
