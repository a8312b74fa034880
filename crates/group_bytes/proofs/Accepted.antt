-- What a geometry whose plans are accepted gives: its bounds, the sizes of its blocks and heads; and the first of two numbers.
-- Assumes nothing.
use mathlib.Core.Path.{◌≡◌, refl, ◌∙◌}
use mathlib.Core.Bool.{Bool, true, false, not, cond}
use Prim.Native.Nat.{ℕ, ◌+◌, ◌*◌, ◌/◌, ◌%◌, ◌<◌, ◌≤◌, ◌^◌}
use native.Mathlib.Omega.{arith}
use native.Mathlib.Nat.{mul-le-mul, mul-le-mul_right, div-mul-le_self}
use borrow.Author.Tests.{ne_eqb, eqb-true, eqb-false}
use lib.Dec.{eqb}
use lib.ListN.{length}
use lib.Pow.{pow_mono}
use Rattle.arith.specs.Choice.{bit}
use Rattle.arith.specs.Numbers.{ceil_div}
use Rattle.arith.proofs.Laws.{bit_le}
use Rattle.params.specs.declared.Features.{Features}
use Rattle.geometry.specs.declared.Geometry.{Geometry}
use Rattle.geometry.specs.Log.{header_of, prealloc_of}
use Rattle.geometry_answers.specs.Named.{is_answer}
use Rattle.geometry_layout.specs.Bounds.{Bounds}
use Rattle.geometry_layout.proofs.Bounding.{answer-bounds}
use Rattle.plan_totals.specs.Totals.{plans_number}
use Rattle.plan_totals.proofs.Whole.{all-planned}
use Rattle.run.specs.Runs.{or_next}

-- ---- the first of two numbers that isn't 0

pub or-first : (a b n : ℕ) → n ≡ a → (n ≡ 0 → ⊥) → n ≡ or_next a b
or-first a b n e h = e ∙ rw (ne_eqb a 0 (λ z. h (e ∙ z))) refl

pub or-second : (a b n : ℕ) → a ≡ 0 → n ≡ b → n ≡ or_next a b
or-second a b n z e = e ∙ rw z refl

pick-zero : (t : Bool) (a b : ℕ) → eqb a 0 ≡ t → cond t b a ≡ 0 → (a ≡ 0) × (b ≡ 0)
pick-zero true a b e z = (eqb-true a 0 e, z)
pick-zero false a b e z = absurd (eqb-false a 0 e z)

pub or-zero : (a b : ℕ) → or_next a b ≡ 0 → (a ≡ 0) × (b ≡ 0)
or-zero a b z = pick-zero (eqb a 0) a b refl z

-- ---- an accepted geometry

module _ (g : Geometry) (l : length g.label ≡ 12) (p : plans_number g ≡ 0) where
  pub answered : is_answer g ≡ true
  answered = (all-planned g l p).0

  pub bounded : Bounds g
  bounded = answer-bounds g l answered

module _ (g : Geometry) (z : Bounds g) where
  pub size-least : 1024 ≤ g.blocksize
  size-least = let w : 2 ^ 10 ≤ 2 ^ g.blocklog = pow_mono {i = 10} z.sizes.block-least in let e = z.sizes.block-power in omega arith

  pub size-most : g.blocksize ≤ 16384
  size-most = let w : 2 ^ g.blocklog ≤ 2 ^ 14 = pow_mono {j = 14} z.sizes.block-most in let e = z.sizes.block-power in omega arith

  -- the largest head has 10 blocks of 16,384 bytes
  pub head-most : prealloc_of g.features g.sectsize g.blocksize * g.blocksize ≤ 163840
  head-most =
      let m : prealloc_of g.features g.sectsize g.blocksize * g.blocksize ≤ 10 * 16384 = mul-le-mul z.places.head-most size-most in
      omega arith

-- ---- any numbers: a head's length fits 64 bits

few-more : (a b n : ℕ) → a < 2 ^ 34 → b < 2 ^ 32 → n ≤ 7 → (a / b + n) * b < 2 ^ 64
few-more a b n h k m =
    let d = div-mul-le_self a b in
    let s = mul-le-mul_right b m in
    omega arith

pub length-fits : (f : Features) (sector bs : ℕ) → sector < 2 ^ 32 → bs < 2 ^ 32 → prealloc_of f sector bs * bs < 2 ^ 64
unfolding prealloc_of header_of ceil_div
length-fits f sector bs h k =
    let a = bit_le (not (eqb (4 * sector % bs) 0)) in
    let b = bit_le f.finobt in
    let c = bit_le f.rmapbt in
    let d = bit_le f.reflink in
    let n = bit (not (eqb (4 * sector % bs) 0)) + 3 + bit f.finobt + bit f.rmapbt + bit f.reflink in
    let m = few-more (4 * sector) bs n (omega arith) k (omega arith) in
    omega arith
