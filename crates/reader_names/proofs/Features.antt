-- The feature words of a superblock name its features.
-- Assumes nothing.
use mathlib.Core.Path.{◌≡◌, refl, ap, ◌∙◌}
use mathlib.Core.Bool.{Bool, true, false}
use Prim.Native.Nat.{ℕ, ◌/◌, ◌%◌, ◌≤◌, ◌<◌, ◌^◌}
use native.Mathlib.Omega.{arith}
use lib.Dec.{eqb}
use Rattle.arith.specs.Choice.{bit}
use Rattle.arith.proofs.Laws.{bit_le}
use Rattle.params.specs.declared.Features.{Features}
use Rattle.sb.specs.Superblock.{ro_compat, in_compat}
use Rattle.reader_names.specs.Named.{has_bit, features_at}

bit-back : (b : Bool) → eqb (bit b) 1 ≡ b
unfolding bit
bit-back true = refl
bit-back false = refl

bit_is : (w n : ℕ) (b : Bool) → n / w % 2 ≡ bit b → has_bit w n ≡ b
unfolding has_bit
bit_is w n b e = ap (λ (k : ℕ). eqb k 1) e ∙ bit-back b

module _ (f : Features) where
  a : bit f.finobt ≤ 1
  a = bit_le f.finobt

  b : bit f.rmapbt ≤ 1
  b = bit_le f.rmapbt

  c : bit f.reflink ≤ 1
  c = bit_le f.reflink

  d : bit f.inobtcount ≤ 1
  d = bit_le f.inobtcount

  e : bit f.sparse ≤ 1
  e = bit_le f.sparse

  g : bit f.bigtime ≤ 1
  g = bit_le f.bigtime

  h : bit f.nrext64 ≤ 1
  h = bit_le f.nrext64

  pub ro-small : ro_compat f < 256 ^ 4
  unfolding ro_compat
  ro-small = omega (arith, a, b, c, d)

  pub in_small : in_compat f < 256 ^ 4
  unfolding in_compat
  in_small = omega (arith, e, g, h)

  pub features-back : features_at (ro_compat f) (in_compat f) ≡ f
  unfolding features_at ro_compat in_compat
  features-back =
      let e0 : has_bit 1 (ro_compat f) ≡ f.finobt = bit_is 1 (ro_compat f) f.finobt (omega (arith, a, b, c, d)) in
      let e1 : has_bit 2 (ro_compat f) ≡ f.rmapbt = bit_is 2 (ro_compat f) f.rmapbt (omega (arith, a, b, c, d)) in
      let e2 : has_bit 4 (ro_compat f) ≡ f.reflink = bit_is 4 (ro_compat f) f.reflink (omega (arith, a, b, c, d)) in
      let e3 : has_bit 8 (ro_compat f) ≡ f.inobtcount = bit_is 8 (ro_compat f) f.inobtcount (omega (arith, a, b, c, d)) in
      let e4 : has_bit 8 (in_compat f) ≡ f.bigtime = bit_is 8 (in_compat f) f.bigtime (omega (arith, e, g, h)) in
      let e5 : has_bit 0x20 (in_compat f) ≡ f.nrext64 = bit_is 0x20 (in_compat f) f.nrext64 (omega (arith, e, g, h)) in
      let e6 : has_bit 2 (in_compat f) ≡ f.sparse = bit_is 2 (in_compat f) f.sparse (omega (arith, e, g, h)) in
      λ i. record { finobt = e0 i; rmapbt = e1 i; reflink = e2 i; inobtcount = e3 i; bigtime = e4 i; nrext64 = e5 i; sparse = e6 i }
