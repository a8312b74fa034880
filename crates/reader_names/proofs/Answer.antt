-- The geometry that bytes name is an answer of the geometry step.
-- Assumes nothing.
use mathlib.Core.Path.{◌≡◌, refl, ap, sym, ◌∙◌}
use mathlib.Core.Bool.{Bool, true, false, ◌&&◌}
use mathlib.Core.List.{List}
use Prim.Native.Nat.{ℕ, ◌*◌, ◌^◌, ◌≤◌, ◌<◌}
use native.Mathlib.Nat.{mul-le-mul_right}
use native.Mathlib.Omega.{arith}
use borrow.Author.Tests.{ltb-true, lt-ltb}
use lib.Dec.{ltb}
use lib.ListN.{length, get_or}
use Rattle.arith.proofs.Both.{left-true}
use Rattle.endian.specs.Bytes.{be_at}
use Rattle.endian.proofs.Laws.{at_bound}
use Rattle.geometry.specs.declared.Computed.{Computed}
use Rattle.geometry_answers.specs.declared.Named.{Named}
use Rattle.geometry_answers.specs.Named.{named_options, named_on, named_fits, named_answer}
use Rattle.geometry_answers.specs.Answers.{Answered}
use Rattle.geometry_answers.proofs.Again.{label_kept, sizing-kept}
use Rattle.geometry_answers.proofs.Exact.{fitting, accepted-fits}
use Rattle.reader_names.specs.Named.{names_at, named_by}
use Rattle.reader_names.proofs.Inside.{part_length}

module _ (roomy : Bool) (n : Named) (l : length n.label ≡ 12) (z : (named_answer roomy n).number ≡ 0) where
  answer-is : named_answer roomy n ≡ named_on roomy n 512
  answer-is = fitting roomy n (accepted-fits roomy n z)

  step-number : (named_on roomy n 512).number ≡ 0
  step-number = ap (λ (c : Computed). c.number) (sym answer-is) ∙ z

  pub answered : Answered (named_answer roomy n).geometry
  unfolding named_on named_options named_fits
  answered =
      let e = step-number in
      let i : (named_on roomy n 512).geometry ≡ (named_answer roomy n).geometry = ap (λ (c : Computed). c.geometry) (sym answer-is) in
      let d = n.dblocks * n.blocksize in
      record {
        options = named_options roomy n;
        label = l;
        device = d;
        small = ltb-true d (2 ^ 64) (left-true (ltb d (2 ^ 64)) _ (accepted-fits roomy n z));
        logical = 512;
        physical = 512;
        accepted = λ k. record { number = e k; geometry = i k };
      }

  label-size : length (named_answer roomy n).geometry.label ≡ 12
  unfolding named_on named_options
  label-size = rw answer-is (label_kept (named_options roomy n) (n.dblocks * n.blocksize) 512 512 l step-number)

  sizing-is : (named_answer roomy n).geometry.roomy ≡ roomy
  unfolding named_on named_options
  sizing-is = rw answer-is (sizing-kept (named_options roomy n) (n.dblocks * n.blocksize) 512 512 step-number)

module _ (roomy : Bool) (xs : List ℕ) (h : 120 ≤ length xs) (z : (named_by roomy xs).number ≡ 0) where
  label-room : length (names_at xs).label ≡ 12
  unfolding names_at
  label-room = part_length 108 12 xs (omega arith)

  -- WHAT IS NAMED IS AN ANSWER
  pub named-answered : Answered (named_by roomy xs).geometry
  unfolding named_by
  named-answered = answered roomy (names_at xs) label-room z

  pub named-label : length (named_by roomy xs).geometry.label ≡ 12
  unfolding named_by
  named-label = label-size roomy (names_at xs) label-room z

  -- UNDER THAT SIZING
  pub named-sizing : (named_by roomy xs).geometry.roomy ≡ roomy
  unfolding named_by
  named-sizing = sizing-is roomy (names_at xs) label-room z

-- ---- bytes that pass 64 bits

product_small : (a b : ℕ) → a < 256 ^ 4 → b < 256 ^ 4 → a * b < 2 ^ 64
product_small a b h k =
    let s : a ≤ 4294967295 = omega arith in
    omega (arith, mul-le-mul_right b s)

and-true : (a b : Bool) → b ≡ true → (a && b) ≡ a
and-true true b e = e
and-true false b e = refl

-- of bytes only the block count's can: the geometry step is asked exactly where they don't
pub fits-by-count : (xs : List ℕ) → ((i : ℕ) → get_or xs i 0 < 256) → named_fits (names_at xs) ≡ ltb (be_at 8 8 xs * be_at 4 4 xs) (2 ^ 64)
unfolding named_fits names_at
fits-by-count xs o =
    and-true (ltb (be_at 8 8 xs * be_at 4 4 xs) (2 ^ 64)) (ltb (be_at 4 84 xs * be_at 4 4 xs) (2 ^ 64))
    (lt-ltb (be_at 4 84 xs * be_at 4 4 xs) (2 ^ 64) (product_small (be_at 4 84 xs) (be_at 4 4 xs) (at_bound 4 84 xs o) (at_bound 4 4 xs o)))
