-- Zeros name no geometry.
-- Assumes nothing.
use mathlib.Core.Path.{◌≡◌, refl, ap, sym, ◌∙◌}
use mathlib.Core.Bool.{false}
use mathlib.Core.List.{List}
use Prim.Native.Nat.{ℕ, ◌+◌, ◌-◌, ◌≤◌}
use native.Mathlib.Omega.{arith}
use lib.Dec.{lit≤}
use lib.ListN.{take, length-replicate, replicate-append-replicate}
use lib.Seq.{take_at, drop_at}
use Rattle.refusals.specs.Numbers.{block_no_power}
use Rattle.arith.specs.Choice.{when, bit}
use Rattle.arith.specs.Numbers.{ceil_div}
use Rattle.arith.specs.Powers.{power_in, power_log, least_from, log2_up}
use Rattle.endian.specs.Bytes.{be_at, zeros}
use Rattle.endian.specs.Fields.{part}
use Rattle.geometry.specs.Sizes.{default_sector, sizes_of, sizes_refusals}
use Rattle.geometry.specs.declared.Computed.{Computed}
use Rattle.geometry.specs.Compute.{with_groups, with_sizes, chosen_of, refusals, refusal_of, compute_def, step_answer}
use Rattle.geometry_answers.specs.Named.{named_options, named_on, named_fits, named_answer}
use Rattle.reader_names.specs.Named.{has_bit, features_at, names_at, named_by}
use Rattle.reader_names.proofs.Inside.{part-first}
use Rattle.reader_names.proofs.Only.{same-named}

part-zeros : (off k n : ℕ) → off + k ≤ n → part off k (zeros n) ≡ zeros k
part-zeros off k n h =
    let m = n - (off + k) in
    let e : n ≡ off + (k + m) = omega arith in
    ap (λ (j : ℕ). part off k (zeros j)) e
    ∙ ap (part off k) (sym (replicate-append-replicate off (k + m) 0))
    ∙ ap (take k) (drop_at (zeros off) (zeros (k + m)) off (length-replicate off 0))
    ∙ ap (take k) (sym (replicate-append-replicate k m 0))
    ∙ take_at (zeros k) (zeros m) k (length-replicate k 0)

-- a block size of 0 is no power of two
number-of-zeros : (named_by false (zeros 512)).number ≡ block_no_power
unfolding when bit ceil_div power_in power_log least_from log2_up be_at default_sector sizes_of sizes_refusals with_groups with_sizes chosen_of refusals refusal_of step_answer compute_def named_options named_on named_fits named_answer has_bit features_at names_at named_by
number-of-zeros = refl

-- bytes that begin with n zeros, in which every named place lies
pub zeros-named : (xs : List ℕ) (n : ℕ) → 220 ≤ n → take n xs ≡ zeros n → (named_by false xs).number ≡ block_no_power
zeros-named xs n h e =
    let p : (off k : ℕ) → off + k ≤ 220 → part off k xs ≡ zeros k = λ off k l. part-first n off k xs (zeros n) (omega arith) e ∙ part-zeros off k n (omega arith) in
    ap (λ (c : Computed). c.number)
    (same-named xs (zeros 512) (
      p 4 4 (lit≤ tt),
      (
        p 8 8 (lit≤ tt),
        (
          p 84 4 (lit≤ tt),
          (p 102 2 (lit≤ tt), (p 104 2 (lit≤ tt), (p 108 12 (lit≤ tt), (p 127 1 (lit≤ tt), (p 212 4 (lit≤ tt), (p 216 4 (lit≤ tt), tt)))))),
        ),
      ),
    ) false)
    ∙ number-of-zeros
