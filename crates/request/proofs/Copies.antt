-- Bytes copied into an array of zeros; an option's case.
-- Assumes nothing.
use Rattle.std.specs.Prelude.{Option, Some}
use mathlib.Core.Path.{◌≡◌, refl}
use mathlib.Core.List.{List, ◌++◌}
use Prim.Native.Nat.{ℕ, ◌+◌, ◌-◌, min}
use native.Mathlib.Omega.{arith}
use lib.ListN.{get_or, drop, replicate}
use Rattle.std.proofs.lemmas.List.{drop-replicate}
use Rattle.endian.specs.Fields.{part}
use Rattle.params.specs.declared.Label.{Label}
use Rattle.request.specs.Options.{Holds, label_at}

-- the bytes copied, in front of the rest of an array of zeros
pub label-copied : (p count n : ℕ) (xs bs : List ℕ) → count ≡ get_or xs p 0 → n ≡ min count 12 → bs ≡ part (p + 1) (p + 1 + n - (p + 1)) xs
    → ◌≡◌ {A = Label} (record { length = count; bytes = bs ++ drop n (replicate 12 0) }) (label_at p xs)
unfolding label_at
label-copied p count n xs bs c d e =
    let whole : p + 1 + n - (p + 1) ≡ n = omega arith in
    rw (drop-replicate {X = ℕ} n 12 0, e, whole, d, c) refl

-- an option that is given
pub holds-given : (P : ℕ → Type 0) (o : Option ℕ) (n : ℕ) → o ≡ Some n → Holds P o → P n
holds-given P o n e h = rw e at h
