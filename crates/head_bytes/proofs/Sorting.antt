-- At most two free extents sorted by size.
-- Assumes nothing.
use mathlib.Core.Path.{◌≡◌, refl, ◌∙◌}
use mathlib.Core.Bool.{true, false}
use mathlib.Core.List.{List, [], ◌∷◌}
use Prim.Native.Nat.{ℕ, zero, suc, ◌≤◌, ◌<◌}
use native.Mathlib.Omega.{arith}
use lib.ListN.{length, take, set, get_or}
use Rattle.btree.specs.declared.records.AllocRec.{AllocRec}
use Rattle.plan_free.specs.Free.{zero_free_rec, smaller}
use Rattle.head_bytes.specs.Sorting.{inserted_by_size, by_size}

-- fewer than two stay as they are
pub few-sorted : (n : ℕ) (xs : List AllocRec) → n < 2 → take n xs ≡ by_size (take n xs)
unfolding by_size inserted_by_size
few-sorted zero xs h = refl
few-sorted (suc zero) [] h = refl
few-sorted (suc zero) (x ∷ xs) h = refl
few-sorted (suc (suc n)) xs h = absurd (omega arith)

-- two in order stay, and two others change places
pub two-sorted : (xs : List AllocRec) → 2 ≤ length xs → smaller (get_or xs 0 zero_free_rec) (get_or xs 1 zero_free_rec) ≡ true → take 2 xs ≡ by_size (take 2 xs)
unfolding by_size inserted_by_size
two-sorted [] h e = absurd (omega arith)
two-sorted (x ∷ []) h e = absurd (omega arith)
two-sorted (x ∷ y ∷ xs) h e = rw e refl

pub two-swapped : (xs : List AllocRec) → 2 ≤ length xs → smaller (get_or xs 0 zero_free_rec) (get_or xs 1 zero_free_rec) ≡ false
    → take 2 (set (set xs 0 (get_or xs 1 zero_free_rec)) 1 (get_or xs 0 zero_free_rec)) ≡ by_size (take 2 xs)
unfolding by_size inserted_by_size
two-swapped [] h e = absurd (omega arith)
two-swapped (x ∷ []) h e = absurd (omega arith)
two-swapped (x ∷ y ∷ xs) h e = rw e refl
