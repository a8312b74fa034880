-- Sums over the groups of a disk, added one after the other in an order in which each group is taken once.
-- Assumes nothing.
use Rattle.std.specs.Prelude.{◌≡◌, Bool, not, cond, ℕ, zero, suc, ◌+◌, ◌%◌, ◌^◌, ◌<◌, eqb, take}
use mathlib.Core.List.{List, [], ◌∷◌, ◌++◌, Perm}
use Rattle.seqs.specs.Lists.{fold, up_from}
use Rattle.geometry.specs.declared.Geometry.{Geometry}
use Rattle.plan.specs.Plan.{planned}
use Rattle.table_lines.specs.declared.Total.{Total}
use Rattle.plan_totals.specs.Totals.{free_of_plan, free_count, row_of, total_of}

-- ---- orders

-- groups 0 to n − 1, rising
abbrev pub rising_groups : ℕ → List ℕ
rising_groups n = up_from 0 n

-- groups n − 1 to 0, falling
unfoldable pub falling_groups : ℕ → List ℕ
falling_groups zero = []
falling_groups (suc n) = n ∷ falling_groups n

-- the groups that pass a test, in the order that they had
unfoldable pub groups_passing : (ℕ → Bool) → List ℕ → List ℕ
groups_passing p [] = []
groups_passing p (k ∷ ks) = cond (p k) (k ∷ groups_passing p ks) (groups_passing p ks)

abbrev pub is_even : ℕ → Bool
is_even k = eqb (k % 2) 0

-- first all even groups, then all odd ones
abbrev pub even_then_odd : ℕ → List ℕ
even_then_odd n = groups_passing is_even (rising_groups n) ++ groups_passing (λ k. not (is_even k)) (rising_groups n)

-- an order in which each of n groups is taken once: the groups 0 to n − 1, permuted
abbrev pub Order : ℕ → List ℕ → Type 0
Order n ks = Perm ks (rising_groups n)

-- ---- sums in an order

-- f of one group after the other is added to what was added before
unfoldable pub added_by : (ℕ → ℕ) → List ℕ → ℕ
added_by f ks = fold (λ (s k : ℕ). s + f k) 0 ks

-- free and free-list blocks of the groups' plans
abbrev pub free_by : Geometry → List ℕ → ℕ
free_by g ks = added_by (λ k. free_of_plan (planned g k).plan) ks

-- the five columns that the table's last line sums
abbrev pub total_by : Geometry → List ℕ → Total
total_by g ks =
    record {
      length = added_by (λ k. (row_of g k).length) ks;
      log = added_by (λ k. (row_of g k).log) ks;
      list = added_by (λ k. (row_of g k).list) ks;
      chunk = added_by (λ k. (row_of g k).chunk) ks;
      free = added_by (λ k. (row_of g k).free) ks;
    }

-- each of the five sums is below 2^64
pub record SumsFit (t : Total) : Type 0 where
  pub length : t.length < 2 ^ 64
  pub log : t.log < 2 ^ 64
  pub list : t.list < 2 ^ 64
  pub chunk : t.chunk < 2 ^ 64
  pub free : t.free < 2 ^ 64

-- ---- what is proved

-- Added in the order of ks, free and free-list blocks come to the disk's free count, and the rows to the table's last line; after none of
-- the groups has a sum passed 64 bits.
pub record AddsUp (g : Geometry) (ks : List ℕ) : Type 0 where
  pub free-count : free_by g ks ≡ free_count g
  pub last_line : total_by g ks ≡ total_of g
  pub count_fits : (j : ℕ) → free_by g (take j ks) < 2 ^ 64
  pub sums-fit : (j : ℕ) → SumsFit (total_by g (take j ks))
