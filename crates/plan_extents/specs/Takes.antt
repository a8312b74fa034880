-- What `take` answers, said of blocks and records.
-- Assumes nothing.
use Rattle.std.specs.Prelude.{◌≡◌, true, false, ℕ, ◌+◌, ◌≤◌, ◌<◌, length}
use mathlib.Core.List.{List, Memᴰ}
use Rattle.refusals.specs.Numbers.{too_many_records, not_free, not_valid}
use Rattle.seqs.specs.Runs.{valid, weigh, has}
use Rattle.btree.specs.declared.records.AllocRec.{AllocRec}
use Rattle.plan_free.specs.declared.FreeList.{FreeList}
use Rattle.plan_free.specs.declared.Taken.{Taken}
use Rattle.plan_free.specs.Free.{free_of, alloc_start, alloc_count, alloc_end, take_refused}

-- the run from s up to, not including, e lies within the record
pub record WithinRecord (s e : ℕ) (r : AllocRec) : Type 0 where
  pub low : r.start ≤ s
  pub high : e ≤ alloc_end r

-- how many of the records have block b
abbrev pub holding : ℕ → List AllocRec → ℕ
holding b xs = weigh alloc_start alloc_count (has b) xs

-- ys is what is left of xs without the n blocks from s: valid, at most 64, and each block as often as before, less the run
pub record LeftOver (xs : List AllocRec) (s n : ℕ) (ys : List AllocRec) : Type 0 where
  pub few : length ys ≤ 64
  pub sorted : valid alloc_start alloc_count 0 ys ≡ true
  pub covers : (b : ℕ) → holding b xs ≡ holding b ys + has b s (s + n)

-- the list is full, and the run lies in the midst of a record
pub record Splits (xs : List AllocRec) (s e : ℕ) (r : AllocRec) : Type 0 where
  pub full : length xs ≡ 64
  pub there : Memᴰ r xs
  pub before : r.start < s
  pub behind : e < alloc_end r

-- no record holds the run
abbrev pub NoneHolds : List AllocRec → ℕ → ℕ → Type 0
NoneHolds xs s e = (r : AllocRec) → Memᴰ r xs → WithinRecord s e r → ⊥

-- what `take` answers, case by case in the order of the numbers
pub data TakeAnswers (l : FreeList) (s n : ℕ) (t : Taken) : Type 0 where
  long : 64 < l.len → t ≡ take_refused too_many_records → TakeAnswers l s n t
  unsorted : l.len ≤ 64 → valid alloc_start alloc_count 0 (free_of l) ≡ false → t ≡ take_refused not_valid → TakeAnswers l s n t
  unheld : l.len ≤ 64 → valid alloc_start alloc_count 0 (free_of l) ≡ true → NoneHolds (free_of l) s (s + n) → t ≡ take_refused not_free
      → TakeAnswers l s n t
  split : l.len ≤ 64 → valid alloc_start alloc_count 0 (free_of l) ≡ true → (r : AllocRec) → Splits (free_of l) s (s + n) r
      → t ≡ take_refused too_many_records → TakeAnswers l s n t
  done : l.len ≤ 64 → valid alloc_start alloc_count 0 (free_of l) ≡ true → (r : AllocRec) → Memᴰ r (free_of l) → WithinRecord s (s + n) r
      → ((x : AllocRec) → Splits (free_of l) s (s + n) x → ⊥) → t.number ≡ 0 → TakeAnswers l s n t
