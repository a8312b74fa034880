-- What it means that a record is the one to be picked.
-- Assumes nothing.
use Rattle.std.specs.Prelude.{◌≡◌, true, ℕ, ◌≤◌, ◌<◌}
use mathlib.Core.List.{List, [], Memᴰ}
use Rattle.btree.specs.declared.records.AllocRec.{AllocRec}
use Rattle.plan_free.specs.declared.Choice.{Choice}
use Rattle.plan_free.specs.Free.{no_choice}

-- size p comes before size q, and of equal sizes start s before start t
pub record Ahead (p q s t : ℕ) : Type 0 where
  pub size : p ≤ q
  pub tie : p ≡ q → s ≤ t

-- r is no larger than x, and where they are as large starts no later
abbrev pub NoLarger : AllocRec → AllocRec → Type 0
NoLarger r x = Ahead r.count x.count r.start x.start

-- r is no smaller than x, and where they are as large starts no later
abbrev pub NoSmaller : AllocRec → AllocRec → Type 0
NoSmaller r x = Ahead x.count r.count r.start x.start

-- r is one of the records, has all that is wanted, and of those that have is the smallest with the lowest start
pub record SmallestFit (want : ℕ) (xs : List AllocRec) (r : AllocRec) : Type 0 where
  pub there : Memᴰ r xs
  pub enough : want ≤ r.count
  pub smallest : (x : AllocRec) → Memᴰ x xs → want ≤ x.count → NoLarger r x

-- r is one of the records, and the largest with the lowest start
pub record Largest (xs : List AllocRec) (r : AllocRec) : Type 0 where
  pub there : Memᴰ r xs
  pub greatest : (x : AllocRec) → Memᴰ x xs → NoSmaller r x

-- what is picked: a record that fits where one has all that is wanted, else the largest, and nothing where there is none
pub data Picks (want : ℕ) (xs : List AllocRec) (c : Choice) : Type 0 where
  fits : c.found ≡ true → SmallestFit want xs c.rec → Picks want xs c
  largest : c.found ≡ true → ((x : AllocRec) → Memᴰ x xs → x.count < want) → Largest xs c.rec → Picks want xs c
  none : c ≡ no_choice → xs ≡ [] → Picks want xs c
