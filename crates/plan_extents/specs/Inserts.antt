-- What `rmap_insert` answers, said of blocks, owners and records.
-- Assumes nothing.
use Rattle.std.specs.Prelude.{◌≡◌, true, false, cond, ◌⊎◌, ℕ, ◌+◌, ◌≤◌, ◌<◌, ◌^◌, eqb, length}
use mathlib.Core.List.{List, [], ◌∷◌, Memᴰ}
use Rattle.refusals.specs.Numbers.{too_many_records, not_valid}
use Rattle.seqs.specs.Lists.{total}
use Rattle.seqs.specs.Runs.{valid, has}
use Rattle.btree.specs.declared.records.RmapRec.{RmapRec}
use Rattle.plan_rmap.specs.declared.RmapList.{RmapList}
use Rattle.plan_rmap.specs.declared.Inserted.{Inserted}
use Rattle.plan_rmap.specs.Rmap.{rmap_of, rmap_start, rmap_count, rmap_end, joins, insert_refused}

-- no two neighbours join
abbrev pub Unjoined : List RmapRec → Type 0
Unjoined [] = Unit {0}
Unjoined (x ∷ []) = Unit {0}
Unjoined (x ∷ y ∷ xs) = (joins x y ≡ false) × Unjoined (y ∷ xs)

-- 1 if the record has block b, else 0; the same for the records of owner o alone
abbrev pub holds_block : ℕ → RmapRec → ℕ
holds_block b r = has b r.start (rmap_end r)

abbrev pub owns_block : ℕ → ℕ → RmapRec → ℕ
owns_block o b r = cond (eqb r.owner o) (holds_block b r) 0

-- ys is xs with the record put in: valid, at most 64, each block in as many records as before and in the record, for each owner too, and
-- without neighbours that join if there were none
pub record Gains (xs : List RmapRec) (r : RmapRec) (ys : List RmapRec) : Type 0 where
  pub few : length ys ≤ 64
  pub sorted : valid rmap_start rmap_count 0 ys ≡ true
  pub covers : (b : ℕ) → total (holds_block b) ys ≡ total (holds_block b) xs + holds_block b r
  pub owners : (o b : ℕ) → total (owns_block o b) ys ≡ total (owns_block o b) xs + owns_block o b r
  pub unjoined : Unjoined xs → Unjoined ys

-- the record can be put in: the list is valid, the record isn't empty, ends at 2^32 − 1 or before, and has no block of another
pub record Accepts (xs : List RmapRec) (r : RmapRec) : Type 0 where
  pub sorted : valid rmap_start rmap_count 0 xs ≡ true
  pub some : 0 < r.count
  pub high : rmap_end r < 2 ^ 32
  pub apart : (x : RmapRec) → Memᴰ x xs → (rmap_end x ≤ r.start) ⊎ (rmap_end r ≤ x.start)

-- no record joins it
abbrev pub NoneJoins : List RmapRec → RmapRec → Type 0
NoneJoins xs r = (x : RmapRec) → Memᴰ x xs → (joins x r ≡ false) × (joins r x ≡ false)

-- what `rmap_insert` answers, case by case
pub data InsertAnswers (l : RmapList) (r : RmapRec) (t : Inserted) : Type 0 where
  long : 64 < l.len → t ≡ insert_refused too_many_records → InsertAnswers l r t
  unfit : l.len ≤ 64 → (Accepts (rmap_of l) r → ⊥) → t ≡ insert_refused not_valid → InsertAnswers l r t
  full : l.len ≤ 64 → Accepts (rmap_of l) r → length (rmap_of l) ≡ 64 → NoneJoins (rmap_of l) r → t ≡ insert_refused too_many_records
      → InsertAnswers l r t
  done : l.len ≤ 64 → Accepts (rmap_of l) r → (length (rmap_of l) ≡ 64 → NoneJoins (rmap_of l) r → ⊥) → t.number ≡ 0
      → Gains (rmap_of l) r (rmap_of t.list) → InsertAnswers l r t
