-- The free extents of a group: a run taken out of them, and the record that the free list is filled from.
-- Assumes nothing.
use Rattle.std.specs.Prelude.{Bool, true, false, cond, ◌&&◌, List, [], ◌∷◌, ◌++◌, ℕ, ◌+◌, ◌-◌, ◌^◌, leb, ltb, eqb, length, get_or}
use Rattle.refusals.specs.Numbers.{too_many_records, not_free, not_valid}
use Rattle.seqs.specs.Lists.{first_index, spliced, Store, live, packed, fold}
use Rattle.seqs.specs.Runs.{valid}
use Rattle.btree.specs.declared.records.AllocRec.{AllocRec}
use Rattle.plan_free.specs.declared.FreeList.{FreeList}
use Rattle.plan_free.specs.declared.Taken.{Taken}
use Rattle.plan_free.specs.declared.Choice.{Choice}

-- what stands in a slot past the count
abbrev pub zero_free_rec : AllocRec
zero_free_rec = record { start = 0; count = 0 }

-- a struct of the code as an array with a count, and back
abbrev pub of_free : FreeList → Store AllocRec
of_free l = record { recs = l.recs; len = l.len }

abbrev pub to_free : Store AllocRec → FreeList
to_free s = record { recs = s.recs; len = s.len }

-- the list that a struct holds
abbrev pub free_of : FreeList → List AllocRec
free_of l = live (of_free l)

-- a list as a struct: the slots past the count are zero records
abbrev pub pack_free : List AllocRec → FreeList
pack_free xs = to_free (packed zero_free_rec xs)

-- the first block of a record, and how many there are
abbrev pub alloc_start : AllocRec → ℕ
alloc_start r = r.start

abbrev pub alloc_count : AllocRec → ℕ
alloc_count r = r.count

-- the first block past a record
abbrev pub alloc_end : AllocRec → ℕ
alloc_end r = r.start + r.count

-- the run from s up to, not including, e lies within the record
abbrev pub holds_run : ℕ → ℕ → AllocRec → Bool
holds_run s e r = leb r.start s && leb e (alloc_end r)

-- what the run leaves of the record before it, and after it
abbrev pub rest_before : ℕ → AllocRec → List AllocRec
rest_before s r = cond (ltb r.start s) (record { start = r.start; count = s - r.start } ∷ []) []

abbrev pub rest_after : ℕ → AllocRec → List AllocRec
rest_after e r = cond (ltb e (alloc_end r)) (record { start = e; count = alloc_end r - e } ∷ []) []

-- both
unfoldable pub without_run : ℕ → ℕ → AllocRec → List AllocRec
without_run s e r = rest_before s r ++ rest_after e r

-- an answer of `take`: a number and no record, or 0 and the records left
abbrev pub take_refused : ℕ → Taken
take_refused n = record { number = n; list = pack_free [] }

-- the records left, if they are at most 64
abbrev pub taken_list : List AllocRec → Taken
taken_list xs = cond (leb (length xs) 64) (record { number = 0; list = pack_free xs }) (take_refused too_many_records)

-- the run taken out of the record at index i
unfoldable pub taken_at : List AllocRec → ℕ → ℕ → ℕ → Taken
taken_at xs i s e = taken_list (spliced xs i (i + 1) (without_run s e (get_or xs i zero_free_rec)))

-- out of the first record that holds it; 33 where none does
unfoldable pub taken_from : List AllocRec → ℕ → ℕ → Taken
taken_from xs s e = cond (ltb (first_index (holds_run s e) xs) (length xs)) (taken_at xs (first_index (holds_run s e) xs) s e)
    (take_refused not_free)

-- `take`: the run of len blocks from start taken out of the free extents. 34 above 64 records, 32 unless they are valid, 33 where
-- start plus len is above 2^64 − 1
unfoldable pub taken : FreeList → ℕ → ℕ → Taken
taken l start len =
    cond (ltb 64 l.len) (take_refused too_many_records)
    (cond (valid alloc_start alloc_count 0 (free_of l))
    (cond (ltb (start + len) (2 ^ 64)) (taken_from (free_of l) start (start + len)) (take_refused not_free))
    (take_refused not_valid))

-- ---- the record that the free list is taken from: a number and none, 0 and none, or 0 and one
abbrev pub unpicked : ℕ → Choice
unpicked n = record { number = n; found = false; rec = zero_free_rec }

abbrev pub no_choice : Choice
no_choice = unpicked 0

abbrev pub choice_of : AllocRec → Choice
choice_of r = record { number = 0; found = true; rec = r }

-- size p is less than size q, or they are equal and start s is lower than start t
abbrev pub ahead : ℕ → ℕ → ℕ → ℕ → Bool
ahead p q s t = cond (eqb p q) (ltb s t) (ltb p q)

-- a record with fewer blocks, or more, and the lower start where they have as many
abbrev pub smaller : AllocRec → AllocRec → Bool
smaller a b = ahead a.count b.count a.start b.start

abbrev pub larger_record : AllocRec → AllocRec → Bool
larger_record a b = ahead b.count a.count a.start b.start

-- r in the place of c where it passes a test, and wins over c or nothing is there
abbrev pub next : Bool → Bool → Choice → AllocRec → Choice
next passes wins c r = cond (passes && cond c.found wins true) (choice_of r) c

-- the better fit: a record that holds all still wanted, and is smaller
unfoldable pub fitter : ℕ → Choice → AllocRec → Choice
fitter want c r = next (leb want r.count) (smaller r c.rec) c r

-- the larger record
unfoldable pub bigger : Choice → AllocRec → Choice
bigger c r = next true (larger_record r c.rec) c r

-- the smallest record that holds all still wanted, else the largest; the lowest start on a tie
unfoldable pub picked_from : ℕ → List AllocRec → Choice
picked_from want xs = cond (fold (fitter want) no_choice xs).found (fold (fitter want) no_choice xs) (fold bigger no_choice xs)

-- `pick`: 34 above 64 records
unfoldable pub pick_answer : FreeList → ℕ → Choice
pick_answer l want = cond (ltb 64 l.len) (unpicked too_many_records) (picked_from want (free_of l))
