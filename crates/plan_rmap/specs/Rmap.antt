-- The reverse mappings of a group, and a record put into them.
-- Assumes nothing.
use Rattle.std.specs.Prelude.{Bool, true, false, cond, ◌&&◌, List, [], ◌∷◌, ℕ, ◌+◌, ◌-◌, leb, ltb, eqb, length, get_or}
use Rattle.refusals.specs.Numbers.{too_many_records, not_valid}
use Rattle.seqs.specs.Lists.{first_index, spliced, Store, live, packed}
use Rattle.seqs.specs.Runs.{valid}
use Rattle.btree.specs.declared.records.RmapRec.{RmapRec}
use Rattle.plan_rmap.specs.declared.RmapList.{RmapList}
use Rattle.plan_rmap.specs.declared.Inserted.{Inserted}

-- what stands in a slot past the count
abbrev pub zero_rmap_rec : RmapRec
zero_rmap_rec = record { start = 0; count = 0; owner = 0 }

-- a struct of the code as an array with a count, and back
abbrev pub of_rmap : RmapList → Store RmapRec
of_rmap l = record { recs = l.recs; len = l.len }

abbrev pub to_rmap : Store RmapRec → RmapList
to_rmap s = record { recs = s.recs; len = s.len }

-- the list that a struct holds
abbrev pub rmap_of : RmapList → List RmapRec
rmap_of l = live (of_rmap l)

-- a list as a struct: the slots past the count are zero records
abbrev pub pack_rmap : List RmapRec → RmapList
pack_rmap xs = to_rmap (packed zero_rmap_rec xs)

-- the first block of a record, and how many there are
abbrev pub rmap_start : RmapRec → ℕ
rmap_start r = r.start

abbrev pub rmap_count : RmapRec → ℕ
rmap_count r = r.count

-- the first block past a record
abbrev pub rmap_end : RmapRec → ℕ
rmap_end r = r.start + r.count

-- the record starts at s or later
abbrev pub not_before : ℕ → RmapRec → Bool
not_before s r = leb s r.start

-- where a record that starts at s goes
abbrev pub insert_place : ℕ → List RmapRec → ℕ
insert_place s xs = first_index (not_before s) xs

-- b starts where a ends, and has the same owner
abbrev pub joins : RmapRec → RmapRec → Bool
joins a b = eqb a.owner b.owner && eqb (rmap_end a) b.start

-- two records that join as one
abbrev pub glued : RmapRec → RmapRec → RmapRec
glued a b = record { start = a.start; count = a.count + b.count; owner = a.owner }

-- the record joins the one before index p; the one at index p
unfoldable pub joins_left : List RmapRec → ℕ → RmapRec → Bool
joins_left xs p r = ltb 0 p && joins (get_or xs (p - 1) zero_rmap_rec) r

unfoldable pub joins_right : List RmapRec → ℕ → RmapRec → Bool
joins_right xs p r = ltb p (length xs) && joins r (get_or xs p zero_rmap_rec)

-- an answer of `rmap_insert`: a number and no record, or 0 and the records left, if they are at most 64
abbrev pub insert_refused : ℕ → Inserted
insert_refused n = record { number = n; list = pack_rmap [] }

abbrev pub inserted_list : List RmapRec → Inserted
inserted_list xs = cond (leb (length xs) 64) (record { number = 0; list = pack_rmap xs }) (insert_refused too_many_records)

-- the record put at index p, joined with the neighbours that it joins: left and right say with which
abbrev pub joined_at : Bool → Bool → List RmapRec → ℕ → RmapRec → List RmapRec
joined_at true true xs p r = spliced xs (p - 1) (p + 1) (glued (glued (get_or xs (p - 1) zero_rmap_rec) r) (get_or xs p zero_rmap_rec) ∷ [])
joined_at true false xs p r = spliced xs (p - 1) p (glued (get_or xs (p - 1) zero_rmap_rec) r ∷ [])
joined_at false true xs p r = spliced xs p (p + 1) (glued r (get_or xs p zero_rmap_rec) ∷ [])
joined_at false false xs p r = spliced xs p p (r ∷ [])

-- the record put at index p
unfoldable pub inserted_at : List RmapRec → ℕ → RmapRec → Inserted
inserted_at xs p r = inserted_list (joined_at (joins_left xs p r) (joins_right xs p r) xs p r)

-- the list is valid, and with the record put at index p it still is
unfoldable pub takes : List RmapRec → ℕ → RmapRec → Bool
takes xs p r = valid rmap_start rmap_count 0 xs && valid rmap_start rmap_count 0 (spliced xs p p (r ∷ []))

-- `rmap_insert`: the record put before the first that starts where it does or later. 34 above 64 records, 32 unless they are valid and
-- stay so
unfoldable pub inserted : RmapList → RmapRec → Inserted
inserted l r =
    cond (ltb 64 l.len) (insert_refused too_many_records)
    (cond (takes (rmap_of l) (insert_place r.start (rmap_of l)) r)
    (inserted_at (rmap_of l) (insert_place r.start (rmap_of l)) r)
    (insert_refused not_valid))
