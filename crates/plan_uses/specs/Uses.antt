-- The five uses of a group's blocks: head, log, free list, root chunk, free; and what the reverse mappings say of them.
-- Assumes nothing.
use Rattle.std.specs.Prelude.{◌≡◌, Bool, true, not, cond, ◌&&◌, List, [], ◌∷◌, ℕ, ◌+◌, eqb, Option, Some, None}
use Rattle.seqs.specs.Lists.{live}
use Rattle.seqs.specs.Runs.{weigh, run_length, has}
use Rattle.geometry.specs.declared.Geometry.{Geometry}
use Rattle.btree.specs.declared.records.RmapRec.{RmapRec}
use Rattle.plan_site.specs.declared.Site.{Site}
use Rattle.plan_site.specs.Sites.{site_of}
use Rattle.plan_free.specs.Free.{free_of, alloc_start as free_start, alloc_count as free_count}
use Rattle.plan_rmap.specs.Rmap.{rmap_of, rmap_end, joins}
use Rattle.plan.specs.declared.Agfl.{Agfl}
use Rattle.plan.specs.declared.AgPlan.{AgPlan}
use Rattle.plan.specs.Plan.{of_agfl, own_fs, own_log, own_ag, own_inobt, own_inodes, own_refc, planned}

-- ---- what each use weighs, for a weight f of runs: f a c is that of the blocks from a up to, not including, c

-- the entries in use of a free list, each a run of one block
abbrev pub free_list_entries : Agfl → List ℕ
free_list_entries l = live (of_agfl l)

abbrev pub self : ℕ → ℕ
self n = n

abbrev pub one : ℕ → ℕ
one n = 1

abbrev pub head_use : (ℕ → ℕ → ℕ) → Site → ℕ
head_use f s = f 0 s.head

abbrev pub log_use : (ℕ → ℕ → ℕ) → Site → ℕ
log_use f s = cond s.has_log (f s.log_at (s.log_at + s.log_blocks)) 0

abbrev pub list_use : (ℕ → ℕ → ℕ) → AgPlan → ℕ
list_use f p = weigh self one f (free_list_entries p.agfl)

-- n blocks from the chunk's first on, where the plan has one
abbrev pub chunk_from : (ℕ → ℕ → ℕ) → Option ℕ → ℕ → ℕ
chunk_from f None n = 0
chunk_from f (Some at) n = f at (at + n)

abbrev pub chunk_use : (ℕ → ℕ → ℕ) → Site → AgPlan → ℕ
chunk_use f s p = chunk_from f p.chunk s.chunk_blocks

abbrev pub free_use : (ℕ → ℕ → ℕ) → AgPlan → ℕ
free_use f p = weigh free_start free_count f (free_of p.free)

-- all that isn't free, and all five
abbrev pub used_parts : (ℕ → ℕ → ℕ) → Site → AgPlan → ℕ
used_parts f s p = head_use f s + log_use f s + list_use f p + chunk_use f s p

abbrev pub all_parts : (ℕ → ℕ → ℕ) → Site → AgPlan → ℕ
all_parts f s p = used_parts f s p + free_use f p

-- ---- of a group of a geometry

-- how many uses block b of group k has; all but the free ones
unfoldable pub uses_of : Geometry → ℕ → ℕ → ℕ
uses_of g k b = all_parts (has b) (site_of g k) (planned g k).plan

unfoldable pub used_of : Geometry → ℕ → ℕ → ℕ
used_of g k b = used_parts (has b) (site_of g k) (planned g k).plan

-- the blocks of the five uses of group k
unfoldable pub used_blocks : Geometry → ℕ → ℕ
used_blocks g k = all_parts run_length (site_of g k) (planned g k).plan

-- ---- reverse mappings

-- the sum of h over the records' owners and ends
unfoldable pub weigh_owned : (ℕ → ℕ → ℕ → ℕ) → List RmapRec → ℕ
weigh_owned h [] = 0
weigh_owned h (r ∷ rs) = h r.owner r.start (rmap_end r) + weigh_owned h rs

-- a weight f of all runs, and of the runs of owner o alone
abbrev pub any_owner : (ℕ → ℕ → ℕ) → ℕ → ℕ → ℕ → ℕ
any_owner f p a c = f a c

abbrev pub only_owner : ℕ → (ℕ → ℕ → ℕ) → ℕ → ℕ → ℕ → ℕ
only_owner o f p a c = cond (eqb p o) (f a c) 0

-- how many records of group k hold block b, and how many of owner o do
unfoldable pub mapped_of : Geometry → ℕ → ℕ → ℕ
mapped_of g k b = weigh_owned (any_owner (has b)) (rmap_of (planned g k).plan.rmap)

unfoldable pub owned_of : ℕ → Geometry → ℕ → ℕ → ℕ
owned_of o g k b = weigh_owned (only_owner o (has b)) (rmap_of (planned g k).plan.rmap)

-- what each owner has: header blocks; free-space roots, rmap root and free list; inode roots; root of the reference
-- counts; log; inodes
pub record Owners (f : ℕ → ℕ → ℕ) (s : Site) (p : AgPlan) (of : ℕ → ℕ) : Type 0 where
  pub fs : of own_fs ≡ f 0 s.bno
  pub ag : of own_ag ≡ f s.bno (s.bno + 2) + f s.rmap_at (s.rmap_at + 1) + list_use f p
  pub inobt : of own_inobt ≡ f s.ibt s.rmap_at
  pub refc : of own_refc ≡ cond s.reflink (f s.refc_at (s.refc_at + 1)) 0
  pub log : of own_log ≡ log_use f s
  pub inodes : of own_inodes ≡ chunk_use f s p

-- no record could be joined with the next
unfoldable pub none_joins : List RmapRec → Bool
none_joins [] = true
none_joins (a ∷ []) = true
none_joins (a ∷ b ∷ rs) = not (joins a b) && none_joins (b ∷ rs)

-- how many records start at block b
unfoldable pub starts_at : ℕ → List RmapRec → ℕ
starts_at b [] = 0
starts_at b (r ∷ rs) = cond (eqb r.start b) 1 0 + starts_at b rs
