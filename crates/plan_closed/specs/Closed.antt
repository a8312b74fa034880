-- The plan of a group in closed form: what lies where, without the planner's steps.
-- Assumes nothing.
use Rattle.std.specs.Prelude.{Bool, not, cond, ◌&&◌, List, [], ◌∷◌, ◌++◌, ℕ, ◌+◌, ◌-◌, ltb, eqb, Some, None}
use Rattle.refusals.specs.Numbers.{free_list_short}
use Rattle.seqs.specs.Lists.{up_from}
use Rattle.btree.specs.declared.records.AllocRec.{AllocRec}
use Rattle.btree.specs.declared.records.RmapRec.{RmapRec}
use Rattle.plan_site.specs.declared.Site.{Site}
use Rattle.seqs.specs.Runs.{weigh, run_length}
use Rattle.plan_free.specs.Free.{pack_free, alloc_start, alloc_count}
use Rattle.plan_rmap.specs.Rmap.{pack_rmap}
use Rattle.plan.specs.declared.AgPlan.{AgPlan}
use Rattle.plan.specs.declared.Planned.{Planned}
use Rattle.plan.specs.Plan.{pack_agfl, own_fs, own_ag, own_inobt, own_inodes, gap, free_at_first, map_rec, refc_map, log_map, refused_plan}

-- group 0 has the root chunk
abbrev pub has_root_chunk : Site → Bool
has_root_chunk s = eqb s.agno 0

-- the free list's first block: after the head, in the log group after the log
unfoldable pub list_at : Site → ℕ
list_at s = cond s.has_log (s.log_at + s.log_blocks) s.head

-- free: all after the free list, less the root chunk in group 0
unfoldable pub closed_free : Site → List AllocRec
closed_free s =
    cond (has_root_chunk s) (gap (s.head + s.need) s.chunk_at ++ gap (s.chunk_at + s.chunk_blocks) s.length)
    (gap (list_at s + s.need) s.length)

-- the free list's blocks follow each other
unfoldable pub closed_list : Site → List ℕ
closed_list s = up_from (list_at s) s.need

-- the free list follows the rmap root at once, and has its owner: neither the root of the reference counts nor the log lies between
abbrev pub is_joined : Site → Bool
is_joined s = not s.reflink && not s.has_log

-- the head's parts before the rmap root: header blocks, free-space roots, inode roots
abbrev pub head_mappings : Site → List RmapRec
head_mappings s =
    map_rec 0 s.bno own_fs
    ∷ map_rec s.bno 2 own_ag
    ∷ map_rec s.ibt (s.rmap_at - s.ibt) own_inobt
    ∷ []

-- rmap root and free list as one record, or with what lies between them
abbrev pub list_parts : Site → List RmapRec
list_parts s =
    cond (is_joined s) (map_rec s.rmap_at (1 + s.need) own_ag ∷ [])
    (map_rec s.rmap_at 1 own_ag ∷ (refc_map s ++ (log_map s ++ map_rec (list_at s) s.need own_ag ∷ [])))

abbrev pub chunk_mapping : Site → List RmapRec
chunk_mapping s = cond (has_root_chunk s) (map_rec s.chunk_at s.chunk_blocks own_inodes ∷ []) []

-- the reverse mappings, where their feature is on: every block that isn't free, by its owner
unfoldable pub closed_rmap : Site → List RmapRec
closed_rmap s = cond s.rmapbt (head_mappings s ++ (list_parts s ++ chunk_mapping s)) []

-- blocks that are free before the free list is filled
abbrev pub free_before_list : Site → ℕ
free_before_list s = weigh alloc_start alloc_count run_length (free_at_first s)

-- the log group has fewer free blocks than its free list
unfoldable pub list_short : Site → Bool
list_short s = s.has_log && ltb (s.length - list_at s) s.need

abbrev pub closed_ag_plan : Site → AgPlan
closed_ag_plan s =
    record {
      agno = s.agno;
      length = s.length;
      free = pack_free (closed_free s);
      agfl = pack_agfl (closed_list s);
      rmap = pack_rmap (closed_rmap s);
      chunk = cond (has_root_chunk s) (Some s.chunk_at) None;
    }

-- 25 where the log group is short of blocks, else the plan
unfoldable pub closed_plan : Site → Planned
closed_plan s = cond (list_short s) (refused_plan free_list_short) (record { number = 0; plan = closed_ag_plan s })
