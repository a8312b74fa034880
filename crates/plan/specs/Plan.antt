-- The plan of a group: what mkfs.xfs leaves of its blocks, step by step as the source goes.
-- Assumes nothing.
use Rattle.std.specs.Prelude.{Bool, cond, List, [], ◌∷◌, ◌++◌, ℕ, ◌+◌, ◌-◌, leb, ltb, eqb, Option, Some, None}
use Rattle.refusals.specs.Numbers.{free_list_short}
use Rattle.seqs.specs.Lists.{Store, packed, appended, turns, up_from}
use Rattle.geometry.specs.declared.Geometry.{Geometry}
use Rattle.btree.specs.declared.records.AllocRec.{AllocRec}
use Rattle.btree.specs.declared.records.RmapRec.{RmapRec}
use Rattle.btree.specs.Owners.{negative}
use Rattle.geometry_places.specs.Answers.{group_refusal}
use Rattle.plan_site.specs.declared.Site.{Site}
use Rattle.plan_site.specs.Sites.{site_of}
use Rattle.plan_free.specs.declared.FreeList.{FreeList}
use Rattle.plan_free.specs.Free.{pack_free, taken, pick_answer}
use Rattle.plan_rmap.specs.declared.RmapList.{RmapList}
use Rattle.plan_rmap.specs.declared.Inserted.{Inserted}
use Rattle.plan_rmap.specs.Rmap.{pack_rmap, inserted}
use Rattle.plan.specs.declared.Agfl.{Agfl}
use Rattle.plan.specs.declared.Work.{Work}
use Rattle.plan.specs.declared.AgPlan.{AgPlan}
use Rattle.plan.specs.declared.Planned.{Planned}

-- ---- the free list as an array of 64 with a count

abbrev pub of_agfl : Agfl → Store ℕ
of_agfl l = record { recs = l.blocks; len = l.len }

abbrev pub to_agfl : Store ℕ → Agfl
to_agfl s = record { blocks = s.recs; len = s.len }

abbrev pub pack_agfl : List ℕ → Agfl
pack_agfl xs = to_agfl (packed 0 xs)

-- ---- owners: −3 to −8 in 64 bits

abbrev pub own_fs : ℕ
own_fs = negative 3

abbrev pub own_log : ℕ
own_log = negative 4

abbrev pub own_ag : ℕ
own_ag = negative 5

abbrev pub own_inobt : ℕ
own_inobt = negative 6

abbrev pub own_inodes : ℕ
own_inodes = negative 7

abbrev pub own_refc : ℕ
own_refc = negative 8

-- ---- the records at first

-- the free record from block a up to, not including, block b, where there is one
abbrev pub gap : ℕ → ℕ → List AllocRec
gap a b = cond (ltb a b) (record { start = a; count = b - a } ∷ []) []

-- everything after the head is free, less the log in its group
unfoldable pub free_at_first : Site → List AllocRec
free_at_first s =
    cond s.has_log (gap s.head s.log_at ++ gap (s.log_at + s.log_blocks) s.length)
    (record { start = s.head; count = s.length - s.head } ∷ [])

abbrev pub map_rec : ℕ → ℕ → ℕ → RmapRec
map_rec start count owner = record { start = start; count = count; owner = owner }

-- the head by its parts: header blocks, free-space roots, inode roots, rmap root
abbrev pub head_map : Site → List RmapRec
head_map s =
    map_rec 0 s.bno own_fs
    ∷ map_rec s.bno 2 own_ag
    ∷ map_rec s.ibt (s.rmap_at - s.ibt) own_inobt
    ∷ map_rec s.rmap_at 1 own_ag
    ∷ []

-- the root of the reference counts
abbrev pub refc_map : Site → List RmapRec
refc_map s = cond s.reflink (map_rec s.refc_at 1 own_refc ∷ []) []

abbrev pub log_map : Site → List RmapRec
log_map s = cond s.has_log (map_rec s.log_at s.log_blocks own_log ∷ []) []

unfoldable pub rmap_at_first : Site → List RmapRec
rmap_at_first s = cond s.rmapbt (head_map s ++ (refc_map s ++ log_map s)) []

unfoldable pub at_first : Site → Work
at_first s =
    record {
      number = 0;
      want = s.need;
      rmapbt = s.rmapbt;
      free = pack_free (free_at_first s);
      agfl = pack_agfl [];
      rmap = pack_rmap (rmap_at_first s);
    }

-- ---- the free list

-- work that ends with a refusal
unfoldable pub failed : Work → ℕ → Work
failed w n = record { number = n; want = w.want; rmapbt = w.rmapbt; free = w.free; agfl = w.agfl; rmap = w.rmap }

-- the reverse mapping is kept where its feature is on
abbrev pub mapped : Bool → RmapList → RmapRec → Inserted
mapped b l r = cond b (inserted l r) (record { number = 0; list = l })

-- the work with the records that are left, once the owner is noted
unfoldable pub noted : Work → ℕ → FreeList → Agfl → Inserted → Work
noted w wants free agfl m =
    cond (eqb m.number 0) (record { number = 0; want = wants; rmapbt = w.rmapbt; free = free; agfl = agfl; rmap = m.list })
    (failed w m.number)

-- n blocks from start go to the free list
unfoldable pub moved : Work → ℕ → ℕ → Work
moved w start n =
    cond (eqb (taken w.free start n).number 0)
    (noted w (w.want - n) (taken w.free start n).list (to_agfl (appended (of_agfl w.agfl) (up_from start n)))
    (mapped w.rmapbt w.rmap (map_rec start n own_ag)))
    (failed w (taken w.free start n).number)

abbrev pub smaller_of : ℕ → ℕ → ℕ
smaller_of a b = cond (leb a b) a b

-- one turn: nothing is done once the list is full or a number was given; 25 where no record is left
unfoldable pub list_turn : Work → Work
list_turn w =
    cond (eqb w.number 0)
    (cond (eqb w.want 0) w
    (cond (pick_answer w.free w.want).found
    (moved w (pick_answer w.free w.want).rec.start (smaller_of w.want (pick_answer w.free w.want).rec.count))
    (failed w free_list_short)))
    w

-- every turn moves a block at least, so there are no more turns than blocks wanted
unfoldable pub list_filled : Site → Work
list_filled s = turns list_turn s.need (at_first s)

-- ---- the root chunk

unfoldable pub chunked : Site → Work → Work
chunked s w =
    cond (eqb w.number 0)
    (cond (eqb (taken w.free s.chunk_at s.chunk_blocks).number 0)
    (noted w w.want (taken w.free s.chunk_at s.chunk_blocks).list w.agfl
    (mapped w.rmapbt w.rmap (map_rec s.chunk_at s.chunk_blocks own_inodes)))
    (failed w (taken w.free s.chunk_at s.chunk_blocks).number))
    w

-- ---- the answer

abbrev pub no_plan : AgPlan
no_plan = record { agno = 0; length = 0; free = pack_free []; agfl = pack_agfl []; rmap = pack_rmap []; chunk = None }

abbrev pub refused_plan : ℕ → Planned
refused_plan n = record { number = n; plan = no_plan }

unfoldable pub plan_answer : Site → Option ℕ → Work → Planned
plan_answer s chunk w =
    cond (eqb w.number 0)
    (record {
      number = 0;
      plan = record {
        agno = s.agno;
        length = s.length;
        free = w.free;
        agfl = w.agfl;
        rmap = w.rmap;
        chunk = chunk;
      };
    })
    (refused_plan w.number)

-- the plan of a group: group 0 has the root chunk
unfoldable pub plan_of : Site → Planned
plan_of s =
    cond (eqb s.agno 0)
    (plan_answer s (Some s.chunk_at) (chunked s (list_filled s)))
    (plan_answer s None (list_filled s))

-- `plan_ag`: 31 and 29 before the plan
unfoldable pub planned : Geometry → ℕ → Planned
planned g agno = cond (eqb (group_refusal g agno) 0) (plan_of (site_of g agno)) (refused_plan (group_refusal g agno))
