-- Every byte of a head is Below 256; a plan that is the planner's for its group adds nothing to geometry and group.
-- Assumes nothing.
use mathlib.Core.Path.{◌≡◌, ap}
use mathlib.Core.Bool.{Bool, true, false, cond}
use mathlib.Core.List.{List, [], ◌∷◌, ◌++◌}
use Prim.Native.Nat.{ℕ, ◌*◌, ◌-◌}
use lib.ListN.{length, replicate}
use Rattle.endian.specs.Bytes.{be_bytes, Below, zeros}
use Rattle.geometry.specs.declared.Geometry.{Geometry}
use Rattle.geometry_layout.specs.Places.{ibt_block, fibt_block}
use Rattle.btree.specs.declared.records.AllocRec.{AllocRec}
use Rattle.btree.specs.declared.records.InobtRec.{InobtRec}
use Rattle.btree.specs.declared.records.RmapRec.{RmapRec}
use Rattle.btree.specs.Records.{records_bytes, alloc_fields, alloc_bytes, inobt_fields, inobt_bytes, rmap_fields, rmap_bytes}
use Rattle.btree.specs.Leaf.{leaf_header, leaf_fields, leaf_bytes}
use Rattle.arith.specs.Choice.{bit}
use Rattle.head_leaves.specs.Leaves.{chunk_rec, few}
use Rattle.plan_free.specs.Free.{free_of}
use Rattle.plan_rmap.specs.Rmap.{rmap_of}
use Rattle.head_bytes.specs.Sorting.{by_size}
use Rattle.ag.specs.declared.agf.Agf.{Agf}
use Rattle.ag.specs.declared.agi.Agi.{Agi}
use Rattle.ag.specs.Agf.{agf_fields, agf_bytes}
use Rattle.ag.specs.Agi.{agi_fields, agi_bytes}
use Rattle.ag.specs.Agfl.{agfl_header, agfl_slots, agfl_fields, agfl_bytes}
use Rattle.sb.specs.declared.SbState.{SbState}
use Rattle.sb.specs.Superblock.{large_sector, log_sector, fields_with, sb_fields, sb_bytes}
use Rattle.plan.specs.declared.AgPlan.{AgPlan}
use Rattle.plan.specs.Plan.{planned}
use Rattle.plan_same.specs.Same.{is_plan}
use Rattle.plan_same.proofs.Planners.{is-plan-same}
use Rattle.head_frame.specs.declared.Frame.{Frame}
use Rattle.head_frame.specs.Frames.{frame_of}
use Rattle.head_bytes.specs.Head.{agf_for, agi_for, ino_magic, fino_magic, root_bytes, bno_root, cnt_root, inode_root, rmap_root, refc_root, sectors_bytes, roots_bytes, behind_bytes, head_bytes}
use Rattle.head_bytes.proofs.Below.{below-append, below-be, below-run, below-zeros, below-choose, AllBelow, all_append, below-write, below-stamped, below-listed}

-- ---- records

alloc-below : (r : AllocRec) → Below 256 (alloc_bytes r)
unfolding alloc_bytes
alloc-below r = below-write (alloc_fields r) (replicate 8 0) (below-be 4 r.start, (below-be 4 r.count, tt)) (below-zeros 8)

rmap-below : (r : RmapRec) → Below 256 (rmap_bytes r)
unfolding rmap_bytes
rmap-below r = below-write (rmap_fields r) (replicate 24 0) (below-be 4 r.start, (below-be 4 r.count, (below-be 8 r.owner, (below-be 8 0, tt)))) (below-zeros 24)

inobt-below : (t : Bool) (r : InobtRec) → Below 256 (inobt_bytes t r)
unfolding inobt_bytes
inobt-below true r =
    below-write (inobt_fields true r) (replicate 16 0)
    (below-be 4 r.startino, (below-be 2 r.holemask, (below-be 1 r.count, (below-be 1 r.freecount, (below-be 8 r.free, tt))))) (below-zeros 16)
inobt-below false r = below-write (inobt_fields false r) (replicate 16 0) (below-be 4 r.startino, (below-be 4 r.freecount, (below-be 8 r.free, tt))) (below-zeros 16)

module _ (uuid : List ℕ) (u : Below 256 uuid) where
  leaf-below : (magic daddr agno : ℕ) (recs : List ℕ) (n len : ℕ) → Below 256 recs → Below 256 (leaf_bytes magic daddr agno uuid recs n len)
  unfolding leaf_bytes leaf_fields leaf_header
  leaf-below magic daddr agno recs n len b =
      below-stamped 52 _
      (below-write (leaf_fields magic daddr agno uuid recs n) (replicate len 0)
      (below-be 4 magic, (below-be 2 0, (below-be 2 n, (below-be 4 _, (below-be 4 _, (below-be 8 daddr, (below-be 8 0, (u, (below-be 4 agno, (b, tt)))))))))) (below-zeros len))

  agf-below : (a : Agf) (xs : List ℕ) → Below 256 xs → Below 256 (agf_bytes a uuid xs)
  unfolding agf_bytes agf_fields
  agf-below a xs x =
      let b : (v : ℕ) → Below 256 (be_bytes 4 v) = below-be 4 in
      below-stamped 216 _
      (below-write (agf_fields a uuid) xs
      (b _, (b _, (b _, (b _, (b _, (b _, (b _, (b _, (b _, (b _, (b _, (b _, (b _, (b _, (b _, (b _, (u, (b _, (b _, (b _, (b _, (below-be 8 0, tt)))))))))))))))))))))) x)

  agi-below : (a : Agi) (xs : List ℕ) → Below 256 xs → Below 256 (agi_bytes a uuid xs)
  unfolding agi_bytes agi_fields
  agi-below a xs x =
      let b : (v : ℕ) → Below 256 (be_bytes 4 v) = below-be 4 in
      below-stamped 312 _
      (below-write (agi_fields a uuid) xs
      (b _, (b _, (b _, (b _, (b _, (b _, (b _, (b _, (b _, (b _, (below-run 4 _, (u, (below-be 8 0, (b _, (b _, (b _, (b _, tt))))))))))))))))) x)

  agfl-below : (agno first : ℕ) (list xs : List ℕ) → Below 256 xs → Below 256 (agfl_bytes agno uuid first list xs)
  unfolding agfl_bytes agfl_fields agfl_header agfl_slots
  agfl-below agno first list xs x =
      below-stamped 32 _
      (below-write (agfl_fields (length xs) agno uuid first list) xs (below-be 4 _, (below-be 4 agno, (u, (below-be 8 0, (below-run 4 _, tt))))) x)

-- ---- the superblock

log-below : (t : Bool) (log size : ℕ) → AllBelow (log_sector t log size)
log-below true log size = (below-be 1 log, (below-be 2 size, tt))
log-below false log size = tt

sb-below : (g : Geometry) (s : SbState) (xs : List ℕ) → Below 256 g.label → Below 256 s.uuid → Below 256 xs → Below 256 (sb_bytes g s xs)
unfolding sb_bytes sb_fields fields_with
sb-below g s xs l u x =
    let a : (v : ℕ) → Below 256 (be_bytes 1 v) = below-be 1 in
    let b : (v : ℕ) → Below 256 (be_bytes 2 v) = below-be 2 in
    let c : (v : ℕ) → Below 256 (be_bytes 4 v) = below-be 4 in
    let d : (v : ℕ) → Below 256 (be_bytes 8 v) = below-be 8 in
    below-stamped 224 _
    (below-write (sb_fields g s) xs (
      c _,
      (
        c _,
        (
          d _,
          (
            d _,
            (
              d _,
              (
                u,
                (
                  d _,
                  (
                    d _,
                    (
                      d _,
                      (
                        d _,
                        (
                          c _,
                          (
                            c _,
                            (
                              c _,
                              (
                                c _,
                                (
                                  c _,
                                  (
                                    b _,
                                    (
                                      b _,
                                      (
                                        b _,
                                        (
                                          b _,
                                          (
                                            l,
                                            (
                                              a _,
                                              (
                                                a _,
                                                (
                                                  a _,
                                                  (
                                                    a _,
                                                    (
                                                      a _,
                                                      (
                                                        a _,
                                                        (
                                                          a _,
                                                          (
                                                            a _,
                                                            (
                                                              d _,
                                                              (
                                                                d _,
                                                                (
                                                                  d _,
                                                                  (
                                                                    d _,
                                                                    (
                                                                      d _,
                                                                      (
                                                                        d _,
                                                                        (
                                                                          c _,
                                                                          (
                                                                            c _,
                                                                            (
                                                                              c _,
                                                                              (
                                                                                a _,
                                                                                all_append (log_sector (large_sector g) g.lsectlog g.lsectsize) _ (log-below (large_sector g) g.lsectlog g.lsectsize)
                                                                                    (c _, (c _, (c _, (c _, (c _, (c _, (c _, (c _, (d _, (d _, tt)))))))))),
                                                                              ),
                                                                            ),
                                                                          ),
                                                                        ),
                                                                      ),
                                                                    ),
                                                                  ),
                                                                ),
                                                              ),
                                                            ),
                                                          ),
                                                        ),
                                                      ),
                                                    ),
                                                  ),
                                                ),
                                              ),
                                            ),
                                          ),
                                        ),
                                      ),
                                    ),
                                  ),
                                ),
                              ),
                            ),
                          ),
                        ),
                      ),
                    ),
                  ),
                ),
              ),
            ),
          ),
        ),
      ),
    ) x)

-- ---- the head

module _ (w : Frame) (p : AgPlan) (uuid : List ℕ) (u : Below 256 uuid) where
  root_below : (magic b : ℕ) (recs : List ℕ) (n : ℕ) → Below 256 recs → Below 256 (root_bytes w uuid magic b recs n)
  unfolding root_bytes
  root_below magic b recs n r = leaf-below uuid u magic _ w.agno recs n w.block r

  inode-below : (magic b : ℕ) → Below 256 (inode_root w uuid magic b)
  unfolding inode_root
  inode-below magic b =
      let recs = few (bit w.has_chunk) (chunk_rec w.newino) in
      root_below magic b (records_bytes (inobt_bytes w.features.sparse) recs) (bit w.has_chunk) (below-listed (inobt_bytes w.features.sparse) (inobt-below w.features.sparse) recs)

  roots-below : Below 256 (roots_bytes w p uuid)
  unfolding roots_bytes bno_root cnt_root rmap_root refc_root
  roots-below =
      below-append 256 (bno_root w uuid p.free) _ (root_below _ _ _ _ (below-listed alloc_bytes alloc-below (free_of p.free)))
      (below-append 256 (cnt_root w uuid p.free) _ (root_below _ _ _ _ (below-listed alloc_bytes alloc-below (by_size (free_of p.free))))
      (below-append 256 (inode_root w uuid ino_magic (ibt_block w.header)) _ (inode-below _ _)
      (below-append 256 (cond w.features.finobt (inode_root w uuid fino_magic (fibt_block w.header)) []) _ (below-choose w.features.finobt _ (inode-below _ _))
      (below-append 256 (cond w.features.rmapbt (rmap_root w uuid p.rmap) []) _ (below-choose w.features.rmapbt _ (root_below _ _ _ _ (below-listed rmap_bytes rmap-below (rmap_of p.rmap))))
      (below-choose w.features.reflink _ (root_below _ _ [] _ tt))))))

  behind-below : Below 256 (behind_bytes w p uuid)
  unfolding behind_bytes sectors_bytes
  behind-below =
      let z = below-zeros w.sector in
      below-append 256 (sectors_bytes w p uuid) _
      (below-append 256 (agf_bytes (agf_for w p.free p.agfl.len) uuid (zeros w.sector)) _ (agf-below uuid u _ _ z)
      (below-append 256 (agi_bytes (agi_for w) uuid (zeros w.sector)) _ (agi-below uuid u _ _ z) (agfl-below uuid u _ _ _ _ z)))
      (below-append 256 (zeros (w.header * w.block - 4 * w.sector)) _ (below-zeros (w.header * w.block - 4 * w.sector)) roots-below)

-- EVERY BYTE OF A HEAD IS BELOW 256
pub head-below : (g : Geometry) (p : AgPlan) (uuid : List ℕ) (s : SbState) → Below 256 g.label → Below 256 s.uuid → Below 256 uuid → Below 256 (head_bytes g p uuid s)
unfolding head_bytes
head-below g p uuid s l v u =
    below-append 256 (sb_bytes g s (zeros g.sectsize)) _ (sb-below g s (zeros g.sectsize) l v (below-zeros g.sectsize)) (behind-below (frame_of g p) p uuid u)

-- A HEAD DEPENDS ON GEOMETRY, GROUP, UUID AND STATE ALONE: the plan is the planner's for its group
pub head-of-group : (g : Geometry) (p : AgPlan) (uuid : List ℕ) (s : SbState) → is_plan g p ≡ true → head_bytes g p uuid s ≡ head_bytes g (planned g p.agno).plan uuid s
head-of-group g p uuid s h = ap (λ (q : AgPlan). head_bytes g q uuid s) (is-plan-same g p h)
