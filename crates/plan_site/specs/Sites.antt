-- What the planner reads of a geometry for one group.
-- Assumes nothing.
use Rattle.std.specs.Prelude.{◌≡◌, true, false, cond, ℕ, ◌+◌, ◌^◌, ◌≤◌, ◌<◌, eqb}
use Rattle.arith.specs.Choice.{bit}
use Rattle.geometry.specs.declared.Geometry.{Geometry}
use Rattle.geometry.specs.Log.{header_of, prealloc_of}
use Rattle.geometry_layout.specs.Places.{ibt_block, rmap_block, refc_block, freelist_of, chunk_of, root_chunk_of, group_blocks}
use Rattle.geometry_places.specs.Answers.{group_refusal}
use Rattle.plan_site.specs.declared.Site.{Site}
use Rattle.plan_site.specs.declared.Sited.{Sited}

unfoldable pub site_of : Geometry → ℕ → Site
site_of g agno =
    record {
      agno = agno;
      length = group_blocks g.dblocks g.agsize g.agcount agno;
      head = prealloc_of g.features g.sectsize g.blocksize;
      need = freelist_of g.features;
      has_log = eqb agno g.logagno;
      log_at = g.log_agbno;
      log_blocks = g.logblocks;
      chunk_at = root_chunk_of g.features g.sectsize g.inodesize g.blocksize;
      chunk_blocks = chunk_of g.inodesize g.blocksize;
      rmapbt = g.features.rmapbt;
      reflink = g.features.reflink;
      bno = header_of g.sectsize g.blocksize;
      ibt = ibt_block (header_of g.sectsize g.blocksize);
      rmap_at = rmap_block g.features (header_of g.sectsize g.blocksize);
      refc_at = refc_block g.features (header_of g.sectsize g.blocksize);
    }

abbrev pub no_site : Site
no_site =
    record {
      agno = 0;
      length = 0;
      head = 0;
      need = 0;
      has_log = false;
      log_at = 0;
      log_blocks = 0;
      chunk_at = 0;
      chunk_blocks = 0;
      rmapbt = false;
      reflink = false;
      bno = 0;
      ibt = 0;
      rmap_at = 0;
      refc_at = 0;
    }

-- `site_of`: 31, 29, or the site
unfoldable pub sited : Geometry → ℕ → Sited
sited g agno =
    cond (eqb (group_refusal g agno) 0) (record { number = 0; site = site_of g agno })
    (record { number = group_refusal g agno; site = no_site })

-- no number of the site passes 32 bits
pub record Narrow (g : Geometry) (k : ℕ) : Type 0 where
  pub header : header_of g.sectsize g.blocksize ≤ 4
  pub length : group_blocks g.dblocks g.agsize g.agcount k < 2 ^ 32
  pub head : prealloc_of g.features g.sectsize g.blocksize < 2 ^ 32
  pub list : freelist_of g.features < 2 ^ 32
  pub log-at : g.log_agbno < 2 ^ 32
  pub log-blocks : g.logblocks < 2 ^ 32
  pub chunk-at : root_chunk_of g.features g.sectsize g.inodesize g.blocksize < 2 ^ 32
  pub chunk-blocks : chunk_of g.inodesize g.blocksize < 2 ^ 32
  pub finobt : bit g.features.finobt ≤ 1
  pub rmapbt : bit g.features.rmapbt ≤ 1

-- what holds of the site of every group of an answer
pub record SoundSite (s : Site) : Type 0 where
  pub length-least : 1024 ≤ s.length
  pub length_most : s.length < 2 ^ 30
  pub head-most : s.head ≤ 10
  pub need-least : 4 ≤ s.need
  pub need-most : s.need ≤ 6
  -- the log begins after the head, and never in group 0
  pub log-after : s.log_at ≡ s.head
  pub log-least : 0 < s.log_blocks
  pub log-most : s.log_blocks < 2 ^ 30
  pub log-not-first : s.agno ≡ 0 → s.has_log ≡ false
  -- the root chunk lies after head and free list
  pub chunk-after : s.head + s.need ≤ s.chunk_at
  pub chunk-least : 0 < s.chunk_blocks
  pub chunk-ends : s.chunk_at + s.chunk_blocks ≤ 80
  -- the parts of the head follow each other
  pub bno-least : 0 < s.bno
  pub ibt-next : s.ibt ≡ s.bno + 2
  pub rmap-after : s.ibt < s.rmap_at
  pub refc-next : s.rmapbt ≡ true → s.refc_at ≡ s.rmap_at + 1
  pub head-next : s.rmapbt ≡ true → s.head ≡ s.rmap_at + 1 + bit s.reflink
