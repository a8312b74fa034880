-- The station cases as one table: options, device size, what the geometry step answers, and what planning every group answers.
-- Assumes nothing.
use Rattle.std.specs.Prelude.{Bool, true, false, ◌&&◌, cond, List, [], ◌∷◌, ◌++◌, ℕ, zero, suc, ◌+◌, ◌*◌, eqb, replicate, Option, Some, None}
use Rattle.params.specs.declared.Features.{Features}
use Rattle.params.specs.declared.Params.{Params}
use Rattle.params.specs.Params.{no_options, with_sector_size, with_agcount, with_agsize, with_features, with_roomy}
use Rattle.geometry.specs.declared.Geometry.{Geometry}
use Rattle.geometry.specs.declared.Computed.{Computed}
use Rattle.geometry.specs.Limits.{mib}
use Rattle.geometry.specs.Compute.{compute_def}
use Rattle.geometry_layout.specs.Places.{ino_of, root_chunk_of}
use Rattle.plan_site.specs.Sites.{site_of}
use Rattle.plan.specs.declared.AgPlan.{AgPlan}
use Rattle.plan.specs.Plan.{planned}
use Rattle.plan_closed.specs.Closed.{free_before_list}
use Rattle.table_lines.specs.declared.Row.{Row}
use Rattle.table_lines.specs.declared.Total.{Total}
use Rattle.plan_totals.specs.Totals.{plans_number, row_of, total_of}
use Rattle.sb.specs.declared.SbState.{SbState}
use Rattle.sb_states.specs.States.{finished_state}

pub record StationCase : Type 0 where
  pub options : Params
  pub device : ℕ
  pub geometry : List ℕ
  pub plans : List ℕ

-- ---- what is compared

-- the root directory's inode: the first of the root chunk in group 0
unfoldable pub root_inode_number : Geometry → ℕ
root_inode_number g = ino_of g.agblklog g.inopblog 0 (root_chunk_of g.features g.sectsize g.inodesize g.blocksize) 0

-- of a geometry: block count, group size, group count, log blocks, head blocks (the log starts after the head), root inode
unfoldable pub shown_geometry : Geometry → List ℕ
shown_geometry g =
    0 ∷ g.dblocks ∷ g.agsize ∷ g.agcount ∷ g.logblocks ∷ g.log_agbno ∷ root_inode_number g ∷ []

-- of a refusal the number alone
unfoldable pub shown_step : Computed → List ℕ
shown_step r = cond (eqb r.number 0) (shown_geometry r.geometry) (r.number ∷ [])

-- where the chunk is, 0 for none
abbrev pub chunk_start : Option ℕ → ℕ
chunk_start None = 0
chunk_start (Some at) = at

abbrev pub plan_in : Geometry → ℕ → AgPlan
plan_in g k = (planned g k).plan

-- the superblock's state at the end; no number of it depends on the UUID
abbrev pub finished_of : Geometry → SbState
finished_of g = finished_state g (replicate 16 0)

-- of the plans: the finished superblock's root inode and free count, first block of the chunk, free records of group 0 and of the log group
unfoldable pub accepted_plans : Geometry → List ℕ
accepted_plans g =
    0 ∷ (finished_of g).rootino ∷ (finished_of g).fdblocks ∷ chunk_start (plan_in g 0).chunk ∷ (plan_in g 0).free.len
    ∷ (plan_in g g.logagno).free.len ∷ []

-- of a refusal the number, and the blocks that are left in the log group
unfoldable pub plans_by : ℕ → Geometry → List ℕ
plans_by zero g = accepted_plans g
plans_by (suc n) g = suc n ∷ free_before_list (site_of g g.logagno) ∷ []

-- of a refused geometry nothing
unfoldable pub plans_of : Computed → List ℕ
plans_of r = cond (eqb r.number 0) (plans_by (plans_number r.geometry) r.geometry) []

unfoldable pub same : List ℕ → List ℕ → Bool
same [] [] = true
same [] (y ∷ ys) = false
same (x ∷ xs) [] = false
same (x ∷ xs) (y ∷ ys) = eqb x y && same xs ys

abbrev pub compared : Computed → StationCase → Bool
compared r k = same (shown_step r) k.geometry && same (plans_of r) k.plans

unfoldable pub passes : StationCase → Bool
passes k = compared (compute_def k.options k.device 512 512) k

unfoldable pub all_stations : List StationCase → Bool
all_stations [] = true
all_stations (k ∷ ks) = passes k && all_stations ks

-- ---- the table

abbrev pub station_case : Params → ℕ → List ℕ → List ℕ → StationCase
station_case options device geometry plans = record { options = options; device = device; geometry = geometry; plans = plans }

-- a refusal of the geometry step has no plans
abbrev pub station_refused : Params → ℕ → ℕ → StationCase
station_refused options device n = station_case options device (n ∷ []) []

-- planning answers 25, with so many blocks left
abbrev pub plan_short : ℕ → List ℕ
plan_short left = 25 ∷ left ∷ []

-- bytes of a block in every case
abbrev pub block : ℕ
block = 4096

-- all features but rmapbt
abbrev pub no_rmapbt : Features
no_rmapbt =
    record { finobt = true; rmapbt = false; reflink = true; inobtcount = true; bigtime = true; nrext64 = true; sparse = true }

unfoldable pub stations : List StationCase
stations =
    -- K1
    station_case no_options (1024 * mib) (0 ∷ 262144 ∷ 65536 ∷ 4 ∷ 16384 ∷ 7 ∷ 128 ∷ []) (0 ∷ 128 ∷ 245724 ∷ 16 ∷ 2 ∷ 1 ∷ [])
    -- K2
    ∷ station_refused no_options (299 * mib) 21
    ∷ station_case no_options (300 * mib) (0 ∷ 76800 ∷ 19200 ∷ 4 ∷ 16384 ∷ 7 ∷ 128 ∷ []) (0 ∷ 128 ∷ 60380 ∷ 16 ∷ 2 ∷ 1 ∷ [])
    -- K3, K4, K5
    ∷ station_refused (with_agcount no_options 5) (5 * 16395 * block) 22
    ∷ station_case (with_agcount no_options 5) (5 * 16396 * block) (0 ∷ 81980 ∷ 16396 ∷ 5 ∷ 16384 ∷ 7 ∷ 128 ∷ []) (plan_short 5)
    ∷ station_case (with_agcount no_options 5) (5 * 16397 * block) (0 ∷ 81985 ∷ 16397 ∷ 5 ∷ 16384 ∷ 7 ∷ 128 ∷ [])
    (0 ∷ 128 ∷ 65558 ∷ 16 ∷ 2 ∷ 0 ∷ [])
    -- K6, K7
    ∷ station_case (with_agsize no_options (76800 * block)) (80896 * block) (0 ∷ 80896 ∷ 76800 ∷ 2 ∷ 16384 ∷ 7 ∷ 128 ∷ []) (plan_short 0)
    ∷ station_refused (with_agsize no_options (76800 * block)) (80895 * block) 23
    -- K4 and K6 in roomy sizing
    ∷ station_refused (with_roomy (with_agcount no_options 5) true) (5 * 16396 * block) 22
    ∷ station_refused (with_roomy (with_agsize no_options (76800 * block)) true) (80896 * block) 22
    -- K8
    ∷ station_case (with_agsize no_options (87000 * block)) (1024 * mib) (0 ∷ 261000 ∷ 87000 ∷ 3 ∷ 16384 ∷ 7 ∷ 128 ∷ [])
    (0 ∷ 128 ∷ 244587 ∷ 16 ∷ 2 ∷ 1 ∷ [])
    ∷ station_refused (with_agcount (with_agsize no_options (87000 * block)) 3) (1024 * mib) 14
    -- K9
    ∷ station_refused (with_features (with_agcount no_options 20001) no_rmapbt) (400000000 * block) 24
    -- K10
    ∷ station_case (with_sector_size no_options 4096) (1024 * mib) (0 ∷ 262144 ∷ 65536 ∷ 4 ∷ 16384 ∷ 10 ∷ 128 ∷ [])
    (0 ∷ 128 ∷ 245712 ∷ 16 ∷ 1 ∷ 1 ∷ [])
    ∷ []

-- ---- planlist's example

-- a row's fields in the order of the table, without its number
abbrev pub fields : Row → List ℕ
fields r = r.group ∷ r.length ∷ r.log ∷ r.list ∷ r.chunk ∷ r.free ∷ r.longest ∷ []

abbrev pub sums : Total → List ℕ
sums t = t.length ∷ t.log ∷ t.list ∷ t.chunk ∷ t.free ∷ []

-- the rows of groups k to k + n, one after the other, then the last line
unfoldable pub station_rows : Geometry → ℕ → ℕ → List ℕ
station_rows g k zero = sums (total_of g)
station_rows g k (suc n) = fields (row_of g k) ++ station_rows g (k + 1) n

unfoldable pub example_rows : List ℕ
example_rows = station_rows (compute_def no_options 1073741824 512 512).geometry 0 4

unfoldable pub example : List ℕ
example =
    0 ∷ 65536 ∷ 0 ∷ 6 ∷ 8 ∷ 65515 ∷ 65512
    ∷ 1 ∷ 65536 ∷ 0 ∷ 6 ∷ 0 ∷ 65523 ∷ 65523
    ∷ 2 ∷ 65536 ∷ 16384 ∷ 6 ∷ 0 ∷ 49139 ∷ 49139
    ∷ 3 ∷ 65536 ∷ 0 ∷ 6 ∷ 0 ∷ 65523 ∷ 65523
    ∷ 262144 ∷ 16384 ∷ 24 ∷ 8 ∷ 245700
    ∷ []
