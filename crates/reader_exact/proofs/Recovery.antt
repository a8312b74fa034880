-- RECOVERY: from the bytes that any accepted run leaves the reader recovers its geometry but for the sizing, its UUID and every group's plan.
-- Assumes nothing.
use mathlib.Core.Path.{◌≡◌, refl, ap, sym, ◌∙◌}
use mathlib.Core.Bool.{false}
use mathlib.Core.List.{List}
use Prim.Native.Nat.{ℕ, ◌<◌}
use Rattle.geometry.specs.declared.Geometry.{Geometry}
use Rattle.plan.specs.declared.Planned.{Planned}
use Rattle.plan.specs.Plan.{planned}
use Rattle.request.specs.declared.Request.{Request}
use Rattle.run.specs.Runs.{run_of}
use Rattle.list_spec.specs.Listing.{log_block, head_left}
use Rattle.list_accepted.specs.Accepted.{AcceptedRun, Source}
use Rattle.list_accepted.proofs.Runs.{source_of}
use Rattle.reader_exact.specs.declared.Found.{Found}
use Rattle.reader_names.specs.Sizings.{plain}
use Rattle.reader_exact.specs.Read.{found, read_group0, read_group, read_log}
use Rattle.reader_exact.specs.Left.{reported}
use Rattle.reader_exact.proofs.Heads.{source-handed}
use Rattle.reader_exact.proofs.Sizings.{reported-plain, reported-old, reported-source, reported-planned, reported-log, reported-here}
use Rattle.reader_exact.proofs.First.{complete-first}
use Rattle.reader_exact.proofs.Others.{complete-group, exact-log}

-- what the reader gives for the bytes of a run with this geometry and UUID
pub record Recovered (g : Geometry) (u : List ℕ) : Type 0 where
  pub first : read_group0 (head_left g u 0) ≡ found (reported g) u (planned g 0).plan
  -- what is reported is the geometry but for the sizing
  pub sizing : plain (reported g) ≡ plain g
  -- of a plain run it is the geometry itself
  pub own : g.roomy ≡ false → reported g ≡ g
  -- and with it the other heads and the log block are read
  pub group : (k : ℕ) → k < g.agcount → read_group (reported g) u k (head_left g u k) ≡ record { number = 0; plan = (planned g k).plan }
  pub log-block : read_log (reported g) u (log_block g u) ≡ 0
  -- as with the geometry itself
  pub own-group : (k : ℕ) → k < g.agcount → read_group g u k (head_left g u k) ≡ record { number = 0; plan = (planned g k).plan }
  pub own-log : read_log g u (log_block g u) ≡ 0

pub source-recovered : (g : Geometry) (u : List ℕ) → Source g u → Recovered g u
source-recovered g u s =
    record {
      first = complete-first g u s;
      sizing = reported-plain g;
      own = reported-old g;
      group =
          λ k h.
          complete-group (reported g) u k (head_left g u k) (reported-here g u s k (head_left g u k) (record { source = s; group = h; bytes = refl }))
          ∙ ap (λ (p : Planned). record { number = 0; plan = p.plan }) (reported-planned g u s k);
      log-block =
          let t = reported-source g u s in
          (exact-log (reported g) u (log_block g u) (source-handed (reported g) u t)).1 (record { source = t; bytes = sym (reported-log g u s) });
      own-group = λ k h. complete-group g u k (head_left g u k) (record { source = s; group = h; bytes = refl });
      own-log = (exact-log g u (log_block g u) (source-handed g u s)).1 (record { source = s; bytes = refl });
    }

-- from any accepted run's bytes
pub recovered : (r : Request) → AcceptedRun r → Recovered (run_of r).geometry (run_of r).uuid
recovered r a = source-recovered (run_of r).geometry (run_of r).uuid (source_of r a)

-- the same head in group 0, the same geometry but for the sizing, and the same UUID
one-source : (g h : Geometry) (u v : List ℕ) → Source g u → Source h v → head_left g u 0 ≡ head_left h v 0 → (reported g ≡ reported h) × (u ≡ v)
one-source g h u v s t e =
    let f : found (reported g) u (planned g 0).plan ≡ found (reported h) v (planned h 0).plan = sym (complete-first g u s) ∙ ap read_group0 e ∙ complete-first h v t in
    (ap (λ (x : Found). x.geometry) f, ap (λ (x : Found). x.uuid) f)

-- two runs that leave the same head in group 0 have the same geometry, as it is reported, and the same UUID
pub same-run : (r q : Request) → AcceptedRun r → AcceptedRun q → head_left (run_of r).geometry (run_of r).uuid 0 ≡ head_left (run_of q).geometry (run_of q).uuid 0
    → (reported (run_of r).geometry ≡ reported (run_of q).geometry) × ((run_of r).uuid ≡ (run_of q).uuid)
same-run r q a b e = one-source (run_of r).geometry (run_of q).geometry (run_of r).uuid (run_of q).uuid (source_of r a) (source_of q b) e

-- and the same geometry but for the sizing
pub same-but-sizing : (r q : Request) → AcceptedRun r → AcceptedRun q → head_left (run_of r).geometry (run_of r).uuid 0 ≡ head_left (run_of q).geometry (run_of q).uuid 0
    → plain (run_of r).geometry ≡ plain (run_of q).geometry
same-but-sizing r q a b e = sym (reported-plain (run_of r).geometry) ∙ ap plain (same-run r q a b e).0 ∙ reported-plain (run_of q).geometry

-- two plain runs that leave the same head in group 0 have the same geometry
pub same-plain-run : (r q : Request) → AcceptedRun r → AcceptedRun q → (run_of r).geometry.roomy ≡ false → (run_of q).geometry.roomy ≡ false
    → head_left (run_of r).geometry (run_of r).uuid 0 ≡ head_left (run_of q).geometry (run_of q).uuid 0 → (run_of r).geometry ≡ (run_of q).geometry
same-plain-run r q a b x y e = sym (reported-old (run_of r).geometry x) ∙ (same-run r q a b e).0 ∙ reported-old (run_of q).geometry y
