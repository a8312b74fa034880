-- The free count of a size, read back from the bytes of the finished superblock.
-- Assumes nothing.
use mathlib.Core.Path.{◌≡◌, refl, ap, ◌∙◌}
use mathlib.Core.List.{List}
use Prim.Native.Nat.{ℕ, ◌≤◌}
use Rattle.arith.specs.Choice.{when}
use Rattle.params.specs.declared.Params.{Params}
use Rattle.geometry.specs.declared.Geometry.{Geometry}
use Rattle.plan_totals.specs.Totals.{free_count}
use Rattle.sb_states.specs.States.{finished_state}
use Rattle.sb_states.proofs.Known.{some-group}
use Rattle.request.specs.declared.Request.{Request}
use Rattle.run.specs.declared.Run.{Run}
use Rattle.run.specs.Runs.{step_of, run_of}
use Rattle.list_spec.specs.Listing.{head_finished}
use Rattle.list_accepted.specs.Accepted.{AcceptedRun, Source}
use Rattle.list_accepted.specs.Superblocks.{free_field, free_named, Says}
use Rattle.list_accepted.proofs.Runs.{run-geometry, source-label, source-plans}
use Rattle.list_accepted.proofs.Superblocks.{finished-says}
use Rattle.inquire_smallest.specs.declared.Found.{Found}
use Rattle.inquire_smallest.specs.Question.{default_groups, free_on_device, smallest_answer, SmallestSize}
use Rattle.inquire_smallest.proofs.Meaning.{smallest-found}

module _ (r : Request) (a : AcceptedRun r) where
  abbrev geometry : Geometry
  geometry = (run_of r).geometry

  abbrev uuid : List ℕ
  uuid = (run_of r).uuid

  source : Source geometry uuid
  source = record { request = r; accepted = a; geometry = refl; uuid = refl }

  -- the bytes have the free count of the geometry
  bytes-say : free_field (head_finished geometry uuid) ≡ free_count geometry
  unfolding free_named when
  bytes-say =
      (finished-says geometry uuid source (some-group geometry (source-label geometry uuid source) (source-plans geometry uuid source))).free

  -- THE FREE COUNT OF A SIZE STANDS IN THE FINISHED SUPERBLOCK THAT AN ACCEPTED RUN ON IT LEAVES
  pub free-left : free_field (head_finished geometry uuid) ≡ free_on_device r.params r.logical r.physical r.device
  unfolding free_on_device finished_state step_of
  free-left = bytes-say ∙ ap free_count (run-geometry r a)

  -- SO A RUN ON THE SIZE THAT IS FOUND LEAVES AT LEAST THE WANTED COUNT
  pub found_left : (p : Params) (start count wanted : ℕ) → (smallest_answer p r.logical r.physical start count wanted).number ≡ 0
      → r.params ≡ default_groups p → r.device ≡ (smallest_answer p r.logical r.physical start count wanted).size
      → wanted ≤ free_field (head_finished geometry uuid)
  found_left p start count wanted z e d =
      rw (free-left, e, d) (smallest-found p r.logical r.physical start count wanted z).enough
