-- The list of an accepted run says the run's sector size.
-- Assumes nothing.
use mathlib.Core.Path.{◌≡◌, refl, sym, ap, ◌∙◌}
use mathlib.Core.List.{List, ◌++◌}
use Prim.Native.Nat.{ℕ, ◌+◌, ◌^◌, ◌≤◌, ◌<◌}
use native.Mathlib.Omega.{arith}
use native.Mathlib.Nat.{mul-le-mul_right}
use lib.Dec.{ltb, lit<}
use lib.Pow.{pow_mono}
use lib.ListN.{length, take, get_or, length-replicate}
use lib.Seq.{length-take-le, take_at}
use Rattle.endian.specs.Bytes.{be_at, zeros}
use Rattle.endian.proofs.Consecutive.{at-inside}
use Rattle.structs.proofs.Reading.{read_number}
use Rattle.geometry.specs.declared.Geometry.{Geometry}
use Rattle.plan.specs.Plan.{planned}
use Rattle.sb.specs.Superblock.{fields_with, sb_fields, sb_bytes}
use Rattle.sb.proofs.Read.{sb-holds, sectsize-back}
use Rattle.sb_states.specs.States.{unfinished_state, state_of}
use Rattle.head_bytes.proofs.Bytes.{head_first}
use Rattle.list_records.specs.Records.{Record, list_bytes}
use Rattle.list_sector.specs.Sector.{magic, sector_in, below_logical}
use Rattle.list_sector.proofs.Said.{list-says}
use Rattle.request.specs.declared.Request.{Request}
use Rattle.request.specs.Parse.{parse_def}
use Rattle.run.specs.declared.Run.{Run}
use Rattle.run.specs.Runs.{run_of, accepted}
use Rattle.list_spec.specs.Listing.{head_blocks, log_block, head_written, list_of}
use Rattle.list_accepted.specs.Accepted.{AcceptedRun}
use Rattle.list_accepted.proofs.Sizes.{sector-least}
use Rattle.list_accepted.proofs.Runs.{run-bounds, run-label, run-uuid-length}
use Rattle.list_accepted.proofs.Sound.{sound}
use Rattle.list_accepted.proofs.Parsed.{accepted-run}
use Rattle.list_sector_laws.specs.Learned.{Learned}
use Rattle.list_sector_laws.proofs.First.{same_first, first_says}
use Rattle.list_sector_laws.proofs.Begins.{first_block, rest_of, list-begins}

module _ (r : Request) (a : AcceptedRun r) where
  abbrev run : Run
  run = run_of r

  abbrev g : Geometry
  g = run.geometry

  -- the unfinished superblock, in a sector
  sector : List ℕ
  sector = sb_bytes g (unfinished_state g run.uuid) (zeros g.sectsize)

  room : 264 ≤ length (zeros g.sectsize)
  room = let m = sector-least g (run-bounds r a) in rw (length-replicate {A = ℕ} g.sectsize 0) (omega arith)

  -- a sector is at most a block
  sector-most : g.sectsize ≤ g.blocksize
  sector-most =
      let s = (run-bounds r a).sizes in
      let w : 2 ^ g.sectlog ≤ 2 ^ g.blocklog = pow_mono s.sector-block in
      omega (arith, s.sector-power, s.block-power)

  -- ---- what it says

  magic-there : be_at 4 0 sector ≡ magic
  unfolding sector sb_fields fields_with unfinished_state
  magic-there =
      read_number (sb_fields g (unfinished_state g run.uuid)) (sb_bytes g (unfinished_state g run.uuid) (zeros g.sectsize))
      (sb-holds g (unfinished_state g run.uuid) (run-uuid-length r a) (run-label r a) (zeros g.sectsize) room)
      0 0 4 magic (omega arith) refl (lit< tt)

  size-there : be_at 2 102 sector ≡ g.sectsize
  unfolding sector unfinished_state
  size-there =
      let s = sound r a in
      let m = sector-most in
      sectsize-back g (unfinished_state g run.uuid) (run-uuid-length r a) (run-label r a) (zeros g.sectsize) room (omega (arith, s.block-most))

  -- ---- group 0's first block begins with it

  head-begins : take g.sectsize (head_written g run.uuid 0) ≡ sector
  unfolding sector head_written state_of
  head-begins = head_first g (planned g 0).plan run.uuid (unfinished_state g run.uuid)

  in_head : (n off : ℕ) → off + n ≤ g.sectsize → be_at n off (head_written g run.uuid 0) ≡ be_at n off sector
  in_head n off h =
      let z : 0 + off ≡ off = omega arith in
      sym (at-inside n 0 g.sectsize off (head_written g run.uuid 0) h ∙ ap (λ (o : ℕ). be_at n o (head_written g run.uuid 0)) z)
      ∙ ap (be_at n off) head-begins

  -- the head has a block, and so has the first record of it
  block-in-head : g.blocksize ≤ length (head_written g run.uuid 0)
  block-in-head =
      let s = sound r a in
      let l = s.head-long 0 (omega (arith, s.two)) in
      let m = mul-le-mul_right g.blocksize (let x : 1 ≤ head_blocks g = omega (arith, s.header-some, s.header-head) in x) in
      omega arith

  block-length : length (first_block run) ≡ g.blocksize
  block-length = length-take-le g.blocksize (head_written g run.uuid 0) block-in-head

  block-says : (n off : ℕ) (rest : List ℕ) → off + n ≤ 512 → be_at n off (first_block run ++ rest) ≡ be_at n off sector
  block-says n off rest h =
      let m = sector-most in
      let k = sector-least g (run-bounds r a) in
      same_first n off g.blocksize (first_block run ++ rest) (head_written g run.uuid 0) (take_at (first_block run) rest g.blocksize block-length) (omega arith)
      ∙ in_head n off (omega arith)

  -- ---- the list

  whole_says : sector_in (list_bytes (list_of run r.device)) ≡ g.sectsize
  whole_says =
      let s = sound r a in
      let b = block-length in
      ap (λ (rs : List Record). sector_in (list_bytes rs)) (list-begins run r.device (omega (arith, s.two)) (omega (arith, s.header-some, s.header-head)))
      ∙ list-says _ _ _ _ _ _ _ (log_block g run.uuid) (first_block run) (rest_of run) (omega (arith, s.log-long, s.block-most)) (omega (arith, s.block-least))
      (block-says 4 0 (list_bytes (rest_of run)) (omega arith) ∙ magic-there)
      ∙ block-says 2 102 (list_bytes (rest_of run)) (omega arith) ∙ size-there

  -- THE FIRST BYTES THAT ARE SENT FOR AN ACCEPTED RUN SAY ITS SECTOR SIZE
  pub run-learned : Learned (run_of r) r.device
  unfolding below_logical
  run-learned =
      record {
        sector = λ n k. first_says n (list_bytes (list_of run r.device)) k ∙ whole_says;
        exactly = λ n logical k. ap (λ (m : ℕ). ltb m logical) (first_says n (list_bytes (list_of run r.device)) k ∙ whole_says);
      }

-- THE SAME FOR EVERY INPUT THAT `accept` ACCEPTS
pub input-learned : (xs : List ℕ) → ((i : ℕ) → get_or xs i 0 < 256) → (accepted xs).number ≡ 0 → Learned (accepted xs) (parse_def xs).device
unfolding accepted
input-learned xs bytes e = run-learned (parse_def xs) (accepted-run xs bytes e)
