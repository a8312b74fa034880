-- The superblock of a head is read back: the log's place and length, and the free count.
-- Assumes nothing.
use mathlib.Core.Path.{◌≡◌, ap, ◌∙◌}
use mathlib.Core.Bool.{true}
use mathlib.Core.List.{List}
use Prim.Native.Nat.{ℕ, ◌+◌, ◌*◌, ◌/◌, ◌%◌, ◌^◌, ◌≤◌, ◌<◌}
use native.Mathlib.Nat.{add-zero, mul-add-div_right, mul-add-mod_self_right, div-eq_of_lt, mod-eq_of_lt}
use native.Mathlib.Omega.{arith}
use lib.ListN.{length, length-replicate}
use lib.Pow.{pow_pos, pow_mono}
use Rattle.endian.specs.Bytes.{be_at, zeros}
use Rattle.geometry.specs.declared.Geometry.{Geometry}
use Rattle.geometry_answers.specs.Named.{is_answer}
use Rattle.geometry_layout.specs.Places.{fsb_of}
use Rattle.geometry_layout.specs.Bounds.{Bounds}
use Rattle.geometry_layout.proofs.Bounding.{answer-bounds}
use Rattle.geometry_layout.proofs.Inside.{blocks-least, fitting}
use Rattle.sb.specs.declared.SbState.{SbState}
use Rattle.sb.specs.Superblock.{logstart_of, sb_bytes}
use Rattle.sb.proofs.Read.{logstart-back, logblocks-back, fdblocks-back}
use Rattle.plan.specs.declared.AgPlan.{AgPlan}
use Rattle.head_frame.specs.Frames.{frame_of}
use Rattle.head_bytes.specs.Head.{behind_bytes, head_bytes}
use Rattle.head_bytes.proofs.Lending.{sb-length}
use Rattle.reader_decoded.specs.Decoded.{LogRun, log_run_in, count_in}
use Rattle.reader_decoded.proofs.Parts.{at_before}

abbrev log_run : ℕ → ℕ → ℕ → LogRun
log_run group at blocks = record { group = group; at = at; blocks = blocks }

module _ (g : Geometry) (p : AgPlan) (uuid : List ℕ) (s : SbState) (l : length g.label ≡ 12) (h : is_answer g ≡ true) (u : length s.uuid ≡ 16) where
  abbrev xs : List ℕ
  xs = head_bytes g p uuid s

  abbrev SB : List ℕ
  SB = sb_bytes g s (zeros g.sectsize)

  bounds : Bounds g
  bounds = answer-bounds g l h

  zeros-long : 264 ≤ length (zeros g.sectsize)
  zeros-long =
      let e = length-replicate {A = ℕ} g.sectsize 0 in
      let a = bounds.sizes.sector-power in
      let b : 2 ^ 9 ≤ 2 ^ g.sectlog = pow_mono {i = 9} bounds.sizes.sector-least in
      omega arith

  -- a number in the first 264 bytes is the superblock's
  number_in : (n off : ℕ) → off + n ≤ 264 → be_at n off xs ≡ be_at n off SB
  unfolding head_bytes
  number_in n off i =
      let a = sb-length g s (zeros g.sectsize) in
      let b = zeros-long in
      at_before SB (behind_bytes (frame_of g p) p uuid) n off (omega arith)

  -- THE FREE COUNT IS THE STATE'S
  pub count-back : s.fdblocks < 2 ^ 64 → count_in xs ≡ s.fdblocks
  unfolding count_in
  count-back f = number_in 8 144 (omega arith) ∙ fdblocks-back g s u l (zeros g.sectsize) zeros-long f

  -- ---- the log

  log-below : g.log_agbno < 2 ^ g.agblklog
  log-below =
      let a = bounds.places.log-start in
      let b = bounds.places.head-most in
      let c = bounds.places.chunk_inside in
      let d = bounds.groups.log-enough in
      omega arith

  start_fits : logstart_of g < 2 ^ 64
  unfolding logstart_of fsb_of
  start_fits =
      let a = bounds.places.log-start in
      let b = bounds.places.head-most in
      let c = blocks-least g bounds g.logagno in
      let f = (fitting g bounds g.logagno g.log_agbno bounds.places.log-inside (omega arith)).fsb-most in
      omega arith

  start-in : be_at 8 48 xs ≡ g.logagno * 2 ^ g.agblklog + g.log_agbno
  unfolding logstart_of fsb_of
  start-in = number_in 8 48 (omega arith) ∙ logstart-back g s u l (zeros g.sectsize) zeros-long start_fits

  group-is : (g.logagno * 2 ^ g.agblklog + g.log_agbno) / 2 ^ g.agblklog ≡ g.logagno
  group-is =
      mul-add-div_right (pow_pos g.agblklog) g.logagno g.log_agbno
      ∙ ap (λ (x : ℕ). g.logagno + x) (div-eq_of_lt log-below) ∙ add-zero g.logagno

  at-is : (g.logagno * 2 ^ g.agblklog + g.log_agbno) % 2 ^ g.agblklog ≡ g.log_agbno
  at-is = mul-add-mod_self_right g.logagno (2 ^ g.agblklog) g.log_agbno ∙ mod-eq_of_lt log-below

  pub group-in : (log_run_in g xs).group ≡ g.logagno
  unfolding log_run_in
  group-in = ap (λ (n : ℕ). n / 2 ^ g.agblklog) start-in ∙ group-is

  pub at_in : (log_run_in g xs).at ≡ g.log_agbno
  unfolding log_run_in
  at_in = ap (λ (n : ℕ). n % 2 ^ g.agblklog) start-in ∙ at-is

  pub blocks-in : (log_run_in g xs).blocks ≡ g.logblocks
  unfolding log_run_in
  blocks-in = number_in 4 96 (omega arith) ∙ logblocks-back g s u l (zeros g.sectsize) zeros-long (let b = bounds.places.log-blocks in omega arith)

  -- THE LOG IS WHERE THE GEOMETRY HAS IT
  pub log-in : log_run_in g xs ≡ record { group = g.logagno; at = g.log_agbno; blocks = g.logblocks }
  unfolding log_run_in
  log-in =
      ap (λ (n : ℕ). log_run n (log_run_in g xs).at (log_run_in g xs).blocks) group-in
      ∙ ap (λ (n : ℕ). log_run g.logagno n (log_run_in g xs).blocks) at_in
      ∙ ap (λ (n : ℕ). log_run g.logagno g.log_agbno n) blocks-in
