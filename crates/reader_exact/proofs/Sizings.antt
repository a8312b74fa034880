-- Where a geometry is an answer under both sizings, all that a run leaves is the same for both.
-- Assumes nothing.
use mathlib.Core.Path.{◌≡◌, refl, ap, ap₂, sym, subst, ◌∙◌}
use mathlib.Core.Bool.{Bool, true, false, not, cond}
use mathlib.Core.List.{List, [], ◌∷◌, ◌++◌}
use Prim.Native.Nat.{ℕ, ◌<◌}
use lib.Dec.{eqb, leb}
use Rattle.endian.specs.Bytes.{zeros}
use Rattle.refusals.specs.Numbers.{no_answer, no_place}
use Rattle.refusals.specs.Table.{◌if◌, first}
use Rattle.seqs.proofs.Laws.{choose-elim}
use Rattle.geometry.specs.declared.Geometry.{Geometry}
use Rattle.geometry_answers.specs.Named.{is_answer}
use Rattle.geometry_answers.specs.Answers.{TypedGeometry}
use Rattle.sb.specs.declared.SbState.{SbState}
use Rattle.sb.specs.Superblock.{large_sector, version_of, logstart_of, fields_with, sb_fields, sb_bytes}
use Rattle.geometry_places.specs.Answers.{group_refusal, root_chunk, root_ino, initial_fdblocks}
use Rattle.plan_site.specs.Sites.{site_of}
use Rattle.plan.specs.declared.AgPlan.{AgPlan}
use Rattle.plan.specs.declared.Planned.{Planned}
use Rattle.plan.specs.Plan.{refused_plan, plan_of, planned}
use Rattle.plan_totals.specs.Totals.{first_to, sum_to, free_of_plan, plans_number, free_count}
use Rattle.head_frame.specs.Frames.{frame_of}
use Rattle.head_bytes.specs.Head.{behind_bytes, head_bytes}
use Rattle.sb_states.specs.States.{primary_with, secondary_with, names_root, secondary_state, unfinished_state, finished_state, state_of}
use Rattle.list_spec.specs.Listing.{log_unit, first_record, log_block, head_written, head_finished, head_left}
use Rattle.list_accepted.specs.Accepted.{Source}
use Rattle.list_accepted.proofs.Runs.{source-plans, source-answer}
use Rattle.reader_names.specs.Sizings.{sized, plain}
use Rattle.reader_exact.specs.Left.{Handed, HeadLeftBy, reported}
use Rattle.reader_exact.proofs.Sources.{source}
use Rattle.reader_exact.proofs.Heads.{source-handed}

-- a geometry of plain sizing is plain
pub plain-is : (g : Geometry) → g.roomy ≡ false → plain g ≡ g
plain-is g e = ap (sized g g.logblocks) (sym e)

-- ---- what reads the sizing nowhere

sb-plain : (g : Geometry) (s : SbState) (xs : List ℕ) → sb_bytes (plain g) s xs ≡ sb_bytes g s xs
unfolding sb_bytes sb_fields fields_with large_sector version_of logstart_of
sb-plain g s xs = refl

head_plain : (g : Geometry) (p : AgPlan) (u : List ℕ) (s : SbState) → head_bytes (plain g) p u s ≡ head_bytes g p u s
unfolding head_bytes frame_of
head_plain g p u s = ap (λ (xs : List ℕ). xs ++ behind_bytes (frame_of g p) p u) (sb-plain g s (zeros g.sectsize))

pub log-plain : (g : Geometry) (u : List ℕ) → log_block (plain g) u ≡ log_block g u
unfolding log_block first_record log_unit
log-plain g u = refl

-- ---- what reads it in 31 alone

module _ (g : Geometry) (a : is_answer g ≡ true) (b : is_answer (plain g) ≡ true) where
  refusal-plain : (k : ℕ) → group_refusal (plain g) k ≡ group_refusal g k
  unfolding group_refusal
  refusal-plain k = ap (λ (t : Bool). first (no_answer if not t ∷ no_place if leb g.agcount k ∷ []) 0) (b ∙ sym a)

  pub planned-plain : (k : ℕ) → planned (plain g) k ≡ planned g k
  unfolding planned site_of
  planned-plain k = ap (λ (n : ℕ). cond (eqb n 0) (plan_of (site_of g k)) (refused_plan n)) (refusal-plain k)

  pub plans-plain : plans_number (plain g) ≡ plans_number g
  unfolding plans_number
  plans-plain = ap₂ (λ (t : Bool) (f : ℕ → Planned). cond t (first_to g.agcount (λ k. (f k).number)) no_answer) (b ∙ sym a) (λ i k. planned-plain k i)

  free-plain : free_count (plain g) ≡ free_count g
  unfolding free_count
  free-plain = ap (λ (f : ℕ → Planned). sum_to g.agcount (λ k. free_of_plan (f k).plan)) (λ i k. planned-plain k i)

  finished-state : (u : List ℕ) → finished_state (plain g) u ≡ finished_state g u
  unfolding finished_state root_ino root_chunk
  finished-state u = ap (λ (n : ℕ). primary_with u (root_ino g) n false) free-plain

  written-state : (u : List ℕ) (k : ℕ) → state_of (plain g) u k ≡ state_of g u k
  unfolding state_of unfinished_state secondary_state root_ino root_chunk initial_fdblocks
  written-state u k = ap (λ (n : ℕ). cond (eqb k 0) (primary_with u (root_ino g) n true) (secondary_state g u k)) free-plain

  finished-plain : (u : List ℕ) → head_finished (plain g) u ≡ head_finished g u
  unfolding head_finished
  finished-plain u =
      head_plain g (planned (plain g) 0).plan u (finished_state (plain g) u)
      ∙ ap₂ (λ (p : Planned) (s : SbState). head_bytes g p.plan u s) (planned-plain 0) (finished-state u)

  written-plain : (u : List ℕ) (k : ℕ) → head_written (plain g) u k ≡ head_written g u k
  unfolding head_written
  written-plain u k =
      head_plain g (planned (plain g) k).plan u (state_of (plain g) u k)
      ∙ ap₂ (λ (p : Planned) (s : SbState). head_bytes g p.plan u s) (planned-plain k) (written-state u k)

  pub left-plain : (u : List ℕ) (k : ℕ) → head_left (plain g) u k ≡ head_left g u k
  unfolding head_left
  left-plain u k = ap₂ (λ (xs : List ℕ) (ys : List ℕ). cond (eqb k 0) xs ys) (finished-plain u) (written-plain u k)

-- ---- what the reader reports

handed-plain : (g : Geometry) (u : List ℕ) → Handed g u → Handed (plain g) u
handed-plain g u h =
    let t = h.geometry in
    record {
      geometry =
          record {
            blocksize = t.blocksize;
            sectsize = t.sectsize;
            inodesize = t.inodesize;
            imaxpct = t.imaxpct;
            label-size = t.label-size;
            label-bytes = t.label-bytes;
          };
      uuid-size = h.uuid-size;
      uuid-bytes = h.uuid-bytes;
    }

-- it differs in the sizing alone
pub reported-plain : (g : Geometry) → plain (reported g) ≡ plain g
unfolding reported
reported-plain g = choose-elim (λ (h : Geometry). plain h ≡ plain g) (is_answer (plain g)) (plain g) g (λ t. refl) (λ t. refl)

pub reported-old : (g : Geometry) → g.roomy ≡ false → reported g ≡ g
unfolding reported
reported-old g e = choose-elim (λ (h : Geometry). h ≡ g) (is_answer (plain g)) (plain g) g (λ t. plain-is g e) (λ t. refl)

module _ (g : Geometry) (u : List ℕ) (s : Source g u) where
  -- a run under plain sizing has the same geometry but for the sizing
  pub plain-source : is_answer (plain g) ≡ true → Source (plain g) u
  plain-source b =
      source (plain g) u (handed-plain g u (source-handed g u s)) b (plans-plain g (source-answer g u s) b ∙ source-plans g u s)

  pub reported-source : Source (reported g) u
  unfolding reported
  reported-source = choose-elim (λ (h : Geometry). Source h u) (is_answer (plain g)) (plain g) g plain-source (λ t. s)

  pub reported-planned : (k : ℕ) → planned (reported g) k ≡ planned g k
  unfolding reported
  reported-planned k = choose-elim (λ (h : Geometry). planned h k ≡ planned g k) (is_answer (plain g)) (plain g) g (λ t. planned-plain g (source-answer g u s) t k) (λ t. refl)

  pub reported-left : (k : ℕ) → head_left (reported g) u k ≡ head_left g u k
  unfolding reported
  reported-left k = choose-elim (λ (h : Geometry). head_left h u k ≡ head_left g u k) (is_answer (plain g)) (plain g) g (λ t. left-plain g (source-answer g u s) t u k) (λ t. refl)

  pub reported-log : log_block (reported g) u ≡ log_block g u
  unfolding reported
  reported-log = choose-elim (λ (h : Geometry). log_block h u ≡ log_block g u) (is_answer (plain g)) (plain g) g (λ t. log-plain g u) (λ t. refl)

  -- what is left with the geometry is left with the reported one
  pub reported-here : (k : ℕ) (xs : List ℕ) → HeadLeftBy g u k xs → HeadLeftBy (reported g) u k xs
  reported-here k xs l =
      record {
        source = reported-source;
        group = subst (λ (h : Geometry). k < h.agcount) (sym (reported-plain g)) l.group;
        bytes = l.bytes ∙ sym (reported-left k);
      }
