-- What the functions that formatter and reader share answer, and the state of a superblock at the end.
-- Assumes nothing.
use Rattle.std.specs.Prelude.{cond, List, ℕ, eqb, ltb}
use Rattle.refusals.specs.Numbers.{wrong_length, no_place}
use Rattle.structs.specs.Written.{require}
use Rattle.geometry.specs.declared.Geometry.{Geometry}
use Rattle.plan_totals.specs.Totals.{plans_number}
use Rattle.head_bytes.specs.Head.{head_length}
use Rattle.sb_states.specs.declared.Stated.{Stated}
use Rattle.sb_states.specs.States.{stated, finished_answer}
use Rattle.run.specs.Runs.{or_next}

-- 31 for a geometry that is no answer, 25 for a plan that is refused, then 27 unless n bytes are a head's, then 29
unfoldable pub head_refusal : Geometry → ℕ → ℕ → ℕ
head_refusal g k n = or_next (plans_number g) (require wrong_length (eqb n (head_length g)) (require no_place (ltb k g.agcount) 0))

-- 31, 25, then 27 unless n bytes are a block's
unfoldable pub log_refusal : Geometry → ℕ → ℕ
log_refusal g n = or_next (plans_number g) (require wrong_length (eqb n g.blocksize) 0)

-- the state of group k's superblock at the end
unfoldable pub left_state : Geometry → List ℕ → ℕ → Stated
left_state g u k = cond (eqb k 0) (finished_answer g u) (stated g u k)
