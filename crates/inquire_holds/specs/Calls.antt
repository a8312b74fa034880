-- The state that the calls start from, and each call in turn.
-- Assumes nothing.
use Rattle.std.specs.Prelude.{cond, List, ℕ, eqb}
use Rattle.geometry.specs.declared.Geometry.{Geometry}
use Rattle.plan_holds.specs.declared.Holds.{Holds}
use Rattle.plan_holds.specs.declared.Held.{Held}
use Rattle.plan_holds.specs.Holding.{started, hold_def, release_def}
use Rattle.request.specs.declared.Request.{Request}
use Rattle.request.specs.Parse.{parse_def}
use Rattle.run.specs.Runs.{or_next, step_of}
use Rattle.inquire_holds.specs.declared.Call.{Call}
use Rattle.inquire_holds.specs.declared.Opened.{Opened}

-- the group's first state, of the disk that a request asks for
unfoldable pub opened_of : Request → ℕ → Opened
opened_of q k =
    record {
      number = or_next q.number (or_next (step_of q).number (started (step_of q).geometry k).number);
      geometry = (step_of q).geometry;
      state = (started (step_of q).geometry k).state;
    }

-- 28, then the geometry step's number, then that of the group's start
unfoldable pub holds_opened : List ℕ → ℕ → Opened
holds_opened input k = opened_of (parse_def input) k

-- what a call answers
unfoldable pub call_answer : Geometry → Holds → Call → Held
call_answer g s c = cond c.release (release_def g s c.at c.length) (hold_def g s c.at c.length)

-- the same with the state for the next call: a refused one leaves it as it was
unfoldable pub call_stepped : Geometry → Holds → Call → Held
call_stepped g s c =
    cond (eqb (call_answer g s c).number 0)
    (call_answer g s c)
    (record { number = (call_answer g s c).number; state = s })
