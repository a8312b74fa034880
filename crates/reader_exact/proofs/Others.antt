-- EXACT, OTHER HEADS AND LOG BLOCK: with the geometry and the UUID that group 0 gave, the reader accepts exactly what an accepted run with these leaves.
-- Assumes nothing.
use mathlib.Core.Path.{◌≡◌, refl, ap, sym, ◌∙◌}
use mathlib.Core.Bool.{Bool, false, not}
use mathlib.Core.List.{List}
use Prim.Native.Nat.{ℕ}
use borrow.Author.Tests.{eqb-true, eq-eqb, leb-false, lt-leb, not-false}
use lib.Dec.{eqb, leb}
use lib.ListN.{length}
use Rattle.refusals.specs.Table.{first}
use Rattle.refusals.proofs.Clear.{Clear, passed, passes}
use Rattle.seqs.proofs.Laws.{choose-elim}
use Rattle.geometry.specs.declared.Geometry.{Geometry}
use Rattle.geometry_answers.specs.Named.{is_answer}
use Rattle.plan.specs.declared.AgPlan.{AgPlan}
use Rattle.plan.specs.declared.Planned.{Planned}
use Rattle.plan.specs.Plan.{planned}
use Rattle.plan_totals.specs.Totals.{plans_number}
use Rattle.plan_same.specs.Same.{eq_list}
use Rattle.head_bytes.specs.Head.{head_length}
use Rattle.list_spec.specs.Listing.{log_block, head_left}
use Rattle.list_accepted.specs.Accepted.{Source}
use Rattle.list_accepted.proofs.Runs.{source-plans, source-answer}
use Rattle.reader_exact.specs.Read.{place_tests, group_number, read_group, read_log}
use Rattle.reader_exact.specs.Left.{Handed, HeadLeftBy, LeftLog}
use Rattle.reader_exact.proofs.Lists.{same_bytes, own-bytes}
use Rattle.reader_exact.proofs.Sources.{source}
use Rattle.reader_exact.proofs.Heads.{left-length, log-length}

-- ---- the tests of a place

module _ (g : Geometry) (u : List ℕ) (past : Bool) (size : ℕ) (left xs : List ℕ) where
  tests-clear : first (place_tests g past size left xs) 0 ≡ 0 → Clear (place_tests g past size left xs)
  unfolding place_tests
  tests-clear e = passed (place_tests g past size left xs) tt e

  place-sound : Handed g u → first (place_tests g past size left xs) 0 ≡ 0 → Source g u × ((past ≡ false) × (xs ≡ left))
  unfolding place_tests
  place-sound h e =
      let c = tests-clear e in
      let a = not-false (is_answer g) c.0 in
      let z = eqb-true (plans_number g) 0 (not-false (eqb (plans_number g) 0) c.1.1.1.0) in
      (source g u h a z, (c.1.0, same_bytes xs left (not-false (eq_list eqb xs left) c.1.1.1.1.0)))

  place-complete : Source g u → past ≡ false → length left ≡ size → xs ≡ left → first (place_tests g past size left xs) 0 ≡ 0
  unfolding place_tests
  place-complete s p l e =
      passes (place_tests g past size left xs) (
        ap not (source-answer g u s),
        (
          p,
          (
            ap not (eq-eqb (length xs) size (ap (λ (ys : List ℕ). length ys) e ∙ l)),
            (ap not (eq-eqb (plans_number g) 0 (source-plans g u s)), (ap not (ap (eq_list eqb xs) (sym e) ∙ own-bytes xs), tt)),
          ),
        ),
      )

-- ---- the theorems

module _ (g : Geometry) (u : List ℕ) (k : ℕ) (xs : List ℕ) where
  -- the answer by its number
  pub number_read : (read_group g u k xs).number ≡ group_number g u k xs
  unfolding read_group
  number_read =
      choose-elim (λ (x : Planned). x.number ≡ group_number g u k xs) (eqb (group_number g u k xs) 0) _ _
      (λ t. sym (eqb-true (group_number g u k xs) 0 t)) (λ t. refl)

  read_none : group_number g u k xs ≡ 0 → read_group g u k xs ≡ record { number = 0; plan = (planned g k).plan }
  unfolding read_group
  read_none e = rw e

  pub group-sound : Handed g u → (read_group g u k xs).number ≡ 0 → HeadLeftBy g u k xs
  unfolding group_number
  group-sound h e =
      let c = place-sound g u (leb g.agcount k) (head_length g) (head_left g u k) xs h (sym number_read ∙ e) in
      record { source = c.0; group = leb-false g.agcount k c.1.0; bytes = c.1.1 }

  none_left : HeadLeftBy g u k xs → group_number g u k xs ≡ 0
  unfolding group_number
  none_left l =
      place-complete g u (leb g.agcount k) (head_length g) (head_left g u k) xs l.source (lt-leb g.agcount k l.group) (left-length g u l.source k l.group) l.bytes

  -- what an accepted run leaves in group k is accepted, and its plan is given
  pub complete-group : HeadLeftBy g u k xs → read_group g u k xs ≡ record { number = 0; plan = (planned g k).plan }
  complete-group l = read_none (none_left l)

  -- `read_group` accepts with the plan p exactly where some accepted run with g and u leaves exactly these bytes in group k's head, and then p is its plan
  pub exact-group : (p : AgPlan) → Handed g u → (read_group g u k xs ≡ record { number = 0; plan = p } → HeadLeftBy g u k xs × (p ≡ (planned g k).plan)) × (HeadLeftBy g u k xs × (p ≡ (planned g k).plan) → read_group g u k xs ≡ record { number = 0; plan = p })
  exact-group p h = (
    (λ e.
        let n : (read_group g u k xs).number ≡ 0 = ap (λ (x : Planned). x.number) e in
        (group-sound h n, ap (λ (x : Planned). x.plan) (sym e ∙ read_none (sym number_read ∙ n)))),
    (λ l. complete-group l.0 ∙ ap (λ (q : AgPlan). record { number = 0; plan = q }) (sym l.1)),
  )

-- `read_log` accepts exactly where some accepted run with g and u leaves exactly this log block
pub exact-log : (g : Geometry) (u xs : List ℕ) → Handed g u → (read_log g u xs ≡ 0 → LeftLog g u xs) × (LeftLog g u xs → read_log g u xs ≡ 0)
unfolding read_log
exact-log g u xs h = (
  (λ e. let c = place-sound g u false g.blocksize (log_block g u) xs h e in record { source = c.0; bytes = c.1.1 }),
  (λ l. place-complete g u false g.blocksize (log_block g u) xs l.source refl (log-length g u l.source) l.bytes),
)
