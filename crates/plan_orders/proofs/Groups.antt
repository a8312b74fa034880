-- The groups of a geometry with accepted plans, added in any order.
-- Assumes nothing.
use mathlib.Core.Path.{◌≡◌, ap, ◌∙◌}
use mathlib.Core.Bool.{true}
use mathlib.Core.List.{List}
use Prim.Native.Nat.{ℕ, ◌-◌, ◌^◌, ◌<◌}
use native.Mathlib.Omega.{arith}
use lib.ListN.{length, take}
use Rattle.geometry.specs.declared.Geometry.{Geometry}
use Rattle.geometry_answers.specs.Named.{is_answer}
use Rattle.geometry_layout.proofs.Bounding.{answer-bounds}
use Rattle.geometry_layout.proofs.Inside.{few-blocks}
use Rattle.plan_site.specs.Sites.{site_of}
use Rattle.plan_site.proofs.Sites.{site-sound}
use Rattle.plan.specs.Plan.{planned}
use Rattle.table_lines.specs.declared.Total.{Total}
use Rattle.plan_totals.specs.Totals.{plans_number, free_of_plan, free_count, row_of, total_of, const_count, closed_total}
use Rattle.plan_totals.proofs.Whole.{all-planned, count-const, total-closed}
use Rattle.plan_summary.proofs.Laws.{few-groups, each_fits}
use Rattle.plan_orders.specs.Orders.{rising_groups, falling_groups, even_then_odd, Order, added_by, free_by, total_by, SumsFit, AddsUp}
use Rattle.plan_orders.proofs.Sums.{in_order, first-fewer}
use Rattle.plan_orders.proofs.Orders.{rising-once, falling-once, even-odd-once}

-- ---- the sums, in any order

-- column by column
pub same-totals : {s t : Total} → s.length ≡ t.length → s.log ≡ t.log → s.list ≡ t.list → s.chunk ≡ t.chunk → s.free ≡ t.free → s ≡ t
same-totals {s} {t} a b c d e =
    ap (λ (x : ℕ). record { length = x; log = s.log; list = s.list; chunk = s.chunk; free = s.free }) a
    ∙ ap (λ (x : ℕ). record { length = t.length; log = x; list = s.list; chunk = s.chunk; free = s.free }) b
    ∙ ap (λ (x : ℕ). record { length = t.length; log = t.log; list = x; chunk = s.chunk; free = s.free }) c
    ∙ ap (λ (x : ℕ). record { length = t.length; log = t.log; list = t.list; chunk = x; free = s.free }) d
    ∙ ap (λ (x : ℕ). record { length = t.length; log = t.log; list = t.list; chunk = t.chunk; free = x }) e

module _ (g : Geometry) (ks : List ℕ) (once : Order g.agcount ks) where
  -- FREE AND FREE-LIST BLOCKS COME TO THE DISK'S FREE COUNT
  pub count-in-order : free_by g ks ≡ free_count g
  unfolding free_count
  count-in-order = in_order (λ k. free_of_plan (planned g k).plan) g.agcount ks once

  -- THE FIVE COLUMNS COME TO THE LAST LINE
  pub total-in-order : total_by g ks ≡ total_of g
  unfolding total_of
  total-in-order =
      same-totals
      (in_order (λ k. (row_of g k).length) g.agcount ks once)
      (in_order (λ k. (row_of g k).log) g.agcount ks once)
      (in_order (λ k. (row_of g k).list) g.agcount ks once)
      (in_order (λ k. (row_of g k).chunk) g.agcount ks once)
      (in_order (λ k. (row_of g k).free) g.agcount ks once)

-- ---- their bounds

module _ (g : Geometry) (l : length g.label ≡ 12) (e : plans_number g ≡ 0) where
  here : is_answer g ≡ true
  here = (all-planned g l e).0

  blocks-fit : g.dblocks < 2 ^ 64
  blocks-fit = let w = few-blocks g (answer-bounds g l here) in omega arith

  count_fits : free_count g < 2 ^ 64
  unfolding const_count
  count_fits = let c = count-const g l here (all-planned g l e).1 in let d = blocks-fit in omega arith

  closed-fits : SumsFit (closed_total g)
  unfolding closed_total const_count site_of
  closed-fits =
      let s = site-sound g 0 l here in
      let d = blocks-fit in
      let a = s.log-most in
      let b = s.chunk-ends in
      let n = s.need-most in
      let c = each_fits g.agcount (site_of g 0).need (few-groups g l here) (omega arith) in
      record { length = d; log = omega arith; list = c; chunk = omega arith; free = omega arith }

  total-fits : SumsFit (total_of g)
  total-fits = rw (total-closed g l here (all-planned g l e).1) closed-fits

  module _ (ks : List ℕ) (once : Order g.agcount ks) where
    fits-before : (f : ℕ → ℕ) (j : ℕ) → added_by f ks < 2 ^ 64 → added_by f (take j ks) < 2 ^ 64
    fits-before f j h = let w = first-fewer f j ks in omega arith

    all-fit : SumsFit (total_by g ks)
    all-fit = rw (total-in-order g ks once) total-fits

    -- ADDED IN ANY ORDER IN WHICH EACH GROUP IS TAKEN ONCE: the disk's free count, the table's last line, and no sum passes 64 bits
    pub any_order : AddsUp g ks
    any_order =
        let t = all-fit in
        record {
          free-count = count-in-order g ks once;
          last_line = total-in-order g ks once;
          count_fits = λ j. fits-before (λ k. free_of_plan (planned g k).plan) j (rw (count-in-order g ks once) count_fits);
          sums-fit = λ j.
              record {
                length = fits-before (λ k. (row_of g k).length) j t.length;
                log = fits-before (λ k. (row_of g k).log) j t.log;
                list = fits-before (λ k. (row_of g k).list) j t.list;
                chunk = fits-before (λ k. (row_of g k).chunk) j t.chunk;
                free = fits-before (λ k. (row_of g k).free) j t.free;
              };
        }

  -- ---- three orders

  pub adds-rising : AddsUp g (rising_groups g.agcount)
  adds-rising = any_order (rising_groups g.agcount) (rising-once g.agcount)

  pub adds-falling : AddsUp g (falling_groups g.agcount)
  adds-falling = any_order (falling_groups g.agcount) (falling-once g.agcount)

  pub adds-even-odd : AddsUp g (even_then_odd g.agcount)
  adds-even-odd = any_order (even_then_odd g.agcount) (even-odd-once g.agcount)
