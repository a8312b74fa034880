-- The sums behind the next line, by what the line is.
-- Assumes nothing.
use Rattle.std.proofs.Common.{◌≡◌, ℕ, ◌-◌, ◌<◌, ◌≤◌, refl, ap, ◌∙◌, eq-eqb, ne_eqb, le-leb}
use borrow.Author.Tests.{lt-leb}
use Rattle.table_lines.specs.declared.Row.{Row}
use Rattle.table_lines.specs.declared.Total.{Total}
use Rattle.plan_summary.specs.Summaries.{row_by_summary}
use Rattle.plan_table.specs.declared.Table.{Table}
use Rattle.plan_table.specs.Filling.{group_put, group_added, with_row, sums_after}

module _ (t : Table) where
  pub refused-adds : (t.number ≡ 0 → ⊥) → t.sums ≡ sums_after t
  unfolding sums_after
  refused-adds h = rw (ne_eqb t.number 0 h) refl

  module _ (e : t.number ≡ 0) where
    pub last-adds : t.left ≤ 1 → t.sums ≡ sums_after t
    unfolding sums_after
    last-adds h = rw (eq-eqb t.number 0 e, le-leb t.left 1 h) refl

    module _ (more : 1 < t.left) where
      pub header-adds : t.summary.agcount < t.left - 1 → t.sums ≡ sums_after t
      unfolding sums_after
      header-adds h = rw (eq-eqb t.number 0 e, lt-leb t.left 1 more, lt-leb (t.left - 1) t.summary.agcount h) refl

      row_is : t.left - 1 ≤ t.summary.agcount → with_row t.sums (row_by_summary t.summary (group_added t)) ≡ sums_after t
      unfolding sums_after
      row_is h = rw (eq-eqb t.number 0 e, lt-leb t.left 1 more, le-leb (t.left - 1) t.summary.agcount h) refl

      -- the last group, the one that is added, and its row
      pub row-adds : t.left - 1 ≤ t.summary.agcount → {last k : ℕ} {r : Row} {s : Total}
          → last ≡ t.summary.agcount - 1 → k ≡ last - group_put t → r ≡ row_by_summary t.summary k → s ≡ with_row t.sums r → s ≡ sums_after t
      row-adds h a b c d =
          d ∙ ap (with_row t.sums) (c ∙ ap (row_by_summary t.summary) (b ∙ ap (λ (x : ℕ). x - group_put t) a)) ∙ row_is h
