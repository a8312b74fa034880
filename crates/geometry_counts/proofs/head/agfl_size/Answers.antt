-- `geometry_counts::head::agfl_size` meets its contract: each call gives what its definition says.
-- Assumes nothing.
use Rattle.geometry_layout.specs.Places.{agfl_size}
use mathlib.Core.Path.{ap, ◌∙◌}
use Prim.Native.Nat.{ℕ, ◌/◌}
use Rattle.geometry_counts.specs.Known.{known}
use Rattle.geometry_counts.proofs.head.agfl_size.Goals as goal

pub returns : goal.returns
unfolding agfl_size
returns c = c.known.ensures ∙ ap (known _) (ap (λ (n : ℕ). n / 4) c.saturating_sub.ensures)
