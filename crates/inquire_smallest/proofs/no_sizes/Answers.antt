-- `inquire_smallest::no_sizes` meets its contract.
-- Assumes nothing.
use mathlib.Core.Logic.{⊎_elim}
use Rattle.inquire_smallest.proofs.Reaching.{no-count, too_many, last_fits}
use Rattle.inquire_smallest.proofs.no_sizes.Goals as goal

pub returns-then-count-eq0 : goal.returns-then-count-eq0
returns-then-count-eq0 c = let a = c.args in
    ⊎_elim (no-count a.start a.count) (λ h. too_many a.start a.count h.0 h.1) c.then-count-eq0.either

pub returns : goal.returns
returns c = last_fits c.args.start c.args.count c.if-count-eq0.false c.if-count-gt-MOST_SIZES.false
