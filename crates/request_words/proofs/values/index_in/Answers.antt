-- `request_words::values::index_in` meets its contract.
-- Assumes nothing.
use mathlib.Core.Path.{◌≡◌, ◌∙◌}
use Prim.Native.Nat.{ℕ}
use lib.Dec.{eqb}
use Rattle.request_texts.proofs.Saying.{found_first, first-within}
use Rattle.request_words.specs.Values.{index_in}
use Rattle.request_words.proofs.values.index_in.Goals as goal

pub returns : goal.returns
returns c =
    let e : c.unwrap_or.result ≡ index_in c.args.table.now c.args.name = c.unwrap_or.ensures ∙ rw c.place_in.ensures (found_first (λ (n : ℕ). eqb n c.args.name) c.args.table.now) in
    (e, rw e (first-within (λ (n : ℕ). eqb n c.args.name) c.args.table.now))
