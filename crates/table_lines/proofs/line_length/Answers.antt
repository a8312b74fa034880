-- `table_lines::line_length` meets its contract.
-- Assumes nothing.
use mathlib.Core.Path.{◌≡◌, ◌∙◌}
use Prim.Native.Nat.{ℕ, ◌+◌}
use native.Mathlib.Omega.{arith}
use lib.ListN.{length}
use Rattle.std.proofs.Common.{rules}
use Rattle.std.specs.List.{sum_by}
use Rattle.table_lines.specs.Decimal.{decimal}
use Rattle.table_lines.proofs.Stores.{line-sum, line-most}
use Rattle.table_lines.proofs.line_length.Goals as goal

pub returns : goal.returns
returns c = let e : c.sum.result ≡ sum_by (λ (n : ℕ). length (decimal n) + 1) c.args.numbers.now = search rules in
    let s = e ∙ line-sum c.args.numbers.now in
    (s, omega (arith, s, line-most c.args.numbers.now (λ k. (c.type_inv.numbers k).fits)))
