-- `endian::runs::table_fits` meets its contract.
-- Assumes nothing.
use Rattle.std.proofs.Common.{rules, ◌≡◌, ◌<◌, ◌+◌, ◌↔◌, ℕ, length, get_or, [], leb, true}
use mathlib.Core.Path.{ap, ◌∙◌}
use Prim.Native.Nat.{◌*◌, ◌/◌}
use native.Mathlib.Omega.{arith}
use Rattle.std.specs.Bool.{IsTrue}
use Rattle.std.specs.Simd.{first_chunks}
use Rattle.endian.proofs.Tables.{no_table, fits-by}
use Rattle.endian.proofs.runs.table_fits.Goals as goal

pub returns-then-is_empty : goal.returns-then-is_empty
returns-then-is_empty c = let ps = c.as_chunks.result.0.now in
    let p : IsTrue c.all.result ↔ ((k : ℕ) → k < length ps → leb (get_or (get_or ps k []) 0 0 + get_or (get_or ps k []) 1 0) c.args.len ≡ true) = search rules in
    let at = c.args.at.now in
    let e : length at ≡ 2 * c.args.n = grind arith in
    let k : length at / 2 ≡ c.args.n = omega arith in
    let l : length ps ≡ c.args.n = omega (arith, c.as_chunks.ensures.front_len) in
    fits-by c.args.len c.args.n at _ _ e (c.as_chunks.ensures.front ∙ ap (λ (i : ℕ). first_chunks 2 i at) k) l p

pub returns-else-is_empty : goal.returns-else-is_empty
returns-else-is_empty c = c.if-is_empty.false ∙ no_table c.args.len c.args.n c.args.at.now (λ e. grind arith)
