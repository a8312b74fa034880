-- `chunk::fill::draw_three` meets its contract.
-- Assumes nothing.
use mathlib.Core.Path.{ap, ◌∙◌}
use Rattle.chunk_generation.specs.declared.Drawn.{Drawn}
use Rattle.chunk_generation.specs.Draw.{drawn}
use Rattle.chunk.proofs.fill.draw_three.Goals as goal

pub returns : goal.returns
returns c = let a = c.draw-a.ensures in
    let b = c.draw-b.ensures ∙ ap (λ (x : Drawn). drawn x.state) a in
    let d = c.draw-c.ensures ∙ ap (λ (x : Drawn). drawn x.state) b in
    record {
      chunk-is = ap (λ (x : Drawn). x.value) a;
      bitmap-is = ap (λ (x : Drawn). x.value) b;
      summary-is = ap (λ (x : Drawn). x.value) d;
      state-is = ap (λ (x : Drawn). x.state) d;
    }
