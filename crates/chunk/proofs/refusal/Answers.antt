-- `chunk::refusal` meets its contract.
-- Assumes nothing.
use Rattle.chunk.proofs.Chunks.{not-answered, out_of_range, in-range, other_length, no_place_lem, a-place, first_group, length-fits}
use Rattle.geometry_layout.proofs.Bounding.{answer-bounds}
use mathlib.Core.Path.{◌≡◌, sym, ap, ◌∙◌}
use lib.ListN.{length}
use Prim.Native.Nat.{ℕ, ◌*◌}
use borrow.Author.Rules.{rules}
use Rattle.chunk.proofs.refusal.Goals as goal

pub returns-then-not-is_answer : goal.returns-then-not-is_answer
returns-then-not-is_answer c = not-answered _ _ _ _ (sym c.is_answer.ensures ∙ c.if-not-is_answer.true)

pub returns-then-n-ne0 : goal.returns-then-n-ne0
returns-then-n-ne0 c = out_of_range _ _ _ _ _ _ (sym c.is_answer.ensures ∙ c.if-not-is_answer.false) c.encode_time-stored.ensures c.if-n-ne0.true

pub overflow_mul-chunk : goal.overflow_mul-chunk
overflow_mul-chunk c = let l : length c.args.g.label ≡ 12 = search (rules, c.well_formed.0.1.1.1.1.1.1.1.1.1.1.1.1.1.1.1.1.1.1.1.1) in
    rw c.chunk_of-chunk.ensures (record { fits = length-fits c.args.g (answer-bounds c.args.g l (sym c.is_answer.ensures ∙ c.if-not-is_answer.false)) })

pub returns-then-len-chunk : goal.returns-then-len-chunk
returns-then-len-chunk c = let a = c.args in
    other_length _ _ a.time _ (sym c.is_answer.ensures ∙ c.if-not-is_answer.false) (in-range _ a.time _ _ c.encode_time-stored.ensures c.if-n-ne0.false)
    (λ e. c.if-len-chunk.true (e ∙ ap (λ (x : ℕ). x * a.g.blocksize) (sym c.chunk_of-chunk.ensures)))

pub returns-then-not-inside : goal.returns-then-not-inside
returns-then-not-inside c = let l : length c.args.g.label ≡ 12 = search (rules, c.well_formed.0.1.1.1.1.1.1.1.1.1.1.1.1.1.1.1.1.1.1.1.1) in
    let a = (sym c.is_answer.ensures ∙ c.if-not-is_answer.false) in
    no_place_lem c.args.g _ c.args.time _ _ _ c.inside.ensures c.chunk_of-chunk.ensures (first_group _ (answer-bounds _ l a)) a
    (in-range _ c.args.time _ _ c.encode_time-stored.ensures c.if-n-ne0.false)
    (c.if-len-chunk.false ∙ ap (λ (x : ℕ). x * c.args.g.blocksize) c.chunk_of-chunk.ensures)
    (c.if-not-inside.true)

pub returns : goal.returns
returns c = let l : length c.args.g.label ≡ 12 = search (rules, c.well_formed.0.1.1.1.1.1.1.1.1.1.1.1.1.1.1.1.1.1.1.1.1) in
    let a = (sym c.is_answer.ensures ∙ c.if-not-is_answer.false) in
    a-place c.args.g _ c.args.time _ _ _ c.inside.ensures c.chunk_of-chunk.ensures (first_group _ (answer-bounds _ l a)) a
    (in-range _ c.args.time _ _ c.encode_time-stored.ensures c.if-n-ne0.false)
    (c.if-len-chunk.false ∙ ap (λ (x : ℕ). x * c.args.g.blocksize) c.chunk_of-chunk.ensures)
    (c.if-not-inside.false)
