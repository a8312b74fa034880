-- `chunk::fill::places_of` meets its contract.
-- Assumes nothing.
use Rattle.std.proofs.Common.{◌+◌, ◌*◌, rules}
use Rattle.chunk.proofs.Asked.{each-spaced, made-each}
use Rattle.chunk.specs.Chunk.{chunk_places}
use Rattle.chunk.proofs.fill.places_of.Goals as goal

pub returns : goal.returns
unfolding chunk_places
returns c =
    each-spaced 64 100 c.args.size c.from_fn.result (search rules)
    (made-each _ _ (λ k. 100 + k * c.args.size) (λ i y q k. search rules) c.from_fn.result 64 c.from_fn.ensures.items)
