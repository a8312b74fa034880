-- `request_words::values::key_of` meets its contract.
-- Assumes nothing.
use Rattle.seqs.specs.Lists.{fold}
use Rattle.request_texts.specs.Texts.{letter, named, packed_name}
use Rattle.request_words.specs.Values.{names, index_in}
use Prim.Native.Nat.{ℕ}
use mathlib.Core.Path.{ap, ◌∙◌}
use Rattle.request_words.proofs.values.key_of.Goals as goal

pub returns : goal.returns
unfolding names packed_name named letter fold
returns c = (c.index_in.ensures.0 ∙ ap (λ (v : ℕ). index_in names v) c.pack.ensures, c.index_in.ensures.1)
