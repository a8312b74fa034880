-- `request_words::values::sizing` meets its contract.
-- Assumes nothing.
use Rattle.seqs.specs.Lists.{fold}
use Rattle.request_texts.specs.Texts.{letter, named, packed_name}
use Rattle.request_words.specs.Values.{sizings, index_in}
use Prim.Native.Nat.{ℕ}
use Rattle.request_words.proofs.Valuing.{sizing-is, sizing-bad}
use native.Mathlib.Omega.{arith}
use mathlib.Core.Path.{ap, ◌∙◌}
use Rattle.request_words.proofs.values.sizing.Goals as goal

pub returns-then-i-lt2 : goal.returns-then-i-lt2
unfolding sizings packed_name named letter fold
returns-then-i-lt2 c = c.good.ensures ∙ sizing-is _ _ (c.index_in-i.ensures.0 ∙ ap (λ (v : ℕ). index_in sizings v) c.pack.ensures) c.if-i-lt2.true

pub returns : goal.returns
unfolding sizings packed_name named letter fold
returns c = c.refused.ensures ∙ sizing-bad _ _ (c.index_in-i.ensures.0 ∙ ap (λ (v : ℕ). index_in sizings v) c.pack.ensures) (omega arith)
