-- `request_words::records::put_options` meets its contract. Invariant: the records of the codes from `code` on are still to be written.
-- Assumes nothing.
use Rattle.request_words.proofs.Writing.{put-here, options-short, turn-left, turn_end, turn-room, turn-length, options-done, options-ended}
use Rattle.request_words.specs.Values.{codes}
use Rattle.request_words.specs.Words.{words_from}
use native.Mathlib.Omega.{arith}
use mathlib.Core.Path.{refl, sym, ◌∙◌}
use Rattle.request_words.proofs.records.put_options.Goals as goal

pub loop-code-init : goal.loop-code-init
loop-code-init c = (refl, refl, omega arith, omega arith, omega arith, refl)

pub put_option-end-requires : goal.put_option-end-requires
put_option-end-requires c = (omega arith, omega arith)

pub loop-code-preserved : goal.loop-code-preserved
loop-code-preserved c = (c.loop-code.invariant.0 ∙ turn-left _ _ _ _ _ _ c.put_option-end.ensures (omega arith), c.loop-code.invariant.1 ∙ turn_end _ _ _ _ _ _ c.put_option-end.ensures (omega arith), omega arith, omega arith, (let r = turn-room _ _ _ _ _ _ c.put_option-end.ensures (omega arith) in omega arith), turn-length _ _ _ _ _ _ c.put_option-end.ensures (omega arith) ∙ c.loop-code.invariant.5)

pub shape_of-buf : goal.shape_of-buf
shape_of-buf c = c.loop-code.invariant.5

pub returns : goal.returns
returns c = put-here _ _ 143 _ _ _ (let z = options-ended (words_from 0 c.args.words.now) c.loop-code.code (omega arith) in omega arith) (options-short codes 1 (words_from 0 c.args.words.now)) (sym (c.loop-code.invariant.0 ∙ options-done (words_from 0 c.args.words.now) c.loop-code.code c.loop-code.end c.loop-code.buf (omega arith)))
