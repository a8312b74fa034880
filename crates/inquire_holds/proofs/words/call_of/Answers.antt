-- `inquire_holds::words::call_of` meets its contract.
-- Assumes nothing.
use Rattle.inquire_holds.proofs.Laws.{hold-name, release-name, behind}
use Rattle.inquire_holds.specs.Words.{call_in}
use native.Mathlib.Omega.{arith}
use mathlib.Core.Path.{sym, ◌∙◌}
use Rattle.inquire_holds.proofs.words.call_of.Goals as goal

pub slice_bounds-run_in-count : goal.slice_bounds-run_in-count
slice_bounds-run_in-count c = let h = c.word_is.ensures.1 c.if-word_is.true in omega arith

pub slice_bounds-run_in-start : goal.slice_bounds-run_in-start
slice_bounds-run_in-start c = let h = c.word_is.ensures.1 c.if-word_is.true in omega arith

pub returns-then-word_is : goal.returns-then-word_is
unfolding call_in
returns-then-word_is c = rw (hold-name, sym c.word_is.ensures.0 ∙ c.if-word_is.true, ← behind 5 c.args.text.now) c.run_in.ensures

pub slice_bounds-run_in-count-then-word_is-2 : goal.slice_bounds-run_in-count-then-word_is-2
slice_bounds-run_in-count-then-word_is-2 c = let h = c.word_is-2.ensures.1 c.if-word_is-2.true in omega arith

pub slice_bounds-run_in-start-then-word_is-2 : goal.slice_bounds-run_in-start-then-word_is-2
slice_bounds-run_in-start-then-word_is-2 c = let h = c.word_is-2.ensures.1 c.if-word_is-2.true in omega arith

pub returns-then-word_is-2 : goal.returns-then-word_is-2
unfolding call_in
returns-then-word_is-2 c = rw (hold-name, sym c.word_is.ensures.0 ∙ c.if-word_is.false, release-name, sym c.word_is-2.ensures.0 ∙ c.if-word_is-2.true, ← behind 8 c.args.text.now) c.run_in-then-word_is-2.ensures

pub returns : goal.returns
unfolding call_in
returns c = rw (hold-name, sym c.word_is.ensures.0 ∙ c.if-word_is.false, release-name, sym c.word_is-2.ensures.0 ∙ c.if-word_is-2.false) c.no_call.ensures
