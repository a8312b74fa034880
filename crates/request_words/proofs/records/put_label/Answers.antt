-- `request_words::records::put_label` meets its contract.
-- Assumes nothing.
use Rattle.request_words.proofs.Writing.{found_inside, label-put, label-skip}
use native.Mathlib.Omega.{arith}
use Rattle.endian.proofs.Laws.{put_in}
use borrow.Author.Rules.{rules}
use Rattle.request_words.proofs.records.put_label.Goals as goal

pub overflow_sub-w : goal.overflow_sub-w
overflow_sub-w c = let i = found_inside c.args.words.now _ 0 0 c.find-w.ensures in omega arith

pub slice_bounds-put_bytes-end-then-w-eq-LABEL : goal.slice_bounds-put_bytes-end-then-w-eq-LABEL
slice_bounds-put_bytes-end-then-w-eq-LABEL c = let i = found_inside c.args.words.now _ 0 0 c.find-w.ensures in omega arith

pub returns-then-w-eq-LABEL : goal.returns-then-w-eq-LABEL
returns-then-w-eq-LABEL c = let i = found_inside c.args.words.now _ 0 0 c.find-w.ensures in label-put _ _ _ _ c.find-w.ensures _ c.if-w-eq-LABEL.true _ c.min-n.ensures i.0 i.1 _ _ (put_in c.put_bytes.ensures (search rules)) (put_in c.put_bytes-then-w-eq-LABEL.ensures (search rules))

pub returns : goal.returns
returns c = label-skip _ _ _ _ c.find-w.ensures _ c.if-w-eq-LABEL.false
