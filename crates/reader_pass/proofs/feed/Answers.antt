-- `reader_pass::feed` meets its contract.
-- Assumes nothing.
use mathlib.Core.Path.{sym, ◌∙◌}
use Rattle.reader_pass.proofs.States.{long-is, short-is, long-work, short-work}
use Rattle.reader_pass.proofs.feed.Goals as goal

pub returns-then-bytes-length_of : goal.returns-then-bytes-length_of
returns-then-bytes-length_of c = let a = c.args in
    (c.feed_short.ensures ∙ short-is a.p a.bytes.now (λ e. c.if-bytes-length_of.true (e ∙ sym c.length_of.ensures)), short-work a.p a.bytes.now _ (λ e. c.if-bytes-length_of.true (e ∙ sym c.length_of.ensures)))

pub returns : goal.returns
returns c = let a = c.args in
    let e = c.if-bytes-length_of.false ∙ c.length_of.ensures in
    (c.feed_whole.ensures.0 ∙ long-is a.p a.bytes.now e, c.feed_whole.ensures.1 ∙ long-work a.p a.bytes.now _ e)
