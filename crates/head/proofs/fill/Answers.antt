-- `head::fill` meets its contract.
-- Assumes nothing.
use Rattle.head_bytes.proofs.Whole.{whole}
use Rattle.head_bytes.proofs.Ready.{ready, head-from}
use Rattle.endian.proofs.Laws.{kept}
use lib.ListN.{length}
use mathlib.Core.Path.{◌≡◌, ◌∙◌}
use borrow.Author.Rules.{rules}
use Rattle.head.proofs.fill.Goals as goal

pub put_headers-requires : goal.put_headers-requires
put_headers-requires c = let l : length c.args.g.label ≡ 12 = search (rules, c.well_formed.0.1.1.1.1.1.1.1.1.1.1.1.1.1.1.1.1.1.1.1) in let r = ready c.args.g c.args.p c.args.w (length c.args.buf.now) l c.requires.0 c.requires.1 c.requires.2 in (r.answer, r.sector, r.fine, r.few, r.headers, r.counted)

pub put_trees-requires : goal.put_trees-requires
put_trees-requires c = let l : length c.args.g.label ≡ 12 = search (rules, c.well_formed.0.1.1.1.1.1.1.1.1.1.1.1.1.1.1.1.1.1.1.1) in let r = ready c.args.g c.args.p c.args.w (length c.args.buf.now) l c.requires.0 c.requires.1 c.requires.2 in (r.fine, r.few, kept c.put_headers.auto.buf r.all)

pub returns : goal.returns
returns c = let a = c.args in let l : length a.g.label ≡ 12 = search (rules, c.well_formed.0.1.1.1.1.1.1.1.1.1.1.1.1.1.1.1.1.1.1.1) in let r = ready a.g a.p a.w (length a.buf.now) l c.requires.0 c.requires.1 c.requires.2 in rw (c.put_trees.ensures, c.put_headers.ensures) (whole a.w a.p a.g a.s a.uuid.now a.buf.now r.fine r.exact ∙ head-from a.g a.p a.w a.uuid.now a.s c.requires.1)
