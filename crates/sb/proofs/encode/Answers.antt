-- `sb::encode` meets its contract.
-- Assumes nothing.
use Rattle.sb.proofs.Laws.{answer-fits}
use Rattle.sb.specs.Superblock.{sb_number}
use Rattle.structs.proofs.Encoded.{not-encoded}
use Rattle.geometry_layout.proofs.Bounding.{answer-bounds}
use Rattle.geometry_answers.specs.Named.{is_answer}
use borrow.Author.Tests.{eq-eqb, ne_eqb}
use lib.ListN.{length}
use mathlib.Core.Bool.{true}
use mathlib.Core.Path.{◌≡◌, refl, sym, ◌∙◌}
use borrow.Author.Rules.{rules}
use Rattle.sb.proofs.encode.Goals as goal

pub fill-requires : goal.fill-requires
fill-requires c = let g = c.args.g in let l : length g.label ≡ 12 = search (rules, c.well_formed.0.1.1.1.1.1.1.1.1.1.1.1.1.1.1.1.1.1.1.1) in let h : is_answer g ≡ true = sym c.is_answer.ensures ∙ c.if-is_answer.true in answer-fits g (length c.args.sector.now) (answer-bounds g l h) c.if-sector-g.true

pub returns-then-sector-g : goal.returns-then-sector-g
unfolding sb_number
returns-then-sector-g c = let h = sym c.is_answer.ensures ∙ c.if-is_answer.true in rw (h, eq-eqb _ _ c.if-sector-g.true) c.fill.ensures

pub returns-then-is_answer : goal.returns-then-is_answer
unfolding sb_number
returns-then-is_answer c = let h = sym c.is_answer.ensures ∙ c.if-is_answer.true in not-encoded (rw (h, ne_eqb _ _ c.if-sector-g.false) refl) refl

pub returns : goal.returns
unfolding sb_number
returns c = let h = sym c.is_answer.ensures ∙ c.if-is_answer.false in not-encoded (rw h refl) refl
