-- `sb::all_numbers` meets its contract.
-- Assumes nothing.
use mathlib.Core.Path.{ap, ◌∙◌}
use Rattle.geometry_layout.specs.Places.{align_of, sparse_align, logsunit_of}
use Rattle.sb.proofs.Laws.{version-is, numbers-are}
use Rattle.sb.proofs.all_numbers.Goals as goal

pub returns : goal.returns
returns c = let a = c.args.g in
    numbers-are a c.args.s _ _ _ _ _ _ _ _ _ _ _ _ _ _ _ _ _ _ _ _
    c.requires
    (version-is a _ _ c.version_of-version.ensures c.large_sector.ensures)
    (c.from-rext.ensures ∙ c.rext_of.ensures)
    (c.align_of-align.ensures ∙ ap (align_of a.features.sparse a.inodesize) c.from-bs.ensures)
    (c.from-dirlog.ensures ∙ c.saturating_sub.ensures)
    (c.from-sunit.ensures ∙ c.logsunit_of.ensures ∙ ap logsunit_of c.lsunit_of.ensures)
    c.ro_of-ro.ensures
    c.in_of-incompat.ensures
    (c.spino_of-spino.ensures ∙ ap (sparse_align a.features.sparse a.inodesize) c.from-bs.ensures)
    c.bit_of-progress.ensures
    c.from.ensures
    c.from-2.ensures
    c.from-3.ensures
    c.from-4.ensures
    c.from-5.ensures
    c.from-6.ensures
    c.from-7.ensures
    c.from-8.ensures
    c.from-9.ensures
    c.from-10.ensures
