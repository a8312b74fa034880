-- `sb_states::primary` meets its contract.
-- Assumes nothing.
use Rattle.sb_states.proofs.Known.{root-value, free-value, root-room}
use lib.ListN.{length}
use mathlib.Core.Path.{◌≡◌, ◌∙◌}
use borrow.Author.Rules.{rules}
use Rattle.sb_states.proofs.primary.Goals as goal

pub primary_with-requires : goal.primary_with-requires
primary_with-requires c = let l : length c.args.g.label ≡ 12 = search (rules, c.well_formed.0.1.1.1.1.1.1.1.1.1.1.1.1.1.1.1.1.1.1.1) in let g = c.args.g in rw (c.value_of-root.ensures, c.rootino.ensures, root-value g l c.requires) (root-room g l c.requires)

pub returns : goal.returns
returns c = let l : length c.args.g.label ≡ 12 = search (rules, c.well_formed.0.1.1.1.1.1.1.1.1.1.1.1.1.1.1.1.1.1.1.1) in let g = c.args.g in c.primary_with.ensures ∙ rw (c.value_of-root.ensures, c.rootino.ensures, root-value g l c.requires, c.value_of-free.ensures, c.free_count.ensures, free-value g l c.requires)
