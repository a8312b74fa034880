-- `sb_states::secondary` meets its contract.
-- Assumes nothing.
use Rattle.sb_states.proofs.Known.{root-value, initial-value, some-group}
use Rattle.sb_states.specs.States.{secondary_state}
use Rattle.arith.specs.Choice.{when}
use lib.ListN.{length}
use mathlib.Core.Path.{◌≡◌, sym, ◌∙◌}
use borrow.Author.Rules.{rules}
use Rattle.sb_states.proofs.secondary.Goals as goal

pub names_root-requires : goal.names_root-requires
names_root-requires c = let l : length c.args.g.label ≡ 12 = search (rules, c.well_formed.0.1.1.1.1.1.1.1.1.1.1.1.1.1.1.1.1.1.1.1) in let g = c.args.g in some-group g l c.requires

pub returns-then-names_root : goal.returns-then-names_root
unfolding secondary_state when
returns-then-names_root c = let l : length c.args.g.label ≡ 12 = search (rules, c.well_formed.0.1.1.1.1.1.1.1.1.1.1.1.1.1.1.1.1.1.1.1) in let g = c.args.g in c.secondary_with.ensures ∙ rw (sym c.names_root.ensures ∙ c.if-names_root.true, c.value_of.ensures, c.rootino.ensures, root-value g l c.requires, c.value_of-free.ensures, c.initial_fdblocks.ensures, initial-value g l c.requires)

pub returns : goal.returns
unfolding secondary_state when
returns c = let l : length c.args.g.label ≡ 12 = search (rules, c.well_formed.0.1.1.1.1.1.1.1.1.1.1.1.1.1.1.1.1.1.1.1) in let g = c.args.g in c.secondary_with-2.ensures ∙ rw (sym c.names_root.ensures ∙ c.if-names_root.false, c.value_of-free.ensures, c.initial_fdblocks.ensures, initial-value g l c.requires)
