-- `replay_frames::records` meets its contract.
-- Assumes nothing.
use Rattle.std.proofs.Common.{rules, ◌*◌, take, drop}
use Rattle.std.specs.Fn.{FnReturnsAt}
use Rattle.replay_frames.proofs.Made.{made-each}
use Rattle.replay_frames.proofs.records.Goals as goal

pub returns : goal.returns
returns g c =
    made-each _ _ (λ i y. FnReturnsAt g.F.Fn c.args.read (take c.args.size (drop (i * c.args.size) c.args.case.now)) y)
    (λ i y q k. search rules) c.from_fn.result g.row.N c.from_fn.ensures.items
