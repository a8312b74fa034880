-- `request_words::values::weight` meets its contract.
-- Assumes nothing.
use Rattle.std.proofs.Common.{rules, ◌≡◌, get_or}
use Rattle.request_words.proofs.Valuing.{weight-small}
use Rattle.request_words.specs.Values.{weights}
use Rattle.request_words.proofs.values.weight.Goals as goal

pub returns : goal.returns
unfolding weights
returns c =
    let e : c.unwrap_or.result ≡ get_or weights c.args.bit 0 = search rules in
    (e, rw e (weight-small c.args.bit))
