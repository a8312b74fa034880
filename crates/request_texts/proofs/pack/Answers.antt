-- `request_texts::pack` meets its contract.
-- Assumes nothing.
use Rattle.std.specs.List.{fold}
use Rattle.std.proofs.Common.{rules, ◌≡◌, ◌∙◌}
use Rattle.request_texts.specs.Texts.{named, packed_name}
use Rattle.request_texts.proofs.Saying.{folded}
use Rattle.request_texts.proofs.pack.Goals as goal

pub returns : goal.returns
unfolding packed_name
returns c =
    let e : c.fold.result ≡ fold named 0 c.args.name.now = search rules in
    e ∙ folded named 0 c.args.name.now
