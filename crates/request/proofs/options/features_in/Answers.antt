-- `request::options::features_in` meets its contract.
-- Assumes nothing.
use Rattle.request.specs.Options.{features_in}
use Rattle.request.proofs.options.features_in.Goals as goal

pub returns : goal.returns
unfolding features_in
returns c = rw (c.is_on-7.ensures, c.is_on-6.ensures, c.is_on-5.ensures, c.is_on-4.ensures, c.is_on-3.ensures, c.is_on-2.ensures, c.is_on.ensures)
