-- `request::options::params_of` meets its contract.
-- Assumes nothing.
use mathlib.Core.Path.{refl}
use native.Mathlib.Omega.{arith}
use Rattle.request.specs.Options.{params_of}
use Rattle.request_input.specs.Records.{option_bits}
use Rattle.request.proofs.options.params_of.Goals as goal

pub short_option-requires : goal.short_option-requires
unfolding option_bits
short_option-requires c = (c.requires, omega arith, refl)

pub short_option-requires-2 : goal.short_option-requires-2
unfolding option_bits
short_option-requires-2 c = (c.requires, omega arith, refl)

pub short_option-requires-3 : goal.short_option-requires-3
unfolding option_bits
short_option-requires-3 c = (c.requires, omega arith, refl)

pub returns : goal.returns
unfolding params_of
returns c = rw (c.turned_on.ensures, c.option-6.ensures, c.features_of.ensures, c.option-5.ensures, c.option-4.ensures, c.time_in.ensures, c.uuid_in.ensures, c.label_in.ensures, c.imaxpct.ensures, c.option-3.ensures, c.option-2.ensures, c.short_option-3.ensures, c.short_option-2.ensures, c.short_option.ensures, c.option.ensures) refl
