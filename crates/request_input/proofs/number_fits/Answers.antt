-- `request_input::number_fits` meets its contract.
-- Assumes nothing.
use native.Mathlib.Omega.{arith}
use Rattle.request_input.proofs.Fitting.{fits-none, fits_all, fits-shift}
use Rattle.request_input.proofs.number_fits.Goals as goal

pub returns-in-0 : goal.returns-in-0
returns-in-0 c = fits-none _ _ _ c.option_bits.ensures c.in-0.is

pub returns-in_default : goal.returns-in_default
returns-in_default c = fits-shift _ _ _ c.option_bits.ensures (λ e. omega arith)

pub returns-in-64-to-255 : goal.returns-in-64-to-255
returns-in-64-to-255 c = fits_all _ _ _ c.option_bits.ensures (omega arith) (omega arith)
