-- `request_expected::names` meets its contract: the bytes are compared.
-- Assumes nothing.
use mathlib.Core.Path.{refl}
use Rattle.text_pages.specs.Pages.{ascii_bytes, page}
use Rattle.request_expected.specs.Expected.{rows, keys_named, name_lines}
use Rattle.request_expected.proofs.names.Goals as goal

pub returns : goal.returns
unfolding name_lines keys_named rows page ascii_bytes
returns c = refl
