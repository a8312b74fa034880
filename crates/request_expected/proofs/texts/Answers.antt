-- `request_expected::texts` meets its contract: the bytes are compared.
-- Assumes nothing.
use mathlib.Core.Path.{refl}
use Rattle.text_pages.specs.Pages.{ascii_bytes, page}
use Rattle.request_expected.specs.Expected.{rows, word_takes, expected_lines}
use Rattle.request_expected.proofs.texts.Goals as goal

pub returns : goal.returns
unfolding expected_lines word_takes rows page ascii_bytes
returns c = refl
