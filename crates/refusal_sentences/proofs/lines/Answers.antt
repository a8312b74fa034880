-- `refusal_sentences::lines` meets its contract: the bytes are compared.
-- Assumes nothing.
use mathlib.Core.Path.{refl}
use Rattle.text_pages.specs.Pages.{ascii_bytes, page}
use Rattle.refusal_sentences.specs.Sentences.{sentences, texts_of, texts}
use Rattle.refusal_sentences.proofs.lines.Goals as goal

pub returns : goal.returns
unfolding texts texts_of sentences page ascii_bytes
returns c = refl
