-- `request_words::records::put_options` meets its contract. Invariant: the records of the codes from `code` on are still to be written.
-- Assumes nothing.
use Rattle.request_words.specs.Asked.{option_records}
use Rattle.request_words.specs.Values.{codes}
use Rattle.request_words.specs.Words.{words_from}
use Rattle.endian.specs.Bytes.{patch}
use lib.ListN.{length}
use Prim.Native.Nat.{◌+◌, ◌*◌, ◌-◌, ◌≤◌}
use mathlib.Core.Path.{◌≡◌}
use Rattle.request_words.proofs.records.put_options.Given as goal

abbrev pub invariant-loop-code : goal.invariant-loop-code
invariant-loop-code l = (patch l.at (option_records codes 1 (words_from 0 l.words)) l.initial.buf ≡ patch l.end (option_records (codes + 1 - l.code) l.code (words_from 0 l.words)) l.buf) × (l.at + length (option_records codes 1 (words_from 0 l.words)) ≡ l.end + length (option_records (codes + 1 - l.code) l.code (words_from 0 l.words))) × (1 ≤ l.code) × (l.code ≤ codes + 1) × (l.end + 11 * (codes + 1 - l.code) ≤ l.at + 143) × (length l.buf ≡ length l.initial.buf)
