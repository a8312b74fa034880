-- The head of a record by its mark, and where its write ends.
-- Assumes nothing.
use mathlib.Core.Path.{◌≡◌, refl, sym}
use mathlib.Core.Bool.{Bool, true, false}
use mathlib.Core.List.{List}
use Prim.Native.Nat.{ℕ, ◌+◌, ◌≤◌, ◌<◌}
use lib.ListN.{length}
use borrow.Author.Tests.{leb-true, le-leb, lt-leb, ne_eqb}
use Rattle.endian.specs.Bytes.{be_at}
use Rattle.list_read.specs.Records.{flush_mark, zeros_mark, bytes_mark, flush, zeros_kind, bytes, head, head_incomplete, head_refused, head_cut, write_head, decode_def, largest_offset, within_def}

-- ---- too few bytes
pub cut-more : (last : Bool) → last ≡ false → head_incomplete ≡ head_cut last
cut-more last e = rw e refl

-- ---- a write's head
module _ (last : Bool) (kind : ℕ) (xs : List ℕ) where
  pub write-cut : length xs < 18 → head_cut last ≡ write_head last kind xs
  unfolding write_head
  write-cut h = rw (lt-leb 18 (length xs) h) refl

  pub write-held : (at len : ℕ) → 18 ≤ length xs → at ≡ be_at 8 2 xs → len ≡ be_at 8 10 xs → head kind at len 18 ≡ write_head last kind xs
  unfolding write_head
  write-held at len h d e = rw (le-leb 18 (length xs) h, d, e) refl

-- ---- by the mark
module _ (last : Bool) (xs : List ℕ) where
  pub no-mark : length xs < 2 → head_cut last ≡ decode_def last xs
  unfolding decode_def
  no-mark h = rw (lt-leb 2 (length xs) h) refl

  module _ (m : ℕ) (room : 2 ≤ length xs) (mark : m ≡ be_at 2 0 xs) where
    pub flush-at : m ≡ flush_mark → head flush 0 0 2 ≡ decode_def last xs
    unfolding decode_def
    flush-at e = rw (le-leb 2 (length xs) room, ← mark, e) refl

    pub zeros-at : m ≡ zeros_mark → write_head last zeros_kind xs ≡ decode_def last xs
    unfolding decode_def
    zeros-at e = rw (le-leb 2 (length xs) room, ← mark, e) refl

    pub bytes-at : m ≡ bytes_mark → write_head last bytes xs ≡ decode_def last xs
    unfolding decode_def
    bytes-at e = rw (le-leb 2 (length xs) room, ← mark, e) refl

    pub unknown-at : (m ≡ flush_mark → ⊥) → (m ≡ zeros_mark → ⊥) → (m ≡ bytes_mark → ⊥) → head_refused ≡ decode_def last xs
    unfolding decode_def
    unknown-at a b c = rw (le-leb 2 (length xs) room, ← mark, ne_eqb m flush_mark a, ne_eqb m zeros_mark b, ne_eqb m bytes_mark c) refl

-- ---- where a write ends
module _ (at len : ℕ) where
  pub ends-within : at + len ≤ largest_offset → true ≡ within_def at len
  unfolding within_def
  ends-within h = sym (le-leb (at + len) largest_offset h)

  pub ends-past : largest_offset < at + len → false ≡ within_def at len
  unfolding within_def
  ends-past h = sym (lt-leb (at + len) largest_offset h)

  pub within_end : within_def at len ≡ true → at + len ≤ largest_offset
  unfolding within_def
  within_end e = leb-true (at + len) largest_offset e
