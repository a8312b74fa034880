-- The tests of a list's first bytes, one after the other.
-- Assumes nothing.
use mathlib.Core.Path.{◌≡◌, refl}
use mathlib.Core.Bool.{true, false}
use mathlib.Core.List.{List}
use Prim.Native.Nat.{ℕ, ◌+◌, ◌≤◌, ◌<◌}
use lib.Dec.{ltb}
use lib.ListN.{length}
use borrow.Author.Tests.{lt-leb, le-leb, lt-ltb, le-ltb}
use Rattle.endian.specs.Bytes.{be_at}
use Rattle.list_sector.specs.Sector.{begins_superblock, sector_behind, sector_in, below_logical}

module _ (n : ℕ) (xs : List ℕ) where
  pub block-too-long : 16384 < n → 0 ≡ sector_behind n xs
  unfolding sector_behind
  block-too-long h = rw (lt-leb n 16384 h) refl

  module _ (l : n ≤ 16384) where
    pub cut-before : length xs < 194 + n → 0 ≡ sector_behind n xs
    unfolding sector_behind
    cut-before h = rw (le-leb n 16384 l, lt-leb (194 + n) (length xs) h) refl

    module _ (m : 194 + n ≤ length xs) where
      pub said : begins_superblock n xs ≡ true → (r : ℕ) → r ≡ be_at 2 (192 + n) xs → r ≡ sector_behind n xs
      unfolding sector_behind
      said t r e = rw (le-leb n 16384 l, le-leb (194 + n) (length xs) m, t) e

      pub unsaid : begins_superblock n xs ≡ false → 0 ≡ sector_behind n xs
      unfolding sector_behind
      unsaid t = rw (le-leb n 16384 l, le-leb (194 + n) (length xs) m, t) refl

module _ (xs : List ℕ) where
  pub too_short : length xs < 194 → 0 ≡ sector_in xs
  unfolding sector_in
  too_short h = rw (lt-ltb (length xs) 194 h) refl

  pub long-enough : 194 ≤ length xs → (r n : ℕ) → n ≡ be_at 8 64 xs → r ≡ sector_behind n xs → r ≡ sector_in xs
  unfolding sector_in
  long-enough h r n e d = rw (le-ltb (length xs) 194 h, ← e) d

  pub compared : (s logical : ℕ) → s ≡ sector_in xs → ltb s logical ≡ below_logical xs logical
  unfolding below_logical
  compared s logical e = rw e refl
