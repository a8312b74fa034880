-- The inodes of the chunk are never refused, and what their parts are.
-- Assumes nothing.
use mathlib.Core.Path.{◌≡◌, refl, sym, ap, subst, ◌∙◌}
use mathlib.Core.Bool.{Bool, true, false}
use mathlib.Core.List.{List, []}
use Prim.Native.Nat.{ℕ, ◌+◌, ◌-◌, ◌^◌, ◌≤◌}
use native.Mathlib.Omega.{arith}
use borrow.Author.Tests.{le-leb}
use lib.Dec.{ltb}
use lib.IntN.{pos}
use lib.ListN.{length, take, replicate, length-append}
use lib.Seq.{take_at, length-take-le}
use Rattle.structs.specs.Sizes.{is_inode}
use Rattle.structs.proofs.Lengths.{inode-least}
use Rattle.inode.specs.declared.dinode.Dinode.{Dinode}
use Rattle.inode.specs.Dinode.{is_big, time_storable, dinode_number, dinode_bytes}
use Rattle.inode_time.specs.Time.{time_inside, not_early, shifted}
use Rattle.params.specs.declared.Timestamp.{Timestamp}
use Rattle.endian.specs.Bytes.{patch}
use Rattle.endian.proofs.Laws.{length-be}
use Rattle.inode.specs.Directory.{directory_header, empty_dir, EmptyDir}
use Rattle.inode.proofs.Core.{Fit, times-pass}
use Rattle.chunk.specs.Inodes.{no_time, root_inode, file_inode}
use Rattle.chunk.specs.Chunk.{root_over}

-- times that can be stored, and data with room
pub never-refused : (d : Dinode) (used size : ℕ) → is_inode size ≡ true → used ≤ 336 → Fit d.flags2 d.atime d.mtime d.ctime d.crtime → dinode_number d used size ≡ 0
unfolding dinode_number
never-refused d used size t h f =
    let l = inode-least size t in
    times-pass d.flags2 d.atime d.mtime d.ctime d.crtime _ f
    ∙ rw (t, le-leb (176 + used) size (omega arith)) refl

-- ---- the root directory

header-most : (t : Bool) (parent : ℕ) → length (directory_header t parent) ≤ 10
header-most true parent = omega (arith, length-be 4 parent)
header-most false parent = omega (arith, length-be 8 parent)

dir-most : (parent : ℕ) → length (empty_dir parent) ≤ 10
unfolding empty_dir
dir-most parent = header-most (ltb parent (2 ^ 32)) parent

module _ (parent len : ℕ) (bytes : List ℕ) (d : EmptyDir parent bytes len) where
  pub dir-inside : len ≤ length bytes
  dir-inside =
      omega (arith, ap length d.bytes-are ∙ length-append (empty_dir parent) (replicate (10 - length (empty_dir parent)) 0), d.len_is)

  pub dir-bytes : take len bytes ≡ empty_dir parent
  dir-bytes =
      ap (take len) d.bytes-are ∙ take_at (empty_dir parent) (replicate (10 - length (empty_dir parent)) 0) len (sym d.len_is)

  pub dir-length : len ≡ length (take len bytes)
  dir-length = sym (length-take-le len bytes dir-inside)

  module _ (flags2 size : ℕ) (time : Timestamp) (root : Dinode) (is : root ≡ root_inode parent flags2 time) where
    pub root-accepted : is_inode size ≡ true → time_storable flags2 time ≡ true → dinode_number root (length (take len bytes)) size ≡ 0
    root-accepted t f =
        ap (λ (x : Dinode). dinode_number x (length (take len bytes)) size) is
        ∙ never-refused (root_inode parent flags2 time) (length (take len bytes)) size t
        (omega (arith, dir-most parent, ap length dir-bytes))
        (record { a-fits = f; m-fits = f; c-fits = f; r-fits = f })

    pub root_over_lem : (a : ℕ) (uuid xs ys zs : List ℕ) → zs ≡ patch a (dinode_bytes root (take len bytes) uuid ys) xs → zs ≡ patch a (root_over parent flags2 time uuid ys) xs
    root_over_lem a uuid xs ys zs e = e ∙ rw (is, dir-bytes) refl

-- ---- the two files

zero-inside : (t : Bool) → time_inside t (pos 0) 0 ≡ true
unfolding time_inside not_early shifted
zero-inside true = refl
zero-inside false = refl

-- the counter's first value can always be stored
pub none_inside : (flags2 : ℕ) → time_storable flags2 no_time ≡ true
none_inside flags2 = zero-inside (is_big flags2)

module _ (ino flags flags2 generation : ℕ) (atime time : Timestamp) (d : Dinode) (is : d ≡ file_inode ino flags flags2 generation atime time) where
  pub file-fit : time_storable flags2 atime ≡ true → time_storable flags2 time ≡ true → Fit d.flags2 d.atime d.mtime d.ctime d.crtime
  file-fit f h =
      subst (λ (x : Dinode). Fit x.flags2 x.atime x.mtime x.ctime x.crtime) (sym is)
      (record { a-fits = f; m-fits = h; c-fits = h; r-fits = h })

  pub file-over : (a : ℕ) (uuid xs ys zs : List ℕ) → zs ≡ patch a (dinode_bytes d [] uuid ys) xs → zs ≡ patch a (dinode_bytes (file_inode ino flags flags2 generation atime time) [] uuid ys) xs
  file-over a uuid xs ys zs e = e ∙ rw is refl
