-- What the tests of a length say.
-- Assumes nothing.
use mathlib.Core.Path.{◌≡◌, sym, subst}
use mathlib.Core.Bool.{Bool, true}
use Prim.Native.Nat.{ℕ, zero, suc, ◌+◌, ◌^◌, ◌≤◌}
use native.Mathlib.Nat.{le_trans, le_refl, add-zero, pow-le-pow_right}
use native.Mathlib.Omega.{arith}
use lib.Dec.{T, eqb, eqb→eq, lit<}
use Rattle.endian.proofs.Fields.{either}
use Rattle.structs.specs.Sizes.{is_power, is_sector, is_block, is_inode}

least-power : (k c n : ℕ) → T (is_power k c n) → 2 ^ k ≤ n
least-power k zero n t = let g : n ≡ 2 ^ k = eqb→eq n (2 ^ k) t in omega arith
least-power k (suc c) n t =
    either (2 ^ k ≤ n) (eqb n (2 ^ k)) (is_power (suc k) c n) t
    (λ e. let g : n ≡ 2 ^ k = eqb→eq n (2 ^ k) e in omega arith)
    (λ r. le_trans (pow-le-pow_right (lit< tt) (let g : k ≤ suc k = omega arith in g)) (least-power (suc k) c n r))

most-power : (k c n : ℕ) → T (is_power k c n) → n ≤ 2 ^ (k + c)
most-power k zero n t = let g : n ≡ 2 ^ k = eqb→eq n (2 ^ k) t in rw (add-zero, g) (le_refl (2 ^ k))
most-power k (suc c) n t =
    either (n ≤ 2 ^ (k + suc c)) (eqb n (2 ^ k)) (is_power (suc k) c n) t
    (λ e. let g : n ≡ 2 ^ k = eqb→eq n (2 ^ k) e in rw g (pow-le-pow_right (lit< tt) (let h : k ≤ k + suc c = omega arith in h)))
    (λ r. let h : suc k + c ≡ k + suc c = omega arith in subst (λ (m : ℕ). n ≤ 2 ^ m) h (most-power (suc k) c n r))

holds : {b : Bool} → b ≡ true → T b
holds e = subst T (sym e) tt

pub sector-least : (n : ℕ) → is_sector n ≡ true → 512 ≤ n
unfolding is_sector
sector-least n e = least-power 9 6 n (holds e)

pub block-least : (n : ℕ) → is_block n ≡ true → 1024 ≤ n
unfolding is_block
block-least n e = least-power 10 4 n (holds e)

pub inode-least : (n : ℕ) → is_inode n ≡ true → 512 ≤ n
unfolding is_inode
inode-least n e = least-power 9 2 n (holds e)

pub inode-most : (n : ℕ) → is_inode n ≡ true → n ≤ 2048
unfolding is_inode
inode-most n e = most-power 9 2 n (holds e)
