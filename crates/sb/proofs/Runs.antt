-- Numbers written in runs are the table's fields, in its order.
-- Assumes nothing.
use mathlib.Core.Path.{◌≡◌, refl, ap, ap₂, sym, ◌∙◌}
use mathlib.Core.List.{List, [], ◌∷◌, ◌++◌}
use Prim.Native.Nat.{ℕ, zero, suc, ◌+◌, ◌-◌, ◌/◌, ◌%◌, ◌^◌, ◌≤◌, ◌<◌}
use native.Mathlib.Omega.{arith}
use lib.ListN.{length, drop, get_or, length-drop}
use lib.Seq.{drop-cons, drop-drop}
use Rattle.endian.specs.Bytes.{patch, be_bytes}
use Rattle.endian.specs.Fields.{write_fields, table}
use Rattle.std.specs.Int.{bytes_high_first}
use Rattle.sb.specs.Numbers.{Run, evenly, spread, in_run, in_runs}

-- ---- one number
-- the last bytes of a number are those of its low bytes
high-first : (k v : ℕ) → bytes_high_first k v ≡ be_bytes k v
unfolding be_bytes
high-first zero v = refl
high-first (suc zero) v =
    let d : v / 1 ≡ v = omega arith in
    ap (λ (k : ℕ). k % 256 ∷ []) (sym d)
high-first (suc (suc k)) v = ap (λ (l : List ℕ). v / 256 ^ suc k % 256 ∷ l) (high-first (suc k) v)

pub last-bytes : (n m k v : ℕ) → n ≡ m + k → drop m (bytes_high_first n v) ≡ be_bytes k v
last-bytes n zero k v e =
    let f : n ≡ k = omega arith in
    ap (λ (j : ℕ). bytes_high_first j v) f ∙ high-first k v
last-bytes zero (suc m) k v e = absurd (omega arith)
last-bytes (suc n) (suc m) k v e = last-bytes n m k v (omega arith)

-- ---- a run
-- a turn of the loop: what is left of it
pub run-next : (o w n i from : ℕ) (v b b' z : List ℕ) → i < n → from + i < length v
    → write_fields (table (evenly o w (n - i)) (drop (from + i) v)) b ≡ z → b' ≡ patch o (be_bytes w (get_or v (from + i) 0)) b
    → write_fields (table (evenly (o + w) w (n - (i + 1))) (drop (from + (i + 1)) v)) b' ≡ z
run-next o w n i from v b b' z lt l e p =
    let k : n - i ≡ suc (n - (i + 1)) = omega arith in
    let j : suc (from + i) ≡ from + (i + 1) = omega arith in
    ap (write_fields (table (evenly (o + w) w (n - (i + 1))) (drop (from + (i + 1)) v))) p
    ∙ sym (ap₂ (λ (m : ℕ) (r : List ℕ). write_fields (table (evenly o w m) r) b) k (drop-cons v (from + i) 0 l ∙ ap (λ (m : ℕ). get_or v (from + i) 0 ∷ drop m v) j))
    ∙ e

-- a run and what follows it
run-split : (o w n : ℕ) (os v xs : List ℕ) → n ≤ length v
    → write_fields (table (evenly o w n ++ os) v) xs ≡ write_fields (table os (drop n v)) (write_fields (table (evenly o w n) v) xs)
run-split o w zero os v xs h = refl
run-split o w (suc n) os [] xs h = absurd (omega arith)
run-split o w (suc n) os (x ∷ v) xs h = run-split (o + w) w n os v (patch o (be_bytes w x) xs) (omega arith)

-- ---- several runs
abbrev pub total : List Run → ℕ
total [] = 0
total (r ∷ rs) = r.many + total rs

pub all_runs_lem : (rs : List Run) (from : ℕ) (v xs : List ℕ) → from + total rs ≤ length v → in_runs rs from v xs ≡ write_fields (table (spread rs) (drop from v)) xs
all_runs_lem [] from v xs h = refl
all_runs_lem (r ∷ rs) from v xs h =
    let l : r.many ≤ length (drop from v) = rw (length-drop from v) (omega arith) in
    all_runs_lem rs (from + r.many) v (in_run r from v xs) (omega arith)
    ∙ sym (run-split r.at r.width r.many (spread rs) (drop from v) xs l ∙ ap (λ (m : List ℕ). write_fields (table (spread rs) m) (in_run r from v xs)) (drop-drop r.many from v))

pub four_runs : (a b c d : Run) (from : ℕ) (v xs p q r s : List ℕ) → p ≡ in_run a from v xs → q ≡ in_run b (from + a.many) v p
    → r ≡ in_run c (from + a.many + b.many) v q → s ≡ in_run d (from + a.many + b.many + c.many) v r → s ≡ in_runs (a ∷ b ∷ c ∷ d ∷ []) from v xs
four_runs a b c d from v xs p q r s e f g h =
    h ∙ ap (in_run d (from + a.many + b.many + c.many) v) (g ∙ ap (in_run c (from + a.many + b.many) v) (f ∙ ap (in_run b (from + a.many) v) e))
