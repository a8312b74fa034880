-- Bytes read from a device.
-- Assumes nothing.
use mathlib.Core.Path.{◌≡◌, refl, sym, ap, ◌∙◌}
use mathlib.Core.List.{List, [], ◌∷◌, ◌++◌}
use Prim.Native.Nat.{ℕ, zero, suc, ◌+◌, ◌-◌, ◌≤◌, ◌<◌}
use native.Mathlib.Omega.{arith}
use lib.ListN.{length, take, drop, get_or, length-drop}
use lib.Seq.{take_at, drop_at, ext_get_or, get_or-drop}
use Rattle.list_records.specs.Device.{Device, read}

pub length-read : (d : Device) (off n : ℕ) → length (read d off n) ≡ n
unfolding read
length-read d off zero = refl
length-read d off (suc n) = ap suc (length-read d _ n)

pub get_d_read : (d : Device) (off n i : ℕ) → i < n → get_or (read d off n) i 0 ≡ d (off + i)
unfolding read
get_d_read d off zero i h = absurd (omega arith)
get_d_read d off (suc n) zero h = let z : off + 0 ≡ off = omega arith in rw z
get_d_read d off (suc n) (suc i) h = let z : off + suc i ≡ suc off + i = omega arith in rw z (get_d_read d (suc off) n i (omega arith))

-- a list that has the device's bytes is what is read
pub read_is : (d : Device) (off n : ℕ) (xs : List ℕ) → length xs ≡ n → ((i : ℕ) → i < n → d (off + i) ≡ get_or xs i 0) → read d off n ≡ xs
unfolding read
read_is d off zero [] e f = refl
read_is d off zero (x ∷ xs) e f = absurd (omega arith)
read_is d off (suc n) [] e f = absurd (omega arith)
read_is d off (suc n) (x ∷ xs) e f =
    let z : off + 0 ≡ off = omega arith in
    let h : d off ≡ x = rw z at (f 0 (omega arith)) in
    rw (h, read_is d (suc off) n xs (omega arith) (λ i k. let m : suc off + i ≡ off + suc i = omega arith in rw m (f (suc i) (omega arith))))

pub read_same : (d e : Device) (off n : ℕ) → ((x : ℕ) → off ≤ x → x < off + n → d x ≡ e x) → read d off n ≡ read e off n
unfolding read
read_same d e off zero f = refl
read_same d e off (suc n) f = rw (f off (omega arith) (omega arith), read_same d e (suc off) n (λ x h k. f x (omega arith) (omega arith)))

pub read-append : (d : Device) (off m n : ℕ) → read d off (m + n) ≡ read d off m ++ read d (off + m) n
unfolding read
read-append d off zero n =
    let z : off + 0 ≡ off = omega arith in
    let e : 0 + n ≡ n = omega arith in
    rw (z, e)
read-append d off (suc m) n =
    let z : off + suc m ≡ suc off + m = omega arith in
    let e : suc m + n ≡ suc (m + n) = omega arith in
    rw (z, e) (ap (λ l. d off ∷ l) (read-append d (suc off) m n))

-- the first m of n bytes read, and those behind them
pub read-split : (d : Device) (off m n : ℕ) → m ≤ n → read d off n ≡ read d off m ++ read d (off + m) (n - m)
read-split d off m n h = let e : n ≡ m + (n - m) = omega arith in ap (read d off) e ∙ read-append d off m (n - m)

pub read_first : (d : Device) (off m n : ℕ) → m ≤ n → read d off m ≡ take m (read d off n)
read_first d off m n h = sym (ap (take m) (read-split d off m n h) ∙ take_at (read d off m) (read d (off + m) (n - m)) m (length-read d off m))

pub read_behind : (d : Device) (off m n : ℕ) → m ≤ n → read d (off + m) (n - m) ≡ drop m (read d off n)
read_behind d off m n h = sym (ap (drop m) (read-split d off m n h) ∙ drop_at (read d off m) (read d (off + m) (n - m)) m (length-read d off m))

-- lists of one length that agree from an index on
pub drop-agree : (n : ℕ) (xs ys : List ℕ) → length xs ≡ length ys → ((i : ℕ) → n ≤ i → get_or xs i 0 ≡ get_or ys i 0) → drop n xs ≡ drop n ys
drop-agree n xs ys e f =
    ext_get_or 0 (drop n xs) (drop n ys) (length-drop n xs ∙ ap (λ m. m - n) e ∙ sym (length-drop n ys))
    (λ i h. get_or-drop n xs i 0 ∙ f (n + i) (omega arith) ∙ sym (get_or-drop n ys i 0))
