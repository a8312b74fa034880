-- What records leave on a device: the last one that covers a byte decides it.
-- Assumes nothing.
use mathlib.Core.Path.{◌≡◌, refl, sym, ap, fun_ext, ◌∙◌}
use mathlib.Core.Bool.{Bool, true, false, cond, ◌&&◌}
use mathlib.Core.List.{List, [], ◌∷◌, ◌++◌}
use Prim.Native.Nat.{ℕ, zero, suc, ◌+◌, ◌-◌, ◌*◌, ◌≤◌, ◌<◌}
use native.Mathlib.Omega.{arith}
use native.Mathlib.Nat.{mul-mod_left}
use borrow.Author.Tests.{leb-true, ltb-true, le-leb, lt-ltb}
use lib.Dec.{leb, ltb}
use lib.ListN.{length, take, drop, get_or, replicate, length-replicate, get_or-replicate, length-take, length-drop}
use lib.Seq.{length-take-le, take-add, get_or-take, get_or-drop}
use Rattle.list_records.specs.Records.{Record, WZ, Wb, All, block_records}
use Rattle.list_records.specs.Device.{Device, at, len, byte, step_record, applied, read, Misses, InsideDevice, Rising}
use Rattle.list_records.proofs.Reading.{get_d_read, read_is, read_same, read-append}

-- ---- one record

hit : (s t : Bool) (u v : ℕ) → s ≡ true → t ≡ true → cond (s && t) u v ≡ u
hit true true u v p q = refl
hit true false u v p q = let z : ◌≡◌ {A = ℕ} 0 1 = cc in absurd (omega arith)
hit false t u v p q = let z : ◌≡◌ {A = ℕ} 0 1 = cc in absurd (omega arith)

pub step-hit : (r : Record) (d : Device) (x : ℕ) → at r ≤ x → x < at r + len r → step_record r d x ≡ byte r (x - at r)
unfolding step_record
step-hit r d x h k = hit (leb (at r) x) (ltb x (at r + len r)) (byte r (x - at r)) (d x) (le-leb (at r) x h) (lt-ltb x (at r + len r) k)

same : (s t : Bool) (u v : ℕ) → (s ≡ true → t ≡ true → u ≡ v) → cond (s && t) u v ≡ v
same true true u v f = f refl refl
same true false u v f = refl
same false t u v f = refl

-- a record that covers x only with the byte that stands there changes nothing there
pub step_same : (r : Record) (d : Device) (x : ℕ) → (at r ≤ x → x < at r + len r → byte r (x - at r) ≡ d x) → step_record r d x ≡ d x
unfolding step_record
step_same r d x f = same (leb (at r) x) (ltb x (at r + len r)) (byte r (x - at r)) (d x) (λ h k. f (leb-true _ _ h) (ltb-true _ _ k))

pub step-miss : (r : Record) (d : Device) (x : ℕ) → (at r ≤ x → x < at r + len r → ⊥) → step_record r d x ≡ d x
step-miss r d x f = step_same r d x (λ h k. absurd (f h k))

-- zeros, and bytes, stand where they were written
pub zeros-left : (at n off m : ℕ) (d : Device) → at ≤ off → off + m ≤ at + n → read (step_record (WZ at n) d) off m ≡ replicate m 0
zeros-left at n off m d h k =
    read_is _ off m (replicate m 0) (length-replicate m 0)
    (λ i l. step-hit (WZ at n) d (off + i) (omega arith) (omega arith) ∙ sym (get_or-replicate m i 0 0 l))

pub zeros-stay : (at m off n : ℕ) (d : Device) → read d off n ≡ replicate n 0 → read (step_record (WZ at m) d) off n ≡ replicate n 0
zeros-stay at m off n d e =
    read_is _ off n (replicate n 0) (length-replicate n 0)
    (λ i h.
    let z : d (off + i) ≡ get_or (replicate n 0) i 0 = sym (get_d_read d off n i h) ∙ ap (λ (xs : List ℕ). get_or xs i 0) e in
    step_same (WZ at m) d (off + i) (λ p q. sym (z ∙ get_or-replicate n i 0 0 h)) ∙ z)

pub bytes_left : (off n : ℕ) (bytes : List ℕ) (d : Device) → length bytes ≡ n → read (step_record (Wb off bytes) d) off n ≡ bytes
bytes_left off n bytes d e =
    read_is _ off n bytes e
    (λ i h. let z : off + i - off ≡ i = omega arith in step-hit (Wb off bytes) d (off + i) (omega arith) (omega arith) ∙ ap (λ j. get_or bytes j 0) z)

-- ---- a list of records

pub applied-append : (xs ys : List Record) (d : Device) → applied (xs ++ ys) d ≡ applied ys (applied xs d)
unfolding applied
applied-append [] ys d = refl
applied-append (x ∷ xs) ys d = applied-append xs ys (step_record x d)

-- WHAT NO RECORD COVERS STAYS
pub missed : (off n : ℕ) (rs : List Record) (d : Device) → All (Misses off n) rs → read (applied rs d) off n ≡ read d off n
unfolding applied
missed off n [] d a = refl
missed off n (r ∷ rs) d a = missed off n rs (step_record r d) a.1 ∙ read_same (step_record r d) d off n (λ x h k. step-miss r d x (a.0 x h k))

pub step-missed : (off n : ℕ) (r : Record) (d : Device) → Misses off n r → read (step_record r d) off n ≡ read d off n
unfolding applied
step-missed off n r d f = missed off n (r ∷ []) d (f, tt)

pub missed-after : (off n : ℕ) (xs ys : List Record) (d : Device) → All (Misses off n) ys → read (applied (xs ++ ys) d) off n ≡ read (applied xs d) off n
missed-after off n xs ys d a = rw (applied-append xs ys d) (missed off n ys (applied xs d) a)

-- a fact of the device that each record keeps is kept
abbrev pub Keeps : (Device → Type 0) → Record → Type 0
Keeps p r = (d : Device) → p d → p (step_record r d)

pub kept : (p : Device → Type 0) (rs : List Record) (d : Device) → All (Keeps p) rs → p d → p (applied rs d)
unfolding applied
kept p [] d a h = h
kept p (r ∷ rs) d a h = kept p rs (step_record r d) a.1 (a.0 d h)

-- records that change nothing where a fact of the device holds change nothing, one after the other
abbrev pub Idle : (Device → Type 0) → Record → Type 0
Idle p r = (d : Device) → p d → step_record r d ≡ d

pub idle : (p : Device → Type 0) (rs : List Record) (d : Device) → All (Idle p) rs → p d → applied rs d ≡ d
unfolding applied
idle p [] d a h = refl
idle p (r ∷ rs) d a h = ap (applied rs) (a.0 d h) ∙ idle p rs d a.1 h

-- ---- a write split into blocks

module _ (bs : ℕ) where
  -- it covers nothing outside its blocks
  pub blocks-miss : (off n from m : ℕ) (bytes : List ℕ) → ((x : ℕ) → off ≤ x → x < off + n → from ≤ x → x < from + m * bs → ⊥) → All (Misses off n) (block_records bs from m bytes)
  unfolding block_records
  blocks-miss off n from zero bytes f = tt
  blocks-miss off n from (suc m) bytes f = (
    λ x h k p q. f x h k p (omega (arith, length-take bs bytes)),
    blocks-miss off n (from + bs) m (drop bs bytes) (λ x h k p q. f x h k (omega arith) (omega arith)),
  )

  -- and its bytes stand there
  pub blocks-left : (off n : ℕ) (bytes : List ℕ) (d : Device) → n * bs ≤ length bytes → read (applied (block_records bs off n bytes) d) off (n * bs) ≡ take (n * bs) bytes
  unfolding block_records applied
  blocks-left off zero bytes d l = let z : 0 * bs ≡ 0 = omega arith in rw z (read_is d off 0 [] refl (λ i h. absurd (omega arith)))
  blocks-left off (suc n) bytes d l =
      let e : suc n * bs ≡ bs + n * bs = omega arith in
      let rest = block_records bs (off + bs) n (drop bs bytes) in
      let d' = step_record (Wb off (take bs bytes)) d in
      rw e (read-append (applied rest d') off bs (n * bs)
      ∙ rw (
        missed off bs rest d' (blocks-miss off bs (off + bs) n (drop bs bytes) (λ x h k p q. omega arith)),
        bytes_left off bs (take bs bytes) d (length-take-le bs bytes (omega arith)),
        blocks-left (off + bs) n (drop bs bytes) d' (omega (arith, length-drop bs bytes)),
        take-add,
      ))

  -- where its bytes stand already it changes nothing
  pub blocks-idle : (p : Device → Type 0) (off n : ℕ) (bytes : List ℕ) → ((d : Device) → p d → (x : ℕ) → off ≤ x → x < off + n * bs → d x ≡ get_or bytes (x - off) 0)
      → All (Idle p) (block_records bs off n bytes)
  unfolding block_records
  blocks-idle p off zero bytes f = tt
  blocks-idle p off (suc n) bytes f = (
    λ d h. fun_ext (λ x.
        step_same (Wb off (take bs bytes)) d x
        (λ a b. get_or-take bs bytes (x - off) 0 (omega (arith, length-take bs bytes)) ∙ sym (f d h x a (omega (arith, length-take bs bytes))))),
    blocks-idle p (off + bs) n (drop bs bytes)
        (λ d h x a b. let e : bs + (x - (off + bs)) ≡ x - off = omega arith in f d h x (omega arith) (omega arith) ∙ sym (get_or-drop bs bytes (x - (off + bs)) 0 ∙ ap (λ (i : ℕ). get_or bytes i 0) e)),
  )

  -- its records lie at multiples of the block size, each where the one before it ends
  pub blocks-fit : (device q off n : ℕ) (bytes : List ℕ) → off ≡ q * bs → off + n * bs ≤ device → All (InsideDevice bs device) (block_records bs off n bytes)
  unfolding block_records
  blocks-fit device q off zero bytes e h = tt
  blocks-fit device q off (suc n) bytes e h = (
    (rw e (mul-mod_left q bs), omega (arith, length-take bs bytes)),
    blocks-fit device (suc q) (off + bs) n (drop bs bytes) (omega arith) (omega arith),
  )

  pub blocks-rising : (off n : ℕ) (bytes : List ℕ) → n * bs ≤ length bytes → Rising off (block_records bs off n bytes)
  unfolding block_records
  blocks-rising off zero bytes l = tt
  blocks-rising off (suc n) bytes l =
      let e : length (take bs bytes) ≡ bs = length-take-le bs bytes (omega arith) in
      (refl, rw e (blocks-rising (off + bs) n (drop bs bytes) (omega (arith, length-drop bs bytes))))
