-- Writing a number and reading it back, as one law over the width; 2, 4 and 8 bytes are cases of it. And where its lowest byte stands.
-- Assumes nothing.
use mathlib.Core.Path.{◌≡◌, ap, ap₂, sym, ◌∙◌}
use mathlib.Core.List.{List, [], ◌∷◌, ◌++◌}
use Prim.Native.Nat.{ℕ, zero, suc, ◌+◌, ◌/◌, ◌%◌, ◌^◌, ◌≤◌, ◌<◌}
use native.Mathlib.Nat.{div-div-eq-div-mul, pow-suc, mul_comm, div-one}
use lib.ListN.{length}
use Rattle.endian.specs.Bytes.{be_bytes, be_at, patch}
use Rattle.endian.specs.Fields.{part}
use Rattle.endian.proofs.Laws.{length-be}
use Rattle.endian.proofs.Fields.{patch-same, at-written}

-- a number that fits `n` bytes is read back from where it was written
pub written_back : (n v off : ℕ) (xs : List ℕ) → v < 256 ^ n → off + n ≤ length xs → be_at n off (patch off (be_bytes n v) xs) ≡ v
written_back n v off xs h l =
    let e : length (be_bytes n v) ≡ n = length-be n v in
    let p : part off n (patch off (be_bytes n v) xs) ≡ be_bytes n v =
    ap (λ (k : ℕ). part off k (patch off (be_bytes n v) xs)) (sym e) ∙ patch-same off (be_bytes n v) xs (rw e l) in
    at-written n v off (patch off (be_bytes n v) xs) h p

pub back-16 : (v off : ℕ) (xs : List ℕ) → v < 2 ^ 16 → off + 2 ≤ length xs → be_at 2 off (patch off (be_bytes 2 v) xs) ≡ v
back-16 = written_back 2

pub back-32 : (v off : ℕ) (xs : List ℕ) → v < 2 ^ 32 → off + 4 ≤ length xs → be_at 4 off (patch off (be_bytes 4 v) xs) ≡ v
back-32 = written_back 4

pub back-64 : (v off : ℕ) (xs : List ℕ) → v < 2 ^ 64 → off + 8 ≤ length xs → be_at 8 off (patch off (be_bytes 8 v) xs) ≡ v
back-64 = written_back 8

-- the lowest byte is the last
pub be-last : (n v : ℕ) → be_bytes (suc n) v ≡ be_bytes n (v / 256) ++ (v % 256 ∷ [])
unfolding be_bytes
be-last zero v = ap (λ (k : ℕ). k % 256 ∷ []) (div-one v)
be-last (suc n) v =
    let e : v / 256 ^ suc n ≡ v / 256 / 256 ^ n = ap (λ (k : ℕ). v / k) (pow-suc 256 n ∙ mul_comm (256 ^ n) 256) ∙ sym (div-div-eq-div-mul v 256 (256 ^ n)) in
    ap₂ (λ (k : ℕ) (l : List ℕ). k % 256 ∷ l) e (be-last n v)
