-- The two answers of `parse`.
-- Assumes nothing.
use mathlib.Core.Path.{◌≡◌, refl}
use mathlib.Core.Bool.{Bool, true, false}
use mathlib.Core.List.{List}
use Prim.Native.Nat.{ℕ, ◌≤◌}
use native.Mathlib.Omega.{arith}
use lib.ListN.{length}
use Rattle.endian.specs.Bytes.{be_at}
use Rattle.params.specs.declared.Params.{Params}
use Rattle.request_input.specs.Records.{well_formed}
use Rattle.request.specs.Options.{params_of, profile_of}
use Rattle.request.specs.Parse.{request, under, malformed_request, parse_def}
use Rattle.request.proofs.Values.{device-inside}

pub refused-is : (xs : List ℕ) → well_formed xs ≡ false → malformed_request ≡ parse_def xs
unfolding parse_def
refused-is xs e = rw e refl

-- the device is read inside the input
pub accepted-is : (xs : List ℕ) → well_formed xs ≡ true → {p : Params} {b : Bool} {d l s : ℕ} → p ≡ params_of xs → b ≡ profile_of xs
    → (10 ≤ length xs → d ≡ be_at 8 2 xs) → (14 ≤ length xs → l ≡ be_at 4 10 xs) → (18 ≤ length xs → s ≡ be_at 4 14 xs) → under b (request 0 p d l s) ≡ parse_def xs
unfolding parse_def
accepted-is xs e ep eb fd fl fs =
    let h = device-inside xs e in
    rw (ep, eb, fd (omega arith), fl (omega arith), fs h, e) refl
