-- What a run sends is what the closed form says, and fits 64 bits.
-- Assumes nothing.
use mathlib.Core.Path.{◌≡◌, refl, sym, ap, ◌∙◌}
use mathlib.Core.List.{List}
use Prim.Native.Nat.{ℕ, ◌+◌, ◌*◌, ◌<◌, ◌≤◌}
use native.Mathlib.Omega.{arith}
use native.Mathlib.Nat.{mul-le-mul}
use borrow.Author.Tests.{eq-eqb, ne_eqb}
use lib.ListN.{get_or}
use Rattle.geometry.specs.declared.Geometry.{Geometry}
use Rattle.geometry.specs.Limits.{max_groups}
use Rattle.geometry_layout.specs.Bounds.{Bounds}
use Rattle.request.specs.Parse.{parse_def}
use Rattle.run.specs.declared.Run.{Run}
use Rattle.run.specs.Runs.{accepted}
use Rattle.list_spec.specs.Listing.{head_blocks, header_blocks, chunk_blocks, list_of, block_count, record_count, list_length}
use Rattle.list_spec.specs.Order.{Ordered}
use Rattle.list_accepted.specs.Accepted.{AcceptedRun}
use Rattle.list_accepted.proofs.Runs.{run-bounds}
use Rattle.list_accepted.proofs.Heads.{run-ordered}
use Rattle.list_accepted.proofs.Parsed.{accepted-run}
use Rattle.list_size.specs.declared.ListSize.{ListSize}
use Rattle.list_size.specs.Sizes.{size_of, no_size, run_size, input_size}
use Rattle.list_size.specs.Closed.{most_blocks, closed_of, closed_size}

-- ---- how large the numbers are
module _ (g : Geometry) (z : Bounds g) where
  pub heads-most : g.agcount * head_blocks g ≤ 42949672940
  heads-most = let m : g.agcount * head_blocks g ≤ max_groups * 10 = mul-le-mul z.groups.count_most z.places.head-most in omega arith

  pub blocks-most : block_count g ≤ most_blocks
  unfolding block_count
  blocks-most = let h = heads-most in let c = z.places.chunk-most in let d = z.places.header-most in omega arith

-- blocks with the 18 bytes before each
pub bytes_most : (w bs : ℕ) → w ≤ most_blocks → bs ≤ 16384 → w * (18 + bs) ≤ most_blocks * 16402
bytes_most w bs h k = let b : 18 + bs ≤ 16402 = omega arith in mul-le-mul h b

-- ---- what the code puts together
pub blocks-are : (g : Geometry) {heads chunk header : ℕ} → heads ≡ g.agcount * head_blocks g → chunk ≡ chunk_blocks g → header ≡ header_blocks g → 1 + heads + chunk + header ≡ block_count g
unfolding block_count
blocks-are g a b c = rw (a, b, c) refl

pub size-are : (w bs : ℕ) {records bytes payload : ℕ} → records ≡ w + 5 → bytes ≡ 58 + w * (18 + bs) → payload ≡ w * bs
    → ◌≡◌ {A = ListSize} (record { number = 0; records = records; bytes = bytes; payload = payload }) (closed_of w bs)
size-are w bs r b p = λ i. record { number = 0; records = r i; bytes = b i; payload = p i }

-- ---- a list of this form
module _ (run : Run) (device : ℕ) (o : Ordered run device) where
  abbrev g : Geometry
  g = run.geometry

  records_is : record_count g ≡ block_count g + 5
  unfolding record_count block_count
  records_is = omega arith

  bytes-is : list_length g ≡ 58 + block_count g * (18 + g.blocksize)
  unfolding list_length
  bytes-is = refl

  list-closed : size_of (list_of run device) ≡ closed_size g
  list-closed =
      let a = o.count ∙ records_is in
      let b = o.bytes ∙ bytes-is in
      let p = o.carries in
      λ i. record { number = 0; records = a i; bytes = b i; payload = p i }

-- ---- for every input
module _ (xs : List ℕ) (bytes : (i : ℕ) → get_or xs i 0 < 256) (e : (accepted xs).number ≡ 0) where
  taken : AcceptedRun (parse_def xs)
  taken = accepted-run xs bytes e

  pub input-bounds : Bounds (accepted xs).geometry
  unfolding accepted
  input-bounds = run-bounds (parse_def xs) taken

  ordered : Ordered (accepted xs) (parse_def xs).device
  unfolding accepted
  ordered = run-ordered (parse_def xs) taken

  -- THE SIZE OF WHAT IS SENT, IN CLOSED FORM
  pub input-closed : input_size xs ≡ closed_size (accepted xs).geometry
  unfolding input_size run_size
  input-closed = rw (eq-eqb (accepted xs).number 0 e) (list-closed (accepted xs) (parse_def xs).device ordered)

pub input-refused : (xs : List ℕ) → ((accepted xs).number ≡ 0 → ⊥) → input_size xs ≡ no_size (accepted xs).number
unfolding input_size run_size
input-refused xs h = rw (ne_eqb (accepted xs).number 0 h) refl

-- ---- by the run that `accept` gave
module _ (xs : List ℕ) (run : Run) (is : run ≡ accepted xs) where
  pub run-refused : (s : ListSize) → s ≡ no_size run.number → (run.number ≡ 0 → ⊥) → s ≡ input_size xs
  run-refused s e h = e ∙ ap (λ (r : Run). no_size r.number) is ∙ sym (input-refused xs (λ z. h (ap (λ (r : Run). r.number) is ∙ z)))

  module _ (bytes : (i : ℕ) → get_or xs i 0 < 256) (z : run.number ≡ 0) where
    zero_is : (accepted xs).number ≡ 0
    zero_is = sym (ap (λ (r : Run). r.number) is) ∙ z

    pub run-bounded : Bounds run.geometry
    run-bounded = rw is (input-bounds xs bytes zero_is)

    pub run-sent : (s : ListSize) → s ≡ closed_size run.geometry → s ≡ input_size xs
    run-sent s e = e ∙ ap (λ (r : Run). closed_size r.geometry) is ∙ sym (input-closed xs bytes zero_is)
