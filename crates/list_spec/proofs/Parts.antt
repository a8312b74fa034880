-- Facts of a run's records by the parts of its list.
-- Assumes nothing.
use mathlib.Core.Path.{◌≡◌, refl, ap, ◌∙◌}
use mathlib.Core.List.{List, [], ◌∷◌, ◌++◌, append_assoc}
use Prim.Native.Nat.{ℕ, zero, suc, ◌≤◌, ◌<◌}
use native.Mathlib.Omega.{arith}
use lib.ListN.{length, drop}
use Rattle.run.specs.declared.Run.{Run}
use Rattle.list_records.specs.Records.{Record, FL, All}
use Rattle.list_records.proofs.Blocks.{all_append}
use Rattle.list_spec.specs.Listing.{opening, head_records, heads_to, chunk_records, header_records, closing, list_of}
use Rattle.list_spec.specs.Left.{unfinished}

-- a list cut behind a prefix of it
pub cut-behind : {A : Type 0} (prefix behind cut rest : List A) → cut ++ rest ≡ prefix ++ behind → length prefix ≤ length cut
    → (cut ≡ prefix ++ drop (length prefix) cut) × (drop (length prefix) cut ++ rest ≡ behind)
cut-behind [] behind cut rest e h = (refl, e)
cut-behind (x ∷ prefix) behind [] rest e h = absurd (omega arith)
cut-behind (x ∷ prefix) behind (y ∷ cut) rest e h =
    let same : y ≡ x = cc in
    let tails : cut ++ rest ≡ prefix ++ behind = cc in
    let c = cut-behind prefix behind cut rest tails (omega arith) in
    (rw same (ap (λ l. x ∷ l) c.0), c.1)

-- the list is what stands before the first flush, and the closing
pub list-parts : (run : Run) (device : ℕ) → list_of run device ≡ unfinished run device ++ closing run
unfolding list_of unfinished
list-parts run device = simp append_assoc

-- what stands before its last flush
pub but_last : Run → ℕ → List Record
but_last run device = unfinished run device ++ (FL ∷ header_records run)

pub list-last : (run : Run) (device : ℕ) → list_of run device ≡ but_last run device ++ (FL ∷ [])
unfolding but_last closing
list-last run device = list-parts run device ∙ simp append_assoc

module _ (q : Record → Type 0) (run : Run) where
  pub heads-all : (n : ℕ) → ((k : ℕ) → k < n → All q (head_records run k)) → All q (heads_to run n)
  unfolding heads_to
  heads-all zero f = tt
  heads-all (suc n) f = all_append q (heads_to run n) (head_records run n) (heads-all n (λ k h. f k (omega arith))) (f n (omega arith))

  pub list_all : (device : ℕ) → All q (opening run device) → ((k : ℕ) → k < run.geometry.agcount → All q (head_records run k))
      → All q (chunk_records run) → q FL → All q (header_records run) → All q (list_of run device)
  unfolding list_of closing
  list_all device opens heads chunk flush header =
      let hs = heads_to run run.geometry.agcount in
      all_append q (opening run device) (hs ++ (chunk_records run ++ closing run)) opens
      (all_append q hs (chunk_records run ++ closing run) (heads-all run.geometry.agcount heads)
      (all_append q (chunk_records run) (closing run) chunk (flush, all_append q (header_records run) (FL ∷ []) header (flush, tt))))
