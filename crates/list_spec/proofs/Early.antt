-- Until the finished superblock is written, group 0's first block is zeros or the unfinished one, also where a cache lost some of the records
-- behind the first or wrote them in another order.
-- Assumes nothing.
use mathlib.Core.Path.{◌≡◌, sym, subst, ◌∙◌}
use mathlib.Core.List.{List, [], ◌∷◌, ◌++◌}
use mathlib.Core.Logic.{inl, inr, ⊎_elim}
use Prim.Native.Nat.{ℕ, zero, suc, ◌+◌, ◌<◌}
use native.Mathlib.Omega.{arith}
use lib.ListN.{length, take, drop}
use lib.Seq.{length-take-le}
use Rattle.run.specs.declared.Run.{Run}
use Rattle.list_records.specs.Records.{Record, FL, All, Among, block_records}
use Rattle.list_records.proofs.Blocks.{all_append, all-prefix, all_map, among-all}
use Rattle.list_records.specs.Device.{Device, step_record, applied, Misses}
use Rattle.list_records.proofs.Applying.{step-missed, zeros-left, bytes_left, blocks-miss, Keeps, kept}
use Rattle.list_spec.specs.Listing.{head_blocks, head_written, opening, head_records, heads_to, chunk_records}
use Rattle.list_spec.specs.Sound.{SoundRun}
use Rattle.list_spec.specs.Left.{head_at, head_bytes_of, unfinished, FirstBlockUnfinished}
use Rattle.list_spec.proofs.Spans.{spans}
use Rattle.list_spec.proofs.Parts.{heads-all}
use Rattle.list_spec.proofs.Alone.{alone}

module _ (run : Run) (device : ℕ) (s : SoundRun run device) where
  -- a record that misses group 0's first block keeps it
  keep : (r : Record) → Misses 0 run.geometry.blocksize r → Keeps (FirstBlockUnfinished run) r
  keep r f d e = ⊎_elim (λ z. inl (step-missed 0 run.geometry.blocksize r d f ∙ z)) (λ z. inr (step-missed 0 run.geometry.blocksize r d f ∙ z)) e

  -- and so does one that misses its head
  keep-head : (r : Record) → Misses (head_at run 0) (head_bytes_of run) r → Keeps (FirstBlockUnfinished run) r
  keep-head r f =
      let p = spans run device s in
      keep r (λ x h k m n. f x (omega (arith, p.first)) (omega (arith, p.first, p.header-some, p.header-head)) m n)

  missed-keep : (rs : List Record) → All (Misses (head_at run 0) (head_bytes_of run)) rs → All (Keeps (FirstBlockUnfinished run)) rs
  missed-keep rs a = all_map (Misses (head_at run 0) (head_bytes_of run)) (Keeps (FirstBlockUnfinished run)) rs keep-head a

  -- group 0's own: the first writes the unfinished block
  head-keep : (n off : ℕ) → off ≡ 0 → All (Keeps (FirstBlockUnfinished run)) (block_records run.geometry.blocksize off n (head_written run.geometry run.uuid 0))
  unfolding block_records
  head-keep zero off e = tt
  head-keep (suc n) off e =
      let p = spans run device s in
      let bs = run.geometry.blocksize in
      let bytes = head_written run.geometry run.uuid 0 in
      let l : length (take bs bytes) ≡ bs = length-take-le bs bytes (omega (arith, s.head-long 0 (omega (arith, s.two)), p.header-some, p.header-head)) in (
        λ d a. inr (rw e (bytes_left 0 bs (take bs bytes) d l)),
        all_map (Misses 0 bs) (Keeps (FirstBlockUnfinished run)) (block_records bs (off + bs) n (drop bs bytes)) keep (blocks-miss bs 0 bs (off + bs) n (drop bs bytes) (λ x a b c d. omega arith)),
      )

  heads-keep : (k : ℕ) → k < run.geometry.agcount → All (Keeps (FirstBlockUnfinished run)) (head_records run k)
  unfolding head_records
  heads-keep zero h = let p = spans run device s in head-keep (head_blocks run.geometry) (head_at run 0) p.first
  heads-keep (suc k) h = missed-keep (head_records run (suc k)) ((alone run device s 0 (omega arith)).heads (suc k) (λ e. omega arith))

  -- all records from the second to the first flush
  rest-keep : All (Keeps (FirstBlockUnfinished run)) (drop 1 (opening run device) ++ ((heads_to run run.geometry.agcount ++ chunk_records run) ++ (FL ∷ [])))
  rest-keep =
      let hs = heads_to run run.geometry.agcount in
      let o = alone run device s 0 (omega (arith, s.two)) in
      all_append (Keeps (FirstBlockUnfinished run)) (drop 1 (opening run device)) ((hs ++ chunk_records run) ++ (FL ∷ [])) (missed-keep (drop 1 (opening run device)) o.opening-rest)
      (all_append (Keeps (FirstBlockUnfinished run)) (hs ++ chunk_records run) (FL ∷ [])
      (all_append (Keeps (FirstBlockUnfinished run)) hs (chunk_records run) (heads-all (Keeps (FirstBlockUnfinished run)) run run.geometry.agcount heads-keep) (missed-keep (chunk_records run) o.chunk))
      (keep FL (λ x a b c d. omega arith), tt))

  first-early : (d : Device) → FirstBlockUnfinished run (applied (take 1 (opening run device)) d)
  unfolding opening applied
  first-early d =
      let p = spans run device s in
      inl (zeros-left _ _ 0 run.geometry.blocksize d (omega arith) (omega (arith, s.block-most, p.end 0 (omega (arith, s.two)), p.header-some, p.header-head, p.tail-ends)))

  -- AFTER EVERY CUT UP TO THE FIRST FLUSH
  pub early : (cut rest : List Record) → cut ++ rest ≡ unfinished run device ++ (FL ∷ []) → 0 < length cut → (d : Device) → FirstBlockUnfinished run (applied cut d)
  unfolding unfinished opening applied
  early [] rest e h d = absurd (omega arith)
  early (r ∷ cut) rest e h d =
      let first : r ∷ [] ≡ take 1 (opening run device) = cc in
      let same : cut ++ rest ≡ drop 1 (opening run device) ++ ((heads_to run run.geometry.agcount ++ chunk_records run) ++ (FL ∷ [])) = cc in
      kept (FirstBlockUnfinished run) cut (step_record r d) (all-prefix (Keeps (FirstBlockUnfinished run)) cut rest (rw same rest-keep)) (subst (λ (rs : List Record). FirstBlockUnfinished run (applied rs d)) (sym first) (first-early d))

  -- AND WHICHEVER OF THEM COME THEN, IN WHICHEVER ORDER
  pub early-any : (rs : List Record) → Among (drop 1 (unfinished run device ++ (FL ∷ []))) rs → (d : Device) → FirstBlockUnfinished run d → FirstBlockUnfinished run (applied rs d)
  unfolding unfinished opening
  early-any rs m d e = kept (FirstBlockUnfinished run) rs d (among-all (Keeps (FirstBlockUnfinished run)) (drop 1 (unfinished run device ++ (FL ∷ []))) rs rest-keep m) e
