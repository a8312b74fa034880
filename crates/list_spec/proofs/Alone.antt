-- No record but those named touches a head.
-- Assumes nothing.
use mathlib.Core.Path.{◌≡◌}
use mathlib.Core.List.{[], ◌∷◌}
use mathlib.Core.Logic.{⊎_elim}
use Prim.Native.Nat.{ℕ, zero, suc, ◌+◌, ◌≤◌, ◌<◌}
use native.Mathlib.Omega.{arith}
use Rattle.seqs.proofs.Laws.{lt-or-le}
use Rattle.run.specs.declared.Run.{Run}
use Rattle.list_records.specs.Records.{FL, All}
use Rattle.list_records.proofs.Blocks.{all_append}
use Rattle.list_records.specs.Device.{Misses}
use Rattle.list_records.proofs.Applying.{blocks-miss}
use Rattle.list_spec.specs.Listing.{opening, head_records, chunk_records, header_records, closing, log_offset}
use Rattle.list_spec.specs.Sound.{SoundRun}
use Rattle.list_spec.specs.Left.{head_at, head_bytes_of, header_bytes_of, log_size, chunk_offset, chunk_bytes_of, OwnRecords}
use Rattle.list_spec.proofs.Spans.{spans}

-- ---- parts of the list that miss some bytes

module _ (run : Run) (off n : ℕ) where
  -- the head of a group whose head is elsewhere
  pub head-miss : (k : ℕ) → ((x : ℕ) → off ≤ x → x < off + n → head_at run k ≤ x → x < head_at run k + head_bytes_of run → ⊥) → All (Misses off n) (head_records run k)
  unfolding head_records
  head-miss k f = blocks-miss run.geometry.blocksize off n _ _ _ f

  -- the root chunk
  pub chunk-miss : ((x : ℕ) → off ≤ x → x < off + n → chunk_offset run ≤ x → x < chunk_offset run + chunk_bytes_of run → ⊥) → All (Misses off n) (chunk_records run)
  unfolding chunk_records
  chunk-miss f = blocks-miss run.geometry.blocksize off n _ _ _ f

  -- the finished header blocks and the flushes
  pub closing-miss : header_bytes_of run ≤ off → All (Misses off n) (closing run)
  unfolding closing
  closing-miss h = (
    λ x a b c d. omega arith,
    all_append (Misses off n) (header_records run) (FL ∷ []) (blocks-miss run.geometry.blocksize off n _ _ _ (λ x a b c d. omega arith)) ((λ x a b c d. omega arith), tt),
  )

-- ---- a head

module _ (run : Run) (device : ℕ) (s : SoundRun run device) where
  heads-apart : (j k x : ℕ) → (j ≡ k → ⊥) → head_at run k ≤ x → x < head_at run k + head_bytes_of run → head_at run j ≤ x → x < head_at run j + head_bytes_of run → ⊥
  heads-apart j k x h a b c d =
      let p = spans run device s in
      ⊎_elim
      (λ (l : j < k). omega (arith, p.heads j k l))
      (λ (l : k ≤ j). let m : k < j = omega arith in omega (arith, p.heads k j m))
      (lt-or-le j k)

  chunk-apart : (k x : ℕ) → head_at run k ≤ x → x < head_at run k + head_bytes_of run → chunk_offset run ≤ x → x < chunk_offset run + chunk_bytes_of run → ⊥
  chunk-apart zero x a b c d = let p = spans run device s in omega (arith, p.first, p.chunk-after)
  chunk-apart (suc k) x a b c d = let p = spans run device s in omega (arith, p.chunk-heads (suc k) (omega arith))

  pub log-apart : (k x : ℕ) → head_at run k ≤ x → x < head_at run k + head_bytes_of run → log_offset run.geometry ≤ x → x < log_offset run.geometry + log_size run → ⊥
  log-apart k x a b c d =
      let p = spans run device s in
      ⊎_elim
      (λ (l : run.geometry.logagno < k). omega (arith, p.log-before k l))
      (λ (l : k ≤ run.geometry.logagno). omega (arith, p.log-after k l))
      (lt-or-le run.geometry.logagno k)

  -- NO OTHER RECORD TOUCHES GROUP k'S HEAD
  pub alone : (k : ℕ) → k < run.geometry.agcount → OwnRecords run device k
  unfolding opening
  alone k h =
      let p = spans run device s in
      record {
        opening-first = λ o. ((λ x a b c d. omega (arith, p.start k o)), tt);
        opening-rest = (
          λ x a b c d. omega (arith, p.end k h),
          (λ x a b c d. log-apart k x a b c (omega (arith, s.log-long, p.log-some)), (λ x a b c d. log-apart k x a b c (omega (arith, s.log-long, p.log-some)), tt)),
        );
        heads = λ j o. head-miss run (head_at run k) (head_bytes_of run) j (λ x a b c d. heads-apart j k x o a b c d);
        chunk = chunk-miss run (head_at run k) (head_bytes_of run) (λ x a b c d. chunk-apart k x a b c d);
        closing = λ o. closing-miss run (head_at run k) (head_bytes_of run) (omega (arith, p.heads 0 k o, p.header-head, p.first));
      }
