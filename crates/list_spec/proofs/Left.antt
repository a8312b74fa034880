-- What a run leaves on a device, whatever stood there.
-- Assumes nothing.
use mathlib.Core.Path.{◌≡◌, sym, ap, ap₂, ◌∙◌}
use mathlib.Core.List.{List, [], ◌∷◌, ◌++◌}
use mathlib.Core.Logic.{◌⊎◌, ⊎_elim}
use Prim.Native.Nat.{ℕ, zero, suc, ◌+◌, ◌-◌, ◌≤◌, ◌<◌}
use native.Mathlib.Omega.{arith}
use borrow.Author.Tests.{ne_eqb}
use lib.ListN.{length, take, drop, take-append-drop}
use lib.Seq.{take_all, take_at, drop_at}
use Rattle.endian.specs.Bytes.{zeros}
use Rattle.geometry_places.specs.Answers.{root_chunk}
use Rattle.chunk.specs.Chunk.{chunk_bytes}
use Rattle.seqs.proofs.Laws.{lt-or-le}
use Rattle.run.specs.declared.Run.{Run}
use Rattle.list_records.specs.Records.{FL}
use Rattle.list_records.proofs.Blocks.{all_append}
use Rattle.list_records.specs.Device.{Device, step_record, applied, read, Misses}
use Rattle.list_records.proofs.Reading.{read-split, read_first, read_behind, drop-agree}
use Rattle.list_records.proofs.Applying.{applied-append, missed, missed-after, step-missed, zeros-left, zeros-stay, bytes_left, blocks-left}
use Rattle.list_spec.specs.Listing.{whack_size, blocks_end, tail_start, opening, head_records, heads_to, chunk_records, header_records, closing, list_of, log_offset, log_block, head_blocks, header_blocks, chunk_blocks, head_written, head_finished, head_left}
use Rattle.list_spec.specs.Sound.{SoundRun}
use Rattle.list_spec.specs.Left.{head_at, head_bytes_of, header_bytes_of, log_size, chunk_offset, chunk_bytes_of, DeviceLeft, unfinished}
use Rattle.list_spec.proofs.Spans.{spans}
use Rattle.list_spec.proofs.Parts.{list-parts, heads-all}
use Rattle.list_spec.proofs.Alone.{head-miss, chunk-miss, closing-miss, log-apart, alone}

module _ (run : Run) (device : ℕ) (s : SoundRun run device) where
  -- ---- before the first flush

  head-left : (k : ℕ) → k < run.geometry.agcount → (d : Device) → read (applied (head_records run k) d) (head_at run k) (head_bytes_of run) ≡ head_written run.geometry run.uuid k
  unfolding head_records
  head-left k h d =
      let bytes = head_written run.geometry run.uuid k in
      let l : length bytes ≡ head_bytes_of run = s.head-long k h in
      blocks-left run.geometry.blocksize (head_at run k) (head_blocks run.geometry) bytes d (omega arith) ∙ take_all (head_bytes_of run) bytes (omega arith)

  heads-left : (m k : ℕ) → k < m → m ≤ run.geometry.agcount → (d : Device)
      → read (applied (heads_to run m) d) (head_at run k) (head_bytes_of run) ≡ head_written run.geometry run.uuid k
  unfolding heads_to
  heads-left zero k h l d = absurd (omega arith)
  heads-left (suc m) k h l d =
      ⊎_elim
      (λ (c : k < m).
      missed-after (head_at run k) (head_bytes_of run) (heads_to run m) (head_records run m) d ((alone run device s k (omega arith)).heads m (λ e. omega arith))
      ∙ heads-left m k c (omega arith) d)
      (λ (c : m ≤ k).
      let e : k ≡ m = omega arith in
      rw (e, applied-append (heads_to run m) (head_records run m) d) (head-left m (omega arith) (applied (heads_to run m) d)))
      (lt-or-le k m)

  pub unfinished-head : (k : ℕ) → k < run.geometry.agcount → (d : Device)
      → read (applied (unfinished run device) d) (head_at run k) (head_bytes_of run) ≡ head_written run.geometry run.uuid k
  unfolding unfinished
  unfinished-head k h d =
      let heads = heads_to run run.geometry.agcount in
      rw (applied-append (opening run device) (heads ++ chunk_records run) d)
      (missed-after (head_at run k) (head_bytes_of run) heads (chunk_records run) (applied (opening run device) d) (alone run device s k h).chunk
      ∙ heads-left run.geometry.agcount k h (omega arith) (applied (opening run device) d))

  -- ---- the opening

  -- what it leaves stays, where no head, no root chunk and no header block lies
  after-opening : (off n : ℕ) (d : Device)
      → ((k x : ℕ) → k < run.geometry.agcount → off ≤ x → x < off + n → head_at run k ≤ x → x < head_at run k + head_bytes_of run → ⊥)
      → ((x : ℕ) → off ≤ x → x < off + n → chunk_offset run ≤ x → x < chunk_offset run + chunk_bytes_of run → ⊥)
      → header_bytes_of run ≤ off → read (applied (list_of run device) d) off n ≡ read (applied (opening run device) d) off n
  unfolding list_of
  after-opening off n d heads chunk h =
      let groups = run.geometry.agcount in
      missed-after off n (opening run device) (heads_to run groups ++ (chunk_records run ++ closing run)) d
      (all_append (Misses off n) (heads_to run groups) (chunk_records run ++ closing run)
      (heads-all (Misses off n) run groups (λ k c. head-miss run off n k (λ x. heads k x c)))
      (all_append (Misses off n) (chunk_records run) (closing run) (chunk-miss run off n chunk) (closing-miss run off n h)))

  opening-log : (d : Device) → read (applied (opening run device) d) (log_offset run.geometry) (log_size run)
      ≡ log_block run.geometry run.uuid ++ zeros (log_size run - run.geometry.blocksize)
  unfolding opening applied
  opening-log d =
      let p = spans run device s in
      let off = log_offset run.geometry in
      let bs = run.geometry.blocksize in
      let rest = log_size run - bs in
      read-split _ off bs (log_size run) p.log-some
      ∙ ap₂ (λ (xs : List ℕ) (ys : List ℕ). xs ++ ys) (bytes_left off bs (log_block run.geometry run.uuid) _ s.log-long)
      (step-missed (off + bs) rest _ _ (λ x a b c d. omega (arith, s.log-long)) ∙ zeros-left off _ (off + bs) rest _ (omega arith) (omega arith))

  opening-start : (off n : ℕ) (d : Device) → off + n ≤ whack_size → read (applied (opening run device) d) off n ≡ zeros n
  unfolding opening applied
  opening-start off n d h =
      let p = spans run device s in
      let one = p.start 1 (omega arith) in
      let tail = p.end 1 (omega (arith, s.two)) in
      let log = p.log-after 1 (omega (arith, s.log-not-first)) in
      missed off n (drop 1 (opening run device)) _ (λ x a b c d. omega arith, (λ x a b c d. omega (arith, s.log-long), (λ x a b c d. omega (arith, s.log-long), tt)))
      ∙ zeros-left _ _ off n d (omega arith) (omega (arith, p.tail-ends))

  opening-end : (d : Device) → read (applied (opening run device) d) (tail_start run.geometry.blocksize device) (blocks_end run.geometry.blocksize device - tail_start run.geometry.blocksize device)
      ≡ zeros (blocks_end run.geometry.blocksize device - tail_start run.geometry.blocksize device)
  unfolding opening applied
  opening-end d =
      let p = spans run device s in
      let bs = run.geometry.blocksize in
      let off = tail_start bs device in
      let n = blocks_end bs device - off in
      step-missed off n _ _ (λ x a b c d. omega (arith, p.log-tail, s.log-long))
      ∙ zeros-stay _ _ off n _ (zeros-left off _ off n _ (omega arith) (omega arith))

  unfinished-chunk : (d : Device) → read (applied (unfinished run device) d) (chunk_offset run) (chunk_bytes_of run)
      ≡ chunk_bytes run.geometry (root_chunk run.geometry) run.uuid run.time run.seed
  unfolding unfinished chunk_records
  unfinished-chunk d =
      let heads = heads_to run run.geometry.agcount in
      let bytes = chunk_bytes run.geometry (root_chunk run.geometry) run.uuid run.time run.seed in
      let l : length bytes ≡ chunk_bytes_of run = s.chunk-long in
      let before = applied heads (applied (opening run device) d) in
      rw (applied-append (opening run device) (heads ++ chunk_records run) d, applied-append heads (chunk_records run) (applied (opening run device) d))
      (blocks-left run.geometry.blocksize (chunk_offset run) (chunk_blocks run.geometry) bytes before (omega arith) ∙ take_all (chunk_bytes_of run) bytes (omega arith))

  -- ---- the finished header blocks

  -- they stand there
  closing-header : (d : Device) → read (applied (closing run) d) 0 (header_bytes_of run) ≡ take (header_bytes_of run) (head_finished run.geometry run.uuid)
  unfolding closing applied
  closing-header d =
      let p = spans run device s in
      missed-after 0 (header_bytes_of run) (header_records run) (FL ∷ []) (step_record FL d) ((λ x a b c d. omega arith), tt)
      ∙ blocks-left run.geometry.blocksize 0 (header_blocks run.geometry) _ (step_record FL d) (omega (arith, s.finished-long, s.head-long 0 (omega (arith, s.two)), p.header-head))

  -- behind them the head stays, and the finished head has the same bytes there
  closing-behind : (d : Device) → read d 0 (head_bytes_of run) ≡ head_written run.geometry run.uuid 0
      → read (applied (closing run) d) (0 + header_bytes_of run) (head_bytes_of run - header_bytes_of run) ≡ drop (header_bytes_of run) (head_finished run.geometry run.uuid)
  closing-behind d e =
      let p = spans run device s in
      missed (0 + header_bytes_of run) (head_bytes_of run - header_bytes_of run) (closing run) d (closing-miss run (0 + header_bytes_of run) (head_bytes_of run - header_bytes_of run) (omega arith))
      ∙ read_behind d 0 (header_bytes_of run) (head_bytes_of run) p.header-head
      ∙ ap (drop (header_bytes_of run)) e
      ∙ sym (drop-agree (header_bytes_of run) (head_finished run.geometry run.uuid) (head_written run.geometry run.uuid 0)
      (s.finished-long ∙ sym (s.head-long 0 (omega (arith, s.two)))) (λ i h. s.agrees i (omega (arith, p.header-some))))

  closing-head : (d : Device) → read d 0 (head_bytes_of run) ≡ head_written run.geometry run.uuid 0
      → read (applied (closing run) d) 0 (head_bytes_of run) ≡ head_finished run.geometry run.uuid
  closing-head d e =
      let p = spans run device s in
      read-split (applied (closing run) d) 0 (header_bytes_of run) (head_bytes_of run) p.header-head
      ∙ rw (closing-header d, closing-behind d e) (take-append-drop (header_bytes_of run) (head_finished run.geometry run.uuid))

  -- ---- after the whole list

  list-head : (k : ℕ) → k < run.geometry.agcount → (d : Device) → read (applied (list_of run device) d) (head_at run k) (head_bytes_of run) ≡ head_left run.geometry run.uuid k
  unfolding head_left
  list-head zero h d =
      let p = spans run device s in
      let e : head_at run 0 ≡ 0 = p.first in
      rw (list-parts run device, applied-append (unfinished run device) (closing run) d, e)
      (closing-head (applied (unfinished run device) d) (rw e at (unfinished-head 0 h d)))
  list-head (suc k) h d =
      rw (ne_eqb (suc k) 0 (λ e. omega arith), list-parts run device)
      (missed-after (head_at run (suc k)) (head_bytes_of run) (unfinished run device) (closing run) d ((alone run device s (suc k) h).closing (omega arith))
      ∙ unfinished-head (suc k) h d)

  list_same : (off n : ℕ) → header_bytes_of run ≤ off → (d : Device) → read (applied (list_of run device) d) off n ≡ read (applied (unfinished run device) d) off n
  list_same off n h d = rw (list-parts run device) (missed-after off n (unfinished run device) (closing run) d (closing-miss run off n h))

  list-log : (d : Device) → read (applied (list_of run device) d) (log_offset run.geometry) (log_size run)
      ≡ log_block run.geometry run.uuid ++ zeros (log_size run - run.geometry.blocksize)
  list-log d =
      let p = spans run device s in
      after-opening (log_offset run.geometry) (log_size run) d (λ k x c a b e f. log-apart run device s k x e f a b) (λ x a b e f. omega (arith, p.log-chunk)) (omega arith)
      ∙ opening-log d

  list-start : (off n : ℕ) (d : Device) → head_bytes_of run ≤ off → off + n ≤ whack_size → (off + n ≤ chunk_offset run) ⊎ (chunk_offset run + chunk_bytes_of run ≤ off)
      → read (applied (list_of run device) d) off n ≡ zeros n
  list-start off n d h k c =
      let p = spans run device s in
      after-opening off n d heads (λ x a b e f. ⊎_elim (λ (l : off + n ≤ chunk_offset run). omega arith) (λ (l : chunk_offset run + chunk_bytes_of run ≤ off). omega arith) c) (omega arith)
      ∙ opening-start off n d k
    where
      heads : (j x : ℕ) → j < run.geometry.agcount → off ≤ x → x < off + n → head_at run j ≤ x → x < head_at run j + head_bytes_of run → ⊥
      heads zero x l a b e f = let p = spans run device s in omega (arith, p.first)
      heads (suc j) x l a b e f = let p = spans run device s in omega (arith, p.start (suc j) (omega arith))

  list-end : (d : Device) → read (applied (list_of run device) d) (tail_start run.geometry.blocksize device) (blocks_end run.geometry.blocksize device - tail_start run.geometry.blocksize device)
      ≡ zeros (blocks_end run.geometry.blocksize device - tail_start run.geometry.blocksize device)
  list-end d =
      let p = spans run device s in
      let tail = p.end 1 (omega (arith, s.two)) in
      after-opening _ _ d (λ k x c a b e f. omega (arith, p.end k c)) (λ x a b e f. omega (arith, p.chunk-heads 1 (omega arith))) (omega arith)
      ∙ opening-end d

  -- WHAT A RUN LEAVES, WHATEVER STOOD THERE
  pub left : (d : Device) → DeviceLeft run device (applied (list_of run device) d)
  left d =
      let p = spans run device s in
      let off = log_offset run.geometry in
      let bs = run.geometry.blocksize in
      let block = log_block run.geometry run.uuid in
      let rest = zeros (log_size run - bs) in
      record {
        head = λ k h. list-head k h d;
        log = read_first _ off bs (log_size run) p.log-some ∙ ap (take bs) (list-log d) ∙ take_at block rest bs s.log-long;
        log-rest = read_behind _ off bs (log_size run) p.log-some ∙ ap (drop bs) (list-log d) ∙ drop_at block rest bs s.log-long;
        chunk = list_same (chunk_offset run) (chunk_bytes_of run) (omega arith) d ∙ unfinished-chunk d;
        start = λ o n h k c. list-start o n d h k c;
        end = list-end d;
      }
