-- POWER LOST WHILE FORMATTING: what the reader says of a device on which only some of a run's records came.
-- Assumes nothing.
use mathlib.Core.Path.{◌≡◌, refl, sym, ap, subst, ◌∙◌}
use mathlib.Core.Bool.{Bool, true, not, ◌&&◌}
use mathlib.Core.List.{List, [], ◌∷◌, ◌++◌, append_assoc}
use Prim.Native.Nat.{ℕ, suc, ◌+◌, ◌-◌, ◌≤◌, ◌<◌}
use native.Mathlib.Omega.{arith}
use lib.ListN.{length, take, drop, length-append, length-take, take-append-drop}
use lib.Seq.{take-append-le, take_at, drop_at, drop-append-add}
use Rattle.arith.specs.Choice.{when}
use Rattle.refusals.specs.Numbers.{not_in_profile, not_left}
use Rattle.seqs.specs.Lists.{total}
use Rattle.seqs.proofs.Laws.{total-append}
use Rattle.geometry.specs.declared.Geometry.{Geometry}
use Rattle.plan.specs.declared.Planned.{Planned}
use Rattle.request.specs.declared.Request.{Request}
use Rattle.profile.specs.Rules.{profile_number, label_on}
use Rattle.profile.proofs.Labels.{allowed-number}
use Rattle.run.specs.declared.Run.{Run}
use Rattle.run.specs.Runs.{run_of}
use Rattle.list_records.specs.Records.{Record, FL, Among, by_kind, block_records}
use Rattle.list_records.proofs.Sums.{count-total}
use Rattle.list_records.specs.Device.{Device, applied}
use Rattle.list_spec.specs.Listing.{header_blocks, head_finished, header_records, head_left, closing, list_of, record_count}
use Rattle.list_spec.specs.Left.{unfinished, finishing_record, FirstBlockUnfinished}
use Rattle.list_spec.proofs.Counts.{list_count, list-flushes, closing-total}
use Rattle.list_spec.proofs.Parts.{list-parts}
use Rattle.list_spec.proofs.Early.{early-any}
use Rattle.list_spec.proofs.After.{idle-any, after_any}
use Rattle.list_read.specs.Whole.{read_list}
use Rattle.list_accepted.specs.Accepted.{AcceptedRun}
use Rattle.list_accepted.proofs.Runs.{source_of}
use Rattle.list_accepted.proofs.Sound.{sound}
use Rattle.list_accepted.proofs.Heads.{run-early, run-finished}
use Rattle.list_laws.proofs.Whole.{written-whole}
use Rattle.list_laws.proofs.Applied.{run-front}
use Rattle.reader_exact.specs.declared.Found.{Found}
use Rattle.reader_exact.specs.Read.{read_group0, read_group, read_log}
use Rattle.reader_exact.specs.Left.{reported}
use Rattle.reader_exact.specs.Disk.{head_on, log_on, formatted}
use Rattle.reader_exact.proofs.Heads.{some-group, source-handed}
use Rattle.reader_exact.proofs.Sizings.{reported-source, reported-log, reported-here}
use Rattle.reader_exact.proofs.Others.{group-sound, exact-log}
use Rattle.reader_exact.proofs.Disk.{head-formatted, log-formatted, early-refused}
use Rattle.reader_exact.proofs.Recovery.{recovered}
use Rattle.reader_admit.specs.Admit.{admitted}
use Rattle.reader_admit.proofs.Within.{source-within, reported-within}
use Rattle.reader_admit.proofs.Admitted.{refused-kept}
use Rattle.mission.specs.Mission.Words.{before_finished, run_records, stopped_after, Finishing, first_number, Admits, ReadBack, AsLeft}
use Rattle.mission.specs.Mission.{PowerCut}

module _ (run : Run) (device : ℕ) where
  unfinished-length : length (unfinished run device) + 1 ≡ before_finished run.geometry
  unfolding before_finished record_count
  unfinished-length =
      omega (
        arith,
        list_count run device,
        ap (λ (rs : List Record). length rs) (list-parts run device),
        length-append (unfinished run device) (closing run),
        count-total (closing run),
        closing-total 1 1 1 run,
      )

  -- the list is these, and the header blocks and the last flush
  prefix : List Record
  prefix = unfinished run device ++ (FL ∷ [])

  list-prefix : list_of run device ≡ prefix ++ (header_records run ++ (FL ∷ []))
  unfolding prefix closing
  list-prefix = list-parts run device ∙ sym (append_assoc (unfinished run device) (FL ∷ []) (header_records run ++ (FL ∷ [])))

  prefix-length : length prefix ≡ before_finished run.geometry
  unfolding prefix
  prefix-length = omega (arith, length-append (unfinished run device) (FL ∷ []), unfinished-length)

  -- so these are its first records, and those are the later ones
  prefix-taken : take (before_finished run.geometry) (list_of run device) ≡ prefix
  prefix-taken = ap (take (before_finished run.geometry)) list-prefix ∙ take_at prefix _ (before_finished run.geometry) prefix-length

  closing-left : drop (before_finished run.geometry) (list_of run device) ≡ header_records run ++ (FL ∷ [])
  closing-left = ap (drop (before_finished run.geometry)) list-prefix ∙ drop_at prefix _ (before_finished run.geometry) prefix-length

  behind-left : drop (before_finished run.geometry + 1) (list_of run device) ≡ drop 1 (header_records run ++ (FL ∷ []))
  behind-left =
      ap (λ (n : ℕ). drop (n + 1) (list_of run device)) (sym prefix-length) ∙ ap (drop (length prefix + 1)) list-prefix ∙ drop-append-add prefix _ 1

  no-flush-before : total (by_kind 0 0 1) (unfinished run device) ≡ 0
  no-flush-before =
      omega (
        arith,
        list-flushes run device,
        ap (total (by_kind 0 0 1)) (list-parts run device),
        total-append (by_kind 0 0 1) (unfinished run device) (closing run),
        closing-total 0 0 1 run,
      )

-- what is accepted gets the profile's number, which doesn't look at the sizing
admits-reported : (g : Geometry) → admitted true (reported g) 0 ≡ profile_number true g (label_on g)
unfolding admitted
admits-reported g = ap (λ (b : Bool). when (true && not b) not_in_profile 0) (reported-within g)

module _ (r : Request) (a : AcceptedRun r) (old : Device) where
  abbrev run : Run
  run = run_of r

  -- up to the finishing record group 0's first block is zeros, or the unfinished one
  its-early : (n : ℕ) → 0 < n → n ≤ before_finished run.geometry → FirstBlockUnfinished run (stopped_after r n old)
  unfolding prefix
  its-early n o h =
      let l = prefix-length run r.device in
      let cut = take n (prefix run r.device) in
      subst (λ (rs : List Record). FirstBlockUnfinished run (applied rs old))
      (sym (ap (take n) (list-prefix run r.device) ∙ take-append-le n (prefix run r.device) _ (omega arith)))
      (run-early r a cut (drop n (prefix run r.device)) (take-append-drop n (prefix run r.device)) (omega (arith, length-take n (prefix run r.device))) old)

  -- and the reader refuses it, whether or not it is told to admit profile disks only
  early-number : (d : Device) → FirstBlockUnfinished run d → (told : Bool) → first_number told r d ≡ not_left
  early-number d e told =
      let f = read_group0 (head_on run.geometry d 0) in
      let n : f.number ≡ not_left = early-refused r a d e in
      refused-kept told f.geometry f.number (λ z. omega (arith, n, z)) ∙ n

  finished : (n : ℕ) → before_finished run.geometry < n → stopped_after r n old ≡ formatted r old
  unfolding formatted before_finished record_count
  finished n h =
      let rs = list_of run r.device in
      run-finished r a (take n rs) (drop n rs) (take-append-drop n rs)
      (omega (arith, length-take n rs, list_count run r.device, unfinished-length run r.device, (sound r a).header-some)) old

  pub read_back : ReadBack r (formatted r old)
  read_back =
      let g = run.geometry in
      let u = run.uuid in
      let z = recovered r a in
      record {
        first = ap read_group0 (head-formatted r a old 0 (some-group g u (source_of r a))) ∙ z.first;
        group = λ k h. ap (read_group (reported g) u k) (head-formatted r a old k h) ∙ z.group k h;
        log-block = ap (read_log (reported g) u) (log-formatted r a old) ∙ z.log-block;
      }

  its-recovered : (n : ℕ) → before_finished run.geometry < n → ReadBack r (stopped_after r n old)
  its-recovered n h = rw (finished n h) read_back

  -- ---- the finishing record

  its-finishing : Finishing r
  unfolding closing block_records
  its-finishing =
      let bs = run.geometry.blocksize in
      let bytes = head_finished run.geometry run.uuid in
      let n = header_blocks run.geometry - 1 in
      let e : header_blocks run.geometry ≡ suc n = omega (arith, (sound r a).header-some) in
      record {
        before = unfinished run r.device;
        behind = block_records bs (0 + bs) n (drop bs bytes) ++ (FL ∷ []);
        list = list-parts run r.device ∙ ap (λ (m : ℕ). unfinished run r.device ++ (FL ∷ (block_records bs 0 m bytes ++ (FL ∷ [])))) e;
        no-flush = no-flush-before run r.device;
        place = unfinished-length run r.device;
      }

  -- ---- records that a cache lost, or wrote in another order

  abbrev least : ℕ
  least = before_finished run.geometry

  -- the device once all up to the first flush are kept
  flushed : stopped_after r least old ≡ applied (prefix run r.device) old
  flushed = ap (λ (rs : List Record). applied rs old) (prefix-taken run r.device)

  its-subset : (n : ℕ) → 0 < n → n ≤ least → (rs : List Record) → Among (drop 1 (take least (run_records r))) rs → FirstBlockUnfinished run (applied rs (stopped_after r n old))
  unfolding prefix
  its-subset n o h rs m =
      early-any run r.device (sound r a) rs (subst (λ (ws : List Record). Among (drop 1 ws) rs) (prefix-taken run r.device) m) (stopped_after r n old) (its-early n o h)

  its-lost : (rs : List Record) → Among (drop (least + 1) (run_records r)) rs → FirstBlockUnfinished run (applied rs (stopped_after r least old))
  unfolding prefix before_finished
  its-lost rs m =
      let i = idle-any run r.device (sound r a) rs (subst (λ (ws : List Record). Among ws rs) (behind-left run r.device) m) old in
      subst (FirstBlockUnfinished run) (sym (ap (applied rs) flushed ∙ i ∙ sym flushed)) (its-early least (omega arith) (omega arith))

  its-closing : (rs : List Record) → Among (drop least (run_records r)) rs → Among (header_records run ++ (FL ∷ [])) rs
  its-closing rs m = subst (λ (ws : List Record). Among ws rs) (closing-left run r.device) m

  its-kept : (xs ys : List Record) → Among (drop least (run_records r)) xs → Among (drop least (run_records r)) ys
      → ReadBack r (applied (xs ++ (finishing_record run ∷ ys)) (stopped_after r least old))
  unfolding prefix formatted
  its-kept xs ys mx my =
      let all = xs ++ (finishing_record run ∷ ys) in
      subst (ReadBack r)
      (sym (ap (applied all) flushed ∙ after_any run r.device (sound r a) xs ys (its-closing xs mx) (its-closing ys my) old)) read_back

  -- what is read back is what the run leaves: the reader accepts nothing else in its places
  its-places : (d : Device) → ReadBack r d → AsLeft r old d
  its-places d b =
      let g = run.geometry in
      let u = run.uuid in
      let s = source_of r a in
      let h = source-handed (reported g) u (reported-source g u s) in
      record {
        head =
            λ k lt.
            (group-sound (reported g) u k (head_on g d k) h (ap (λ (p : Planned). p.number) (b.group k lt))).bytes
            ∙ sym (reported-here g u s k (head_left g u k) (record { source = s; group = lt; bytes = refl })).bytes
            ∙ sym (head-formatted r a old k lt);
        log-block = ((exact-log (reported g) u (log_on g d) h).0 b.log-block).bytes ∙ reported-log g u s ∙ sym (log-formatted r a old);
      }

  -- ---- a reader that admits profile disks only

  its-admitted : (d : Device) → ReadBack r d → Admits (profile_number true run.geometry (label_on run.geometry)) r d
  its-admitted d b =
      let g = run.geometry in
      record {
        first =
            ap (λ (f : Found). admitted true f.geometry f.number) b.first ∙ admits-reported g;
        group = λ k h. ap (λ (p : Planned). admitted true (reported g) p.number) (b.group k h) ∙ admits-reported g;
        log-block = ap (admitted true (reported g)) b.log-block ∙ admits-reported g;
      }

  its-profile : r.profile ≡ true → profile_number true run.geometry (label_on run.geometry) ≡ 0
  its-profile t =
      allowed-number true run.geometry (label_on run.geometry) (source-within run.geometry run.uuid (record { run = record { request = r; accepted = a; geometry = refl; uuid = refl }; profile = t }))

  -- EVERY SENTENCE OF IT
  pub power-cut : PowerCut r old
  unfolding applied
  power-cut =
      record {
        old-contents = refl;
        refused = λ n o h. early-number (stopped_after r n old) (its-early n (omega arith) (omega arith));
        finishing = its-finishing;
        recovered = λ n h. its-recovered n (omega arith);
        admitted-then = λ n h. its-admitted (stopped_after r n old) (its-recovered n (omega arith));
        profile-run = its-profile;
        sent = ap read_list (sym (written-whole r a).whole) ∙ (written-whole r a).back;
        received = λ size limit i hold h k. run-front r a k size limit hold h i;
        any-subset = λ n o h rs m. early-number (applied rs (stopped_after r n old)) (its-subset n (omega arith) (omega arith) rs m);
        needs-all = its-places;
        finished-lost = λ rs m. early-number (applied rs (stopped_after r (before_finished run.geometry) old)) (its-lost rs m);
        finished-kept = its-kept;
      }
