-- DEMANDS 1 TO 3 ARE MET: each sentence by the theorem that has it.
-- Assumes nothing.
use mathlib.Core.Path.{◌≡◌, refl, sym, ap, ◌∙◌}
use mathlib.Core.Bool.{Bool, true, false, cond}
use mathlib.Core.List.{List}
use Prim.Native.Nat.{ℕ, ◌+◌}
use lib.Dec.{eqb, lit<}
use lib.ListN.{length}
use borrow.Author.Tests.{eqb-true}
use Rattle.endian.specs.Answer.{room, answer}
use Rattle.endian.specs.Bytes.{patch}
use Rattle.endian.specs.Fields.{write_fields, table, table_fits}
use Rattle.crc.proofs.Laws.{length-stamped, stamped-verifies}
use Rattle.crc.proofs.Vectors.{vectors}
use Rattle.geometry.specs.Compute.{chosen_of, refusals, refusal_of, geometry_of, compute_def}
use Rattle.geometry.proofs.Answer.{number_of}
use Rattle.geometry_answers.proofs.Again.{again}
use Rattle.geometry_layout.proofs.Bounding.{answered-bounds}
use Rattle.geometry_layout.proofs.Sizings.{step-old}
use Rattle.plan_closed.proofs.Planning.{closed-plan, roomy-planned}
use Rattle.plan_summary.proofs.Narrow.{narrow}
use Rattle.plan_orders.proofs.Groups.{any_order}
use Rattle.plan_uses.proofs.OneUse.{one-use, rmap-agrees}
use Rattle.seqs.proofs.Laws.{choose-elim}
use Rattle.request.specs.declared.Request.{Request}
use Rattle.request.specs.Parse.{parse_def}
use Rattle.run.specs.declared.Run.{Run}
use Rattle.run.specs.Runs.{bare_number, run_number, run_of, accepted}
use Rattle.list_accepted.proofs.Parsed.{accepted-run}
use Rattle.stations.specs.Stations.{stations}
use Rattle.list_accepted.proofs.Stations.{k1-accepted}
use Rattle.list_accepted.proofs.Heads.{run-ordered, run-left}
use Rattle.list_read.specs.Whole.{read_list}
use Rattle.list_laws.proofs.Whole.{input-whole}
use Rattle.list_laws.proofs.Sending.{sends-all}
use Rattle.reader_exact.specs.Disk.{formatted}
use Rattle.reader_exact.proofs.Sizings.{reported-plain, reported-old}
use Rattle.reader_exact.proofs.Numbers.{first-numbers, group-numbers, log-numbers}
use Rattle.reader_exact.proofs.Sources.{exact-asked}
use Rattle.reader_exact.proofs.Refused.{past-refused}
use Rattle.reader_exact.proofs.Whole.{exact-whole}
use Rattle.reader_vouch.proofs.Leaving.{first_head, other-head, log-block}
use Rattle.reader_pass.proofs.Left.{accepted-left, left-accepted, left-unfinished}
use Rattle.reader_pass.proofs.Fed.{parts-exact, parts-few, parts_more}
use Rattle.reader_layout.proofs.Left.{superblock-left, agf-left, agi-left, list_left, roots-left, inodes-left, directory-left}
use Rattle.mission.specs.Mission.{Demand1, Demand2, Demand3}
use Rattle.mission.specs.Mission.Words.{OneForm}
use Rattle.mission.proofs.Checks.{heads-checked}
use Rattle.mission.proofs.Geometries.{own-sectors, is-answer, label-size, refused-plans}
use Rattle.mission.proofs.Stopped.{read_back, power-cut}
use Rattle.mission.proofs.Tables.{first-least, steps-rise}
use Rattle.mission.proofs.Totals.{used-once, all-totals}

-- ---- a refused call changes nothing

kept : (t : Bool) (n r : ℕ) (new old left : List ℕ) → eqb n 0 ≡ t → r ≡ n → left ≡ cond t new old → (r ≡ 0 → ⊥) → left ≡ old
kept true n r new old left e a b q = absurd (q (a ∙ eqb-true n 0 e))
kept false n r new old left e a b q = b

-- a test of the length and its number choose alike
same-choice : (t : Bool) (new old : List ℕ) → cond t new old ≡ cond (eqb (answer t) 0) new old
same-choice true new old = refl
same-choice false new old = refl

one_form : OneForm
one_form =
    record {
      by_length = λ m r new old left p. record { number = p.number; bytes = p.bytes ∙ same-choice (room m old) new old };
      by-table =
          λ at vs old left r p.
          record { number = p.number; bytes = p.bytes ∙ same-choice (table_fits (length old) at (length vs)) (write_fields (table at vs) old) old };
      of-a-line =
          λ at r end bytes old left p.
          record { number = p.number_is; bytes = p.bytes-are ∙ same-choice (room (at + length bytes) old) (patch at bytes old) old };
      encoded = λ n r right sums new old left p. p.written;
      of-a-chunk = λ n next r state right sums new old left p. p.encoded.written;
    }

number_is : (r : Request) → (run_of r).number ≡ run_number r
unfolding run_of
number_is r = choose-elim (λ (x : Run). x.number ≡ run_number r) (eqb (run_number r) 0) _ _ (λ t. sym (eqb-true (run_number r) 0 t)) (λ t. refl)

pub demand1 : Demand1
unfolding compute_def refusal_of accepted run_number bare_number
demand1 =
    record {
      any-input = accepted-run;
      input-number = λ xs. number_is (parse_def xs);
      by-the-table = λ p d l f. number_of (refusal_of p d (chosen_of p d l f)) (geometry_of p (chosen_of p d l f));
      smallest-number =
          λ p d l f m a.
          let e = number_of (refusal_of p d (chosen_of p d l f)) (geometry_of p (chosen_of p d l f)) in
          rw e (first-least (refusals p d (chosen_of p d l f)) 1 m (lit< tt) (steps-rise p d (chosen_of p d l f)) a);
      own-sectors = own-sectors;
      no-empty-group = λ g a. let b = (answered-bounds g a).groups in (b.group-least, b.last-least);
      no-stranger = exact-asked;
      refused-plans = refused-plans;
      roomy-plans = λ g a. roomy-planned g (label-size g a) (is-answer g a);
      plain-accepts = step-old;
      reader-numbers = λ g u k xs. (first-numbers xs, group-numbers g u k xs, log-numbers g u xs);
      untouched = λ n r new old left w q. kept (eqb n 0) n r new old left refl w.number w.bytes q;
      one_form = one_form;
    }

pub demand2 : Demand2
unfolding formatted
demand2 =
    record {
      rfc-vectors = vectors;
      checksums-verify = λ off xs h. (stamped-verifies off xs h, length-stamped off xs);
      named_again = again;
      closed-plans = λ g a k i. closed-plan g (label-size g a) (is-answer g a) k i;
      planned-once =
          λ g a k i q. (
            (λ b j. one-use g (label-size g a) (is-answer g a) k i q b j),
            (λ on b. rmap-agrees g (label-size g a) (is-answer g a) k i q on b),
          );
      narrow = λ g a e k i. narrow g (label-size g a) e k i;
      any_order = λ g a e ks o. any_order g (label-size g a) e ks o;
      sent-and-read = λ xs o e room buf p q. let s = (sends-all xs o e).whole room buf p q in let w = input-whole xs o e in (s, ap read_list (s ∙ sym w.whole) ∙ w.back);
      ordered-list = run-ordered;
      left_behind = run-left;
      checksums-left = heads-checked;
      superblocks-left = superblock-left;
      agfs-left = agf-left;
      agis-left = agi-left;
      lists-left = list_left;
      roots-left = roots-left;
      inodes-left = inodes-left;
      directory-left = directory-left;
    }

pub demand3 : Demand3
unfolding stations
demand3 =
    record {
      recovered = read_back;
      reported-geometry = λ g. (reported-plain g, reported-old g);
      first_head = first_head;
      other-head = λ g u k xs h. other-head g u xs k h;
      log-block = log-block;
      whole-disk = exact-whole;
      pass-accepts = λ d b n h. (accepted-left d b n, left-accepted d b n h);
      pass-unfinished = left-unfinished;
      pass-vouches = parts-exact;
      pass-counted = λ parts n. ((λ w h. parts-few parts w n h), (λ h. parts_more parts n h));
      no-such-group = λ g u k xs a h. past-refused g u xs k a h;
      one-use = used-once;
      totals = all-totals;
      power-cut = power-cut;
      some-disk = k1-accepted;
    }
