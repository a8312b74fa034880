-- What is written for an accepted run, piece by piece, and read again is the run's list.
-- Assumes nothing.
use mathlib.Core.Path.{◌≡◌, refl, sym, ap, ◌∙◌}
use mathlib.Core.List.{List, [], ◌∷◌, ◌++◌}
use Prim.Native.Nat.{ℕ, zero, suc, ◌+◌, ◌-◌, ◌<◌, ◌≤◌, ◌^◌}
use native.Mathlib.Omega.{arith}
use lib.ListN.{length, take, get_or}
use Rattle.refusals.specs.Numbers.{no_place}
use Rattle.structs.specs.Written.{Written}
use Rattle.structs.proofs.Written.{written_in}
use Rattle.list_records.specs.Records.{Record, WZ, Wb, FL, All, list_bytes}
use Rattle.list_read.specs.Records.{RecordFits}
use Rattle.list_read.specs.Whole.{read_list, whole_list, CutOff, AllFit}
use Rattle.list_read.specs.Flushes.{WholeList}
use Rattle.list_read.proofs.WholeList.{list_back, list-cut}
use Rattle.list_records.specs.Device.{InsideDevice}
use Rattle.request.specs.declared.Request.{Request}
use Rattle.request.specs.Parse.{parse_def}
use Rattle.run.specs.declared.Run.{Run}
use Rattle.run.specs.Runs.{run_of, accepted}
use Rattle.list_spec.specs.Listing.{list_of, piece_count, list_piece, pieces_to, list_length}
use Rattle.list_spec.proofs.Pieces.{by-chunks}
use Rattle.list_spec.proofs.Parts.{but_last, list-last}
use Rattle.list_spec.proofs.Cut.{told}
use Rattle.list_accepted.specs.Accepted.{AcceptedRun}
use Rattle.list_accepted.proofs.Runs.{run-plans, run-timely, run-bounds}
use Rattle.list_accepted.proofs.Sound.{sound}
use Rattle.list_accepted.proofs.Heads.{run-ordered}
use Rattle.list_accepted.proofs.Parsed.{accepted-run}
use Rattle.group_bytes.proofs.Accepted.{or-second}
use Rattle.list_lengths.specs.declared.Counted.{Counted}
use Rattle.list_lengths.specs.Pieces.{format_number, piece_number, write_number, count_answer, length_answer, part_answer}
use Rattle.list_lengths.proofs.Numbers.{place-there, place_none, write-fits}
use Rattle.list_write.proofs.Splitting.{list-append}
use Rattle.list_laws.specs.Whole.{largest_head, sent, sent_to, sent_all, WrittenWhole}
use Rattle.list_laws.proofs.Long.{chunk-long}
use Rattle.list_laws.proofs.Room.{part-most}

-- ---- a record that lies inside a device of 64 bits is read back

record-fits : (bs device : ℕ) → device < 2 ^ 64 → (w : Record) → InsideDevice bs device w → RecordFits w
record-fits bs device h (WZ offset n) f = (omega (arith, f.1), omega (arith, f.1))
record-fits bs device h (Wb offset bytes) f = (omega (arith, f.1), omega (arith, f.1))
record-fits bs device h FL f = (omega arith, omega arith)

all-fit : (bs device : ℕ) → device < 2 ^ 64 → (ws : List Record) → All (InsideDevice bs device) ws → AllFit ws
all-fit bs device h [] f = tt
all-fit bs device h (w ∷ ws) f = (record-fits bs device h w f.0, all-fit bs device h ws f.1)

-- ---- the pieces one after the other

sent_is : (run : Run) (device n : ℕ) → sent_to run device n ≡ list_bytes (pieces_to run device n)
unfolding sent_to pieces_to list_bytes
sent_is run device zero = refl
sent_is run device (suc n) = ap (λ (l : List ℕ). l ++ sent run device n) (sent_is run device n) ∙ sym (list-append (pieces_to run device n) (list_piece run device n))

sent-whole : (run : Run) (device : ℕ) → sent_all run device ≡ list_bytes (list_of run device)
sent-whole run device = sent_is run device (piece_count run) ∙ ap list_bytes (by-chunks run device)

-- ---- where it ends: its second flush is its last record

pub list-ends : (run : Run) (device : ℕ) → WholeList (list_of run device)
list-ends run device = record { two = (told run device).whole-flushes; prefix = but_last run device; last = list-last run device }

-- ---- an accepted run

module _ (r : Request) (a : AcceptedRun r) where
  abbrev run : Run
  run = run_of r

  format : format_number run ≡ 0
  unfolding format_number
  format = sym (or-second _ _ 0 (run-plans r a) (sym (run-timely r a)))

  -- piece k is there, or not
  pub there : (k : ℕ) → k < piece_count run → piece_number run k ≡ 0
  unfolding piece_count
  there k h = sym (place-there run k format (omega arith))

  not_there : (k : ℕ) → piece_count run ≤ k → piece_number run k ≡ no_place
  unfolding piece_count
  not_there k h = sym (place_none run k format (omega arith))

  -- ---- what the functions answer

  count-is : count_answer run ≡ record { number = 0; value = piece_count run }
  unfolding count_answer
  count-is = rw format refl

  length-is : (k : ℕ) → k < piece_count run → length_answer run k ≡ record { number = 0; value = length (sent run r.device k) }
  unfolding length_answer
  length-is k h = rw (there k h, chunk-long run r.device (sound r a) k) refl

  part-is : (k : ℕ) → k < piece_count run → ((part_answer run k).number ≡ 0) × ((part_answer run k).value ≤ largest_head)
  unfolding part_answer
  part-is k h = rw (there k h) (refl, part-most run.geometry (run-bounds r a) k)

  pub write-is : (k work : ℕ) → k < piece_count run → (part_answer run k).value ≤ work → write_number run k (length (sent run r.device k)) work ≡ 0
  unfolding part_answer
  write-is k work h m = sym (write-fits run k _ work (there k h) (chunk-long run r.device (sound r a) k) (rw (there k h) at m))

  accept-is : (k work : ℕ) → k < piece_count run → largest_head ≤ work → write_number run k (length (sent run r.device k)) work ≡ 0
  accept-is k work h m = let p = (part-is k h).1 in write-is k work h (omega arith)

  left_is : (k work n : ℕ) (old left : List ℕ) → k < piece_count run → (part_answer run k).value ≤ work → length old ≡ (length_answer run k).value
      → Written (write_number run k (length old) work) (sent run r.device k) old n left → (n ≡ 0) × (left ≡ sent run r.device k)
  left_is k work n old left h m e w =
      let l : length old ≡ length (sent run r.device k) = e ∙ ap (λ (c : Counted). c.value) (length-is k h) in
      let z : write_number run k (length old) work ≡ 0 = rw l (write-is k work h m) in
      (w.number ∙ z, written_in w z)

  none_is : (k len work : ℕ) → piece_count run ≤ k → (piece_number run k ≡ no_place) × (write_number run k len work ≡ no_place)
  unfolding write_number
  none_is k len work h = let n = not_there k h in (n, rw n refl)

  -- ---- the bytes that are sent

  bytes-is : length (sent_all run r.device) ≡ list_length run.geometry
  bytes-is = ap length (sent-whole run r.device) ∙ (run-ordered r a).bytes

  pub list-fits : AllFit (list_of run r.device)
  list-fits = all-fit run.geometry.blocksize r.device a.typed.device (list_of run r.device) (run-ordered r a).fits

  read_is : read_list (sent_all run r.device) ≡ whole_list (list_of run r.device)
  read_is = rw (sent-whole run r.device) (list_back (list_of run r.device) list-fits (list-ends run r.device))

  cut-is : (i : ℕ) → i < length (sent_all run r.device) → CutOff (list_of run r.device) (read_list (take i (sent_all run r.device)))
  cut-is i h = rw (sent-whole run r.device) (list-cut (list_of run r.device) list-fits (list-ends run r.device) i (rw (sent-whole run r.device) at h))

  -- WHAT IS WRITTEN FOR AN ACCEPTED RUN, AND READ AGAIN, IS ITS LIST
  pub written-whole : WrittenWhole (run_of r) r.device
  written-whole =
      record {
        counted = count-is;
        long = length-is;
        part = part-is;
        accepts = accept-is;
        leaves = left_is;
        none = none_is;
        whole = sent-whole run r.device;
        bytes = bytes-is;
        back = read_is;
        cut = cut-is;
      }

-- THE SAME FOR EVERY INPUT THAT `accept` ACCEPTS
pub input-whole : (xs : List ℕ) → ((i : ℕ) → get_or xs i 0 < 256) → (accepted xs).number ≡ 0 → WrittenWhole (accepted xs) (parse_def xs).device
unfolding accepted
input-whole xs bytes e = written-whole (parse_def xs) (accepted-run xs bytes e)
