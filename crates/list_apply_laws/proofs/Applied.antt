-- A whole list, fed as it is wanted: every record is taken up, and what is done leaves what the records leave.
-- Assumes nothing.
use mathlib.Core.Path.{◌≡◌, refl, sym, ap, ap₂, ◌∙◌}
use mathlib.Core.Bool.{Bool, true, false, true≢false, cond, ◌&&◌}
use mathlib.Core.List.{List, [], ◌∷◌, ◌++◌, append_assoc, append-nil}
use Prim.Native.Nat.{ℕ, ◌+◌, ◌-◌, ◌%◌, ◌^◌, ◌≤◌, ◌<◌}
use native.Mathlib.Omega.{arith}
use native.Mathlib.Nat.{add-zero}
use lib.Dec.{leb, ltb, eqb}
use lib.ListN.{length, take, drop, length-append}
use lib.Seq.{length-take-le, take_at}
use borrow.Author.Tests.{le-leb}
use Rattle.endian.specs.Bytes.{be_at}
use Rattle.list_records.specs.Records.{Record, WZ, Wb, FL, All, by_kind, record_bytes, list_bytes}
use Rattle.list_records.proofs.Sizes.{zeros-bytes, block-bytes}
use Rattle.list_records.specs.Device.{Device, at, len, byte, step_record, applied}
use Rattle.list_records.proofs.Applying.{step-miss, applied-append}
use Rattle.list_read.specs.Records.{flush, zeros_kind, bytes, head, head_incomplete, write_head, decode_def, within_def, head_said, RecordFits}
use Rattle.list_read.specs.Flushes.{flushes_passed, next_def, ended_def, ruled, WholeList}
use Rattle.list_read.specs.Whole.{AllFit}
use Rattle.list_read.proofs.Heads.{within_end}
use Rattle.list_read.proofs.Encoded.{head-back, behind-head, bytes-cut-head}
use Rattle.list_read.proofs.Ending.{one_more, as_many, went_on, whole-list}
use Rattle.list_apply.specs.declared.Applying.{Applying as State}
use Rattle.list_apply.specs.Applying.{goes_on, ended, too_far, first_to_come, held, past, applying_begun, state, following_of, head_next, applying_wanted, input_ended, taken_up, waits_def, held_back, released, accepted_by, in_limit, fed_record, fed_decoded, applying_fed_head, applying_fed}
use Rattle.list_apply_laws.specs.Lists.{Point, point, asked, turn_on, Reach, Within, Applies, Untouched}
use Rattle.list_apply.proofs.Steps.{waits-none}
use Rattle.list_apply_laws.proofs.Ended.{two_past}
use Rattle.list_apply_laws.proofs.Pieces.{reach-none, reach_step, Body, no-piece, no-piece-yet, more-pieces, zeros-body, bytes-body}

-- ---- marks
flush-decoded : decode_def false (0x46 ∷ 0x4c ∷ []) ≡ head flush 0 0 2
unfolding decode_def be_at
flush-decoded = refl

pub zeros-marked : decode_def false (0x57 ∷ 0x5a ∷ []) ≡ head_incomplete
unfolding decode_def write_head be_at
zeros-marked = refl

pub bytes-marked : decode_def false (0x57 ∷ 0x42 ∷ []) ≡ head_incomplete
unfolding decode_def write_head be_at
bytes-marked = refl

-- ---- the head of a write, whether or not the list ends with it
decode-last : (xs : List ℕ) → 18 ≤ length xs → decode_def true xs ≡ decode_def false xs
unfolding decode_def write_head
decode-last xs h = rw (le-leb 2 (length xs) (omega arith), le-leb 18 (length xs) h) refl

module _ (rest : List ℕ) where
  pub first-18 : (w : Record) → 18 ≤ length (record_bytes w) → length (take 18 (record_bytes w ++ rest)) ≡ 18
  first-18 w h = let l = length-append (record_bytes w) rest in length-take-le 18 (record_bytes w ++ rest) (omega arith)

  short-head : (w : Record) → RecordFits w → length (record_bytes w) ≡ 18 → head_said w ≡ decode_def false (take 18 (record_bytes w ++ rest))
  short-head w f e = head-back false w [] f ∙ ap (decode_def false) (append-nil (record_bytes w) ∙ sym (take_at (record_bytes w) rest 18 e))

  pub block-head : (off : ℕ) (bs : List ℕ) → RecordFits (Wb off bs) → head_said (Wb off bs) ≡ decode_def false (take 18 (record_bytes (Wb off bs) ++ rest))
  block-head off [] f = short-head (Wb off []) f (block-bytes off [])
  block-head off (c ∷ cs) f =
      let w = Wb off (c ∷ cs) in
      let l = block-bytes off (c ∷ cs) in
      let t = first-18 w (omega arith) in
      (bytes-cut-head off 0 (c ∷ cs) rest f (omega arith)).0 ∙ decode-last (take 18 (record_bytes w ++ rest)) (omega arith)

-- ---- what ends before the limit ends where a file can
kept_by : (b c : Bool) → (b && c) ≡ true → c ≡ true
kept_by true c e = e
kept_by false c e = absurd (true≢false (sym e))

kept-within : (limit a l : ℕ) → in_limit limit a l ≡ true → within_def a l ≡ true
unfolding in_limit
kept-within limit a l e = kept_by (leb (a + l) limit) (within_def a l) e

-- ---- turns at a head
module _ (size limit first o flushes kind off : ℕ) (free : eqb first held ≡ false) (before : flushes < 2) where
  abbrev idle : State
  idle = state limit first goes_on false o flushes kind off 0

  abbrev marked : State
  marked = state limit first goes_on true o flushes kind off 0

  flush-turn : waits_def first flush ≡ false → (rest : List ℕ) (done : List Record)
      → turn_on size (point idle (record_bytes FL ++ rest) done) ≡ point (state limit past goes_on false (following_of o 0) (flushes + 1) flush 0 0) rest (done ++ (FL ∷ []))
  unfolding turn_on applying_wanted head_next applying_fed applying_fed_head fed_decoded fed_record accepted_by taken_up asked record_bytes in_limit within_def
  flush-turn v rest done = rw (free, flush-decoded, ← one_more flushes flush before refl, le-leb 0 limit (omega arith), v) refl

  pub mark-turn : (m : ℕ) (ys : List ℕ) (done : List Record) → decode_def false (0x57 ∷ m ∷ []) ≡ head_incomplete
      → turn_on size (point idle (0x57 ∷ m ∷ ys) done) ≡ point marked (0x57 ∷ m ∷ ys) (done ++ [])
  unfolding turn_on applying_wanted head_next applying_fed applying_fed_head fed_decoded asked
  mark-turn m ys done e = rw (free, e) refl

  pub head-turn : (xs : List ℕ) (kd a l : ℕ) (done : List Record) → head kd a l 18 ≡ decode_def false (take 18 xs) → length (take 18 xs) ≡ 18
      → waits_def first kd ≡ false → eqb kd 0 ≡ false → eqb kd flush ≡ false → flushes_passed flushes ≡ next_def flushes kd → in_limit limit a l ≡ true
      → turn_on size (point marked xs done) ≡ point (state limit past goes_on false (following_of o l) flushes kd a l) (drop 18 xs) (done ++ [])
  unfolding turn_on applying_wanted head_next applying_fed applying_fed_head fed_decoded fed_record accepted_by taken_up asked
  head-turn xs kd a l done e long v nz nf p w = rw (free, long, ← e, nz, ← p, w, v, nf) refl

-- ---- a record
module _ (size limit : ℕ) (some : 0 < size) (first o flushes kind off : ℕ) (free : eqb first held ≡ false) (before : flushes < 2) (rest : List ℕ) where
  pub record-body : (w : Record) → RecordFits w → Within limit w → waits_def first (head_said w).kind ≡ false → Body size limit (flushes + by_kind 0 0 1 w) (state limit first goes_on false o flushes kind off 0) (record_bytes w ++ rest) rest w
  unfolding record_bytes
  record-body FL f i v =
      more-pieces size limit (flushes + 1) (state limit first goes_on false o flushes kind off 0) (state limit past goes_on false (following_of o 0) (flushes + 1) flush 0 0) (record_bytes FL ++ rest) rest rest FL FL FL
      (flush-turn size limit first o flushes kind off free before v rest) (λ d x. step-miss FL (step_record FL d) x (λ m n. omega arith))
      (no-piece size limit (following_of o 0) (flushes + 1) flush 0 rest FL refl)
  record-body (WZ a n) f i v =
      let w = WZ a n in
      let l = within_end a n (kept-within limit a n i) in
      rw add-zero (no-piece-yet size limit flushes (state limit first goes_on false o flushes kind off 0) (state limit first goes_on true o flushes kind off 0) (record_bytes w ++ rest) (record_bytes w ++ rest) rest w
      (λ done. mark-turn size limit first o flushes kind off free before 0x5a _ done zeros-marked)
      (no-piece-yet size limit flushes (state limit first goes_on true o flushes kind off 0) (state limit past goes_on false (following_of o n) flushes zeros_kind a n) (record_bytes w ++ rest) rest rest w
      (λ done. head-turn size limit first o flushes kind off free before (record_bytes w ++ rest) zeros_kind a n done (short-head rest w f (zeros-bytes a n)) (let z = zeros-bytes a n in first-18 rest w (omega arith)) v refl refl
      (as_many flushes zeros_kind before (λ e. omega arith)) i ∙ ap (λ (ys : List ℕ). point (state limit past goes_on false (following_of o n) flushes zeros_kind a n) ys (done ++ [])) (behind-head w rest))
      (zeros-body size limit some n (following_of o n) flushes a n rest (omega arith) (omega arith))))
  record-body (Wb a bs) f i v =
      let w = Wb a bs in
      let n = length bs in
      let l = within_end a n (kept-within limit a n i) in
      rw add-zero (no-piece-yet size limit flushes (state limit first goes_on false o flushes kind off 0) (state limit first goes_on true o flushes kind off 0) (record_bytes w ++ rest) (record_bytes w ++ rest) rest w
      (λ done. mark-turn size limit first o flushes kind off free before 0x42 _ done bytes-marked)
      (no-piece-yet size limit flushes (state limit first goes_on true o flushes kind off 0) (state limit past goes_on false (following_of o n) flushes bytes a n) (record_bytes w ++ rest) (bs ++ rest) rest w
      (λ done. head-turn size limit first o flushes kind off free before (record_bytes w ++ rest) bytes a n done (block-head rest a bs f) (let z = block-bytes a bs in first-18 rest w (omega arith)) v refl refl
      (as_many flushes bytes before (λ e. omega arith)) i ∙ ap (λ (ys : List ℕ). point (state limit past goes_on false (following_of o n) flushes bytes a n) ys (done ++ [])) (behind-head w rest))
      (bytes-body size limit some n (following_of o n) flushes a bs rest (omega arith) (omega arith))))

-- ---- a list
pub applied-same : (ws : List Record) (d e : Device) → ((x : ℕ) → d x ≡ e x) → (x : ℕ) → applied ws d x ≡ applied ws e x
unfolding applied step_record
applied-same [] d e h x = h x
applied-same (w ∷ ws) d e h x =
    applied-same ws (step_record w d) (step_record w e) (λ y. ap (cond (leb (at w) y && ltb y (at w + len w)) (byte w (y - at w))) (h y)) x

record All-taken (size limit : ℕ) (s : State) (ws : List Record) : Type 0 where
  o : ℕ
  kind : ℕ
  off : ℕ
  pieces : List Record
  go : (done : List Record) (r : Point) → Reach size (point (state limit past goes_on false o 2 kind off 0) [] (done ++ pieces)) r → Reach size (point s (list_bytes ws) done) r
  same : (d : Device) (x : ℕ) → applied pieces d x ≡ applied ws d x

-- a record, and the rest
join : (size limit flushes : ℕ) (s : State) (w : Record) (ws : List Record) (b : Body size limit flushes s (record_bytes w ++ list_bytes ws) (list_bytes ws) w)
    → All-taken size limit (state limit past goes_on false b.o flushes b.kind b.off 0) ws → All-taken size limit s (w ∷ ws)
unfolding list_bytes applied
join size limit flushes s w ws b t =
    record {
      o = t.o;
      kind = t.kind;
      off = t.off;
      pieces = b.pieces ++ t.pieces;
      go = λ done r h. b.go done r (t.go (done ++ b.pieces) r (rw (append_assoc done b.pieces t.pieces) h));
      same = λ d x. rw (applied-append b.pieces t.pieces d) (t.same (applied b.pieces d) x ∙ applied-same ws (applied b.pieces d) (step_record w d) (b.same d) x);
    }

take_all : (size limit : ℕ) → 0 < size → (ws : List Record) (o flushes kind off : ℕ) → ruled flushes ws ≡ 0 → AllFit ws → All (Within limit) ws
    → All-taken size limit (state limit past goes_on false o flushes kind off 0) ws
unfolding list_bytes applied ruled
take_all size limit some [] o flushes kind off z f i =
    let e : flushes ≡ 2 = two_past flushes (eqb flushes 2) refl (ap (λ (k : ℕ). eqb k 0) z) in
    record { o = o; kind = kind; off = off; pieces = []; go = λ done r h. rw e (rw append-nil at h); same = λ d x. refl }
take_all size limit some (w ∷ ws) o flushes kind off z f i =
    let on = went_on flushes w ws (leb 2 flushes) refl z in
    let b = record-body size limit some past o flushes kind off refl on.0 (list_bytes ws) w f.0 i.0 (sym (waits-none past (head_said w).kind (λ e. omega arith))) in
    join size limit (flushes + by_kind 0 0 1 w) (state limit past goes_on false o flushes kind off 0) w ws b
    (take_all size limit some ws b.o (flushes + by_kind 0 0 1 w) b.kind b.off on.1 f.1 i.1)

-- ---- the first record

-- zeros wait
module _ (size limit a n : ℕ) (f : RecordFits (WZ a n)) (i : Within limit (WZ a n)) (rest : List ℕ) where
  wait-turn : (xs : List ℕ) (done : List Record) → head zeros_kind a n 18 ≡ decode_def false (take 18 xs) → length (take 18 xs) ≡ 18 → flushes_passed 0 ≡ next_def 0 zeros_kind
      → turn_on size (point (state limit first_to_come goes_on true 1 0 0 0 0) xs done) ≡ point (state limit held goes_on false (following_of 1 0) 0 zeros_kind a n) (drop 18 xs) (done ++ [])
  unfolding turn_on applying_wanted head_next applying_fed applying_fed_head fed_decoded fed_record accepted_by waits_def held_back asked
  wait-turn xs done e long p = rw (long, ← e, ← p, i) refl

  pub waited : (done : List Record) (r : Point) → Reach size (point (state limit held goes_on false (following_of 1 0) 0 zeros_kind a n) rest done) r
      → Reach size (point (applying_begun limit) (record_bytes (WZ a n) ++ rest) done) r
  unfolding record_bytes
  waited done r h =
      let w = WZ a n in
      let m = state limit first_to_come goes_on true 1 0 0 0 0 in
      let t = state limit held goes_on false (following_of 1 0) 0 zeros_kind a n in
      reach_step size (point (applying_begun limit) (record_bytes w ++ rest) done) (point m (record_bytes w ++ rest) done) r
      (mark-turn size limit first_to_come 1 0 0 0 refl (omega arith) 0x5a _ done zeros-marked ∙ ap (point m (record_bytes w ++ rest)) (append-nil done))
      (reach_step size (point m (record_bytes w ++ rest) done) (point t rest done) r
      (wait-turn (record_bytes w ++ rest) done (short-head rest w f (zeros-bytes a n)) (let z = zeros-bytes a n in first-18 rest w (omega arith)) (as_many 0 zeros_kind (omega arith) (λ e. omega arith))
      ∙ ap₂ (λ (ys : List ℕ) (ds : List Record). point t ys ds) (behind-head w rest) (append-nil done)) h)

-- the next record's head
module _ (size limit o a n : ℕ) where
  abbrev waiting : State
  waiting = state limit held goes_on false o 0 zeros_kind a n

  abbrev waiting-marked : State
  waiting-marked = state limit held goes_on true o 0 zeros_kind a n

  pub held-mark : (m : ℕ) (ys : List ℕ) (done : List Record) → decode_def false (0x57 ∷ m ∷ []) ≡ head_incomplete
      → turn_on size (point waiting (0x57 ∷ m ∷ ys) done) ≡ point waiting-marked (0x57 ∷ m ∷ ys) (done ++ [])
  unfolding turn_on applying_wanted head_next applying_fed applying_fed_head fed_decoded asked
  held-mark m ys done e = rw e refl

  held-flush : (rest : List ℕ) (done : List Record)
      → turn_on size (point waiting (record_bytes FL ++ rest) done) ≡ point (state limit past goes_on false (following_of o 0) 1 flush 0 0) rest (done ++ (WZ a n ∷ FL ∷ []))
  unfolding turn_on applying_wanted head_next applying_fed applying_fed_head fed_decoded fed_record accepted_by released asked record_bytes in_limit within_def
  held-flush rest done = rw (flush-decoded, ← one_more 0 flush (omega arith) refl, le-leb 0 limit (omega arith)) refl

  module _ (xs : List ℕ) (kd b l : ℕ) (done : List Record) (e : head kd b l 18 ≡ decode_def false (take 18 xs)) (long : length (take 18 xs) ≡ 18) (some : eqb kd 0 ≡ false)
      (p : flushes_passed 0 ≡ next_def 0 kd) where
    pub held-head : in_limit limit b l ≡ true → turn_on size (point waiting-marked xs done) ≡ point (state limit past goes_on false (following_of o l) 0 kd b l) (drop 18 xs) (done ++ (WZ a n ∷ FL ∷ []))
    unfolding turn_on applying_wanted head_next applying_fed applying_fed_head fed_decoded fed_record accepted_by released asked
    held-head w = rw (long, ← e, some, ← p, w) refl

    far-head : in_limit limit b l ≡ false → turn_on size (point waiting-marked xs done) ≡ point (state limit held too_far true o 0 zeros_kind a n) xs (done ++ [])
    unfolding turn_on applying_wanted head_next applying_fed applying_fed_head fed_decoded fed_record asked
    far-head w = rw (long, ← e, some, ← p, w) refl

-- The zeros and a flush are done, and the next record is in hand.
pub record Freed (size limit flushes : ℕ) (s : State) (before behind : List ℕ) (z w : Record) : Type 0 where
  pub t : State
  pub between : List ℕ
  pub go : (done : List Record) (r : Point) → Reach size (point t between (done ++ (z ∷ FL ∷ []))) r → Reach size (point s before done) r
  pub body : Body size limit flushes t between behind w

module _ (size limit : ℕ) (some : 0 < size) (o a n : ℕ) (rest : List ℕ) where
  pub free-by : (w : Record) → RecordFits w → Within limit w → Freed size limit (by_kind 0 0 1 w) (waiting size limit o a n) (record_bytes w ++ rest) rest (WZ a n) w
  unfolding record_bytes
  free-by FL f i =
      record {
        t = state limit past goes_on false (following_of o 0) 1 flush 0 0;
        between = rest;
        go = λ done r h. reach_step size (point (waiting size limit o a n) (record_bytes FL ++ rest) done) (point (state limit past goes_on false (following_of o 0) 1 flush 0 0) rest (done ++ (WZ a n ∷ FL ∷ []))) r (held-flush size limit o a n rest done) h;
        body = no-piece size limit (following_of o 0) 1 flush 0 rest FL refl;
      }
  free-by (WZ b l) f i =
      let w = WZ b l in
      let k = within_end b l (kept-within limit b l i) in
      let t = state limit past goes_on false (following_of o l) 0 zeros_kind b l in
      let xs = record_bytes w ++ rest in
      record {
        t = t;
        between = rest;
        go = λ done r h.
            reach_step size (point (waiting size limit o a n) xs done) (point (waiting-marked size limit o a n) xs done) r
            (held-mark size limit o a n 0x5a _ done zeros-marked ∙ ap (point (waiting-marked size limit o a n) xs) (append-nil done))
            (reach_step size (point (waiting-marked size limit o a n) xs done) (point t rest (done ++ (WZ a n ∷ FL ∷ []))) r
            (held-head size limit o a n xs zeros_kind b l done (short-head rest w f (zeros-bytes b l)) (let z = zeros-bytes b l in first-18 rest w (omega arith)) refl
            (as_many 0 zeros_kind (omega arith) (λ e. omega arith)) i ∙ ap (λ (ys : List ℕ). point t ys (done ++ (WZ a n ∷ FL ∷ []))) (behind-head w rest)) h);
        body = zeros-body size limit some l (following_of o l) 0 b l rest (omega arith) (omega arith);
      }
  free-by (Wb b bs) f i =
      let w = Wb b bs in
      let l = length bs in
      let k = within_end b l (kept-within limit b l i) in
      let t = state limit past goes_on false (following_of o l) 0 bytes b l in
      let xs = record_bytes w ++ rest in
      record {
        t = t;
        between = bs ++ rest;
        go = λ done r h.
            reach_step size (point (waiting size limit o a n) xs done) (point (waiting-marked size limit o a n) xs done) r
            (held-mark size limit o a n 0x42 _ done bytes-marked ∙ ap (point (waiting-marked size limit o a n) xs) (append-nil done))
            (reach_step size (point (waiting-marked size limit o a n) xs done) (point t (bs ++ rest) (done ++ (WZ a n ∷ FL ∷ []))) r
            (held-head size limit o a n xs bytes b l done (block-head rest b bs f) (let z = block-bytes b bs in first-18 rest w (omega arith)) refl
            (as_many 0 bytes (omega arith) (λ e. omega arith)) i ∙ ap (λ (ys : List ℕ). point t ys (done ++ (WZ a n ∷ FL ∷ []))) (behind-head w rest)) h);
        body = bytes-body size limit some l (following_of o l) 0 b bs rest (omega arith) (omega arith);
      }

-- a list that is cut before its flushes isn't whole
pub no-flush : ruled 0 [] ≡ 0 → ⊥
unfolding ruled
no-flush z = let e = two_past 0 false refl (ap (λ (k : ℕ). eqb k 0) z) in omega arith

module _ (size limit : ℕ) (some : 0 < size) where
  at_once : (w : Record) (ws : List Record) → waits_def first_to_come (head_said w).kind ≡ false → ruled 0 (w ∷ ws) ≡ 0 → AllFit (w ∷ ws) → All (Within limit) (w ∷ ws) → All-taken size limit (applying_begun limit) (w ∷ ws)
  at_once w ws v z f i =
      let on = went_on 0 w ws false refl z in
      let b = record-body size limit some first_to_come 1 0 0 0 refl on.0 (list_bytes ws) w f.0 i.0 v in
      join size limit (0 + by_kind 0 0 1 w) (applying_begun limit) w ws b (take_all size limit some ws b.o (0 + by_kind 0 0 1 w) b.kind b.off on.1 f.1 i.1)

  held_first : (a n : ℕ) (w : Record) (ws : List Record) → ruled 0 (WZ a n ∷ w ∷ ws) ≡ 0 → AllFit (WZ a n ∷ w ∷ ws) → All (Within limit) (WZ a n ∷ w ∷ ws)
      → All-taken size limit (applying_begun limit) (WZ a n ∷ w ∷ ws)
  unfolding list_bytes applied
  held_first a n w ws z f i =
      let on = went_on 0 (WZ a n) (w ∷ ws) false refl z in
      let on2 = went_on 0 w ws false refl on.1 in
      let k : by_kind 0 0 1 w ≡ 0 + by_kind 0 0 1 w = omega arith in
      let u = free-by size limit some (following_of 1 0) a n (list_bytes ws) w f.1.0 i.1.0 in
      let b = u.body in
      let t = take_all size limit some ws b.o (by_kind 0 0 1 w) b.kind b.off (ap (λ (k : ℕ). ruled k ws) k ∙ on2.1) f.1.1 i.1.1 in
      let zf : List Record = WZ a n ∷ FL ∷ [] in
      record {
        o = t.o;
        kind = t.kind;
        off = t.off;
        pieces = WZ a n ∷ FL ∷ (b.pieces ++ t.pieces);
        go = λ done r h.
            waited size limit a n f.0 i.0 (record_bytes w ++ list_bytes ws) done r
            (u.go done r (b.go (done ++ zf) r (t.go ((done ++ zf) ++ b.pieces) r
            (rw (append_assoc (done ++ zf) b.pieces t.pieces, append_assoc done zf (b.pieces ++ t.pieces)) h))));
        same = λ d x.
            let c = step_record (WZ a n) d in
            let e = step_record FL c in
            rw (applied-append b.pieces t.pieces e)
            (t.same (applied b.pieces e) x ∙ applied-same ws (applied b.pieces e) (step_record w e) (b.same e) x
            ∙ applied-same (w ∷ ws) e c (λ y. step-miss FL c y (λ m k. omega arith)) x);
      }

  take-first : (ws : List Record) → ruled 0 ws ≡ 0 → AllFit ws → All (Within limit) ws → All-taken size limit (applying_begun limit) ws
  unfolding waits_def
  take-first [] z f i = absurd (no-flush z)
  take-first (FL ∷ ws) z f i = at_once FL ws refl z f i
  take-first (Wb b bs ∷ ws) z f i = at_once (Wb b bs) ws refl z f i
  take-first (WZ a n ∷ []) z f i = absurd (no-flush (went_on 0 (WZ a n) [] false refl z).1)
  take-first (WZ a n ∷ w ∷ ws) z f i = held_first a n w ws z f i

pub end-turn : (size limit o kind off : ℕ) (done : List Record)
    → turn_on size (point (state limit past goes_on false o 2 kind off 0) [] done) ≡ point (state limit past ended false o 2 kind off 0) [] (done ++ [])
unfolding turn_on applying_wanted head_next applying_fed applying_fed_head input_ended ended_def asked
end-turn size limit o kind off done = refl

-- A WHOLE LIST IS APPLIED, through a buffer of any size
pub list-applied : (size limit : ℕ) → 0 < size → (ws : List Record) → WholeList ws → AllFit ws → All (Within limit) ws → Applies size limit ws
list-applied size limit some ws w f i =
    let t = take-first size limit some ws ((whole-list ws).1 w) f i in
    let end = point (state limit past ended false t.o 2 t.kind t.off 0) [] (t.pieces ++ []) in
    record {
      last = end;
      reached = t.go [] end (reach_step size (point (state limit past goes_on false t.o 2 t.kind t.off 0) [] t.pieces) end end (end-turn size limit t.o t.kind t.off t.pieces) (reach-none size end));
      whole = refl;
      read = refl;
      left = λ d x. rw (append-nil t.pieces) (t.same d x);
    }

-- WHERE THE RECORD BEHIND ZEROS AT A LIST'S START DOESN'T FIT, NOTHING IS DONE
module _ (size limit a n : ℕ) where
  far-write : (w : Record) (ws : List Record) (m : ℕ) (ys : List ℕ) → record_bytes w ++ list_bytes ws ≡ 0x57 ∷ m ∷ ys → decode_def false (0x57 ∷ m ∷ []) ≡ head_incomplete
      → head_said w ≡ decode_def false (take 18 (record_bytes w ++ list_bytes ws)) → 18 ≤ length (record_bytes w) → eqb (head_said w).kind 0 ≡ false → ((head_said w).kind ≡ flush → ⊥)
      → head (head_said w).kind (head_said w).at (head_said w).len 18 ≡ head_said w
      → RecordFits (WZ a n) → Within limit (WZ a n) → in_limit limit (head_said w).at (head_said w).len ≡ false → Untouched size limit (WZ a n ∷ w ∷ ws)
  unfolding list_bytes
  far-write w ws m ys q d e l k nf he f i far =
      let o = following_of 1 0 in
      let xs = record_bytes w ++ list_bytes ws in
      let end = point (state limit held too_far true o 0 zeros_kind a n) xs [] in
      record {
        last = end;
        reached =
            waited size limit a n f i xs [] end
            (reach_step size (point (waiting size limit o a n) xs []) (point (waiting-marked size limit o a n) xs []) end (rw q (held-mark size limit o a n m ys [] d))
            (reach_step size (point (waiting-marked size limit o a n) xs []) end end
            (far-head size limit o a n xs (head_said w).kind (head_said w).at (head_said w).len [] (he ∙ e) (first-18 (list_bytes ws) w l) k (as_many 0 (head_said w).kind (omega arith) nf) far)
            (reach-none size end)));
        stopped = refl;
        nothing = refl;
      }

  pub second-too-far : (w : Record) (ws : List Record) → RecordFits (WZ a n) → RecordFits w → Within limit (WZ a n) → in_limit limit (head_said w).at (head_said w).len ≡ false
      → Untouched size limit (WZ a n ∷ w ∷ ws)
  unfolding record_bytes in_limit within_def
  second-too-far FL ws f g i far = absurd (true≢false (rw (le-leb 0 limit (omega arith)) at far))
  second-too-far (WZ b l) ws f g i far =
      let w = WZ b l in
      let z = zeros-bytes b l in
      far-write w ws 0x5a _ refl zeros-marked (short-head (list_bytes ws) w g z) (omega arith) refl (λ e. omega arith) refl f i far
  second-too-far (Wb b bs) ws f g i far =
      let w = Wb b bs in
      let z = block-bytes b bs in
      far-write w ws 0x42 _ refl bytes-marked (block-head (list_bytes ws) b bs g) (omega arith) refl (λ e. omega arith) refl f i far
