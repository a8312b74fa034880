-- From the finished superblock's block on, the device stands as at the end of the list; with all records up to the first flush kept, whichever
-- of the later ones come, and in whichever order.
-- Assumes nothing.
use mathlib.Core.Path.{◌≡◌, refl, sym, ap, subst, fun_ext, ◌∙◌}
use mathlib.Core.List.{List, [], ◌∷◌, ◌++◌, append_assoc}
use mathlib.Core.Logic.{◌⊎◌, inl, inr, ⊎_elim}
use Prim.Native.Nat.{ℕ, suc, ◌+◌, ◌-◌, ◌*◌, ◌≤◌, ◌<◌}
use native.Mathlib.Omega.{arith}
use lib.ListN.{length, take, drop, get_or, length-append}
use lib.Seq.{length-take-le, get_or-drop}
use Rattle.run.specs.declared.Run.{Run}
use Rattle.list_records.specs.Records.{Record, FL, All, Among, block_records}
use Rattle.list_records.proofs.Blocks.{all_append, all-prefix, all_map, among-all}
use Rattle.list_records.specs.Device.{Device, step_record, applied}
use Rattle.list_records.proofs.Reading.{get_d_read}
use Rattle.list_records.proofs.Applying.{step-hit, step_same, step-miss, applied-append, Keeps, kept, Idle, idle, blocks-idle}
use Rattle.list_spec.specs.Listing.{header_blocks, head_finished, header_records, closing, list_of}
use Rattle.list_spec.specs.Sound.{SoundRun}
use Rattle.list_spec.specs.Left.{head_at, head_bytes_of, header_bytes_of, unfinished, finishing_record}
use Rattle.list_spec.proofs.Spans.{spans}
use Rattle.list_spec.proofs.Parts.{list-parts, cut-behind}
use Rattle.list_spec.proofs.Left.{unfinished-head}

module _ (run : Run) (device : ℕ) (s : SoundRun run device) where
  -- group 0's head behind its first block is the finished one's
  Behind : Device → Type 0
  Behind d = (x : ℕ) → run.geometry.blocksize ≤ x → x < head_bytes_of run → d x ≡ get_or (head_finished run.geometry run.uuid) x 0

  -- all records up to the finished superblock's block
  firsts : List Record
  firsts = unfinished run device ++ (FL ∷ finishing_record run ∷ [])

  -- and those behind it, of n header blocks
  lasts : ℕ → List Record
  lasts n = block_records run.geometry.blocksize (0 + run.geometry.blocksize) n (drop run.geometry.blocksize (head_finished run.geometry run.uuid)) ++ (FL ∷ [])

  parts : (n : ℕ) → header_blocks run.geometry ≡ suc n → list_of run device ≡ firsts ++ lasts n
  unfolding closing block_records firsts lasts
  parts n e =
      let bs = run.geometry.blocksize in
      let bytes = head_finished run.geometry run.uuid in
      list-parts run device
      ∙ ap (λ (m : ℕ). unfinished run device ++ (FL ∷ (block_records bs 0 m bytes ++ (FL ∷ [])))) e
      ∙ sym (append_assoc (unfinished run device) (FL ∷ finishing_record run ∷ []) (block_records bs (0 + bs) n (drop bs bytes) ++ (FL ∷ [])))

  firsts-length : length firsts ≡ length (unfinished run device) + 2
  unfolding firsts
  firsts-length = length-append (unfinished run device) _

  flushed-behind : (d : Device) → Behind (applied (unfinished run device ++ (FL ∷ [])) d)
  unfolding Behind applied
  flushed-behind d x h k =
      let p = spans run device s in
      let e = applied (unfinished run device) d in
      let w = unfinished-head run device s 0 (omega (arith, s.two)) d in
      let z : head_at run 0 + x ≡ x = omega (arith, p.first) in
      ap (λ (f : Device). f x) (applied-append (unfinished run device) (FL ∷ []) d)
      ∙ step-miss FL e x (λ a b. omega arith)
      ∙ sym (ap e z) ∙ sym (get_d_read e (head_at run 0) (head_bytes_of run) x k) ∙ ap (λ (xs : List ℕ). get_or xs x 0) w ∙ sym (s.agrees x (omega arith))

  -- the finishing record leaves it so
  finish-keeps : Keeps Behind (finishing_record run)
  unfolding Behind
  finish-keeps d b x h k =
      let p = spans run device s in
      let bs = run.geometry.blocksize in
      let bytes = head_finished run.geometry run.uuid in
      let l : length (take bs bytes) ≡ bs = length-take-le bs bytes (omega (arith, s.finished-long, p.header-some, p.header-head)) in
      step-miss (finishing_record run) d x (λ m n. omega arith) ∙ b x h k

  firsts-applied : (d : Device) → applied firsts d ≡ step_record (finishing_record run) (applied (unfinished run device ++ (FL ∷ [])) d)
  unfolding firsts applied
  firsts-applied d =
      applied-append (unfinished run device) (FL ∷ finishing_record run ∷ []) d
      ∙ sym (ap (step_record (finishing_record run)) (applied-append (unfinished run device) (FL ∷ []) d))

  firsts-behind : (d : Device) → Behind (applied firsts d)
  firsts-behind d = subst Behind (sym (firsts-applied d)) (finish-keeps (applied (unfinished run device ++ (FL ∷ [])) d) (flushed-behind d))

  lasts-idle : (n : ℕ) → header_blocks run.geometry ≡ suc n → All (Idle Behind) (lasts n)
  unfolding lasts Behind
  lasts-idle n e =
      let p = spans run device s in
      let bs = run.geometry.blocksize in
      let bytes = head_finished run.geometry run.uuid in
      let size : header_bytes_of run ≡ bs + n * bs = ap (λ (m : ℕ). m * bs) e ∙ omega arith in
      all_append (Idle Behind) (block_records bs (0 + bs) n (drop bs bytes)) (FL ∷ [])
      (blocks-idle bs Behind (0 + bs) n (drop bs bytes)
      (λ d h x a b.
      let i : bs + (x - (0 + bs)) ≡ x = omega arith in
      h x (omega arith) (omega (arith, size, p.header-head)) ∙ sym (get_or-drop bs bytes (x - (0 + bs)) 0 ∙ ap (λ (j : ℕ). get_or bytes j 0) i)))
      (λ d h. fun_ext (λ x. step-miss FL d x (λ a b. omega arith)), tt)

  -- FROM THE FINISHED SUPERBLOCK'S BLOCK ON NOTHING CHANGES
  pub after : (cut rest : List Record) → cut ++ rest ≡ list_of run device → length (unfinished run device) + 1 < length cut → (d : Device)
      → applied cut d ≡ applied (list_of run device) d
  after cut rest e h d =
      let n = header_blocks run.geometry - 1 in
      let m : header_blocks run.geometry ≡ suc n = omega (arith, s.header-some) in
      let q = parts n m in
      let c = cut-behind firsts (lasts n) cut rest (e ∙ q) (omega (arith, firsts-length)) in
      let middle = drop (length firsts) cut in
      let stay = lasts-idle n m in
      ap (λ (l : List Record). applied l d) c.0 ∙ ends middle (all-prefix (Idle Behind) middle rest (rw c.1 stay))
      ∙ sym (ap (λ (l : List Record). applied l d) q ∙ ends (lasts n) stay)
    where
      ends : (rs : List Record) → All (Idle Behind) rs → applied (firsts ++ rs) d ≡ applied firsts d
      ends rs a = applied-append firsts rs d ∙ idle Behind rs (applied firsts d) a (firsts-behind d)

  -- ---- with all records up to the first flush kept

  -- the records behind that flush
  closings : (n : ℕ) → header_blocks run.geometry ≡ suc n → header_records run ++ (FL ∷ []) ≡ finishing_record run ∷ lasts n
  unfolding block_records lasts
  closings n e = ap (λ (m : ℕ). block_records run.geometry.blocksize 0 m (head_finished run.geometry run.uuid) ++ (FL ∷ [])) e

  -- THOSE BEHIND THE FINISHED SUPERBLOCK'S BLOCK CHANGE NOTHING, in any order
  pub idle-any : (rs : List Record) → Among (drop 1 (header_records run ++ (FL ∷ []))) rs → (d : Device)
      → applied rs (applied (unfinished run device ++ (FL ∷ [])) d) ≡ applied (unfinished run device ++ (FL ∷ [])) d
  idle-any rs m d =
      let n = header_blocks run.geometry - 1 in
      let e : header_blocks run.geometry ≡ suc n = omega (arith, s.header-some) in
      idle Behind rs (applied (unfinished run device ++ (FL ∷ [])) d)
      (among-all (Idle Behind) (lasts n) rs (lasts-idle n e) (subst (λ (ws : List Record). Among (drop 1 ws) rs) (closings n e) m)) (flushed-behind d)

  -- a record that changes nothing there, or just what the finishing one changes
  Settles : Record → Type 0
  Settles r = (d : Device) → Behind d → (step_record r d ≡ d) ⊎ (step_record r d ≡ step_record (finishing_record run) d)

  closing-settles : (n : ℕ) → header_blocks run.geometry ≡ suc n → All Settles (finishing_record run ∷ lasts n)
  unfolding Settles
  closing-settles n e = ((λ d b. inr refl), all_map (Idle Behind) Settles (lasts n) (λ r i d b. inl (i d b)) (lasts-idle n e))

  finish-twice : (d : Device) → step_record (finishing_record run) (step_record (finishing_record run) d) ≡ step_record (finishing_record run) d
  finish-twice d =
      fun_ext (λ x. step_same (finishing_record run) (step_record (finishing_record run) d) x (λ m n. sym (step-hit (finishing_record run) d x m n)))

  -- from a device o on: what the finishing record will leave, and what it has left
  Coming : Device → Device → Type 0
  Coming o d = Behind d × (step_record (finishing_record run) d ≡ step_record (finishing_record run) o)

  Come : Device → Device → Type 0
  Come o d = Behind d × (d ≡ step_record (finishing_record run) o)

  keep-coming : (o : Device) (r : Record) → Settles r → Keeps (Coming o) r
  unfolding Settles Coming
  keep-coming o r t d c =
      ⊎_elim
      (λ (q : step_record r d ≡ d). subst (Coming o) (sym q) c)
      (λ (q : step_record r d ≡ step_record (finishing_record run) d). subst (Coming o) (sym q) (finish-keeps d c.0, finish-twice d ∙ c.1))
      (t d c.0)

  keep-come : (o : Device) (r : Record) → Settles r → Keeps (Come o) r
  unfolding Settles Come
  keep-come o r t d c =
      ⊎_elim
      (λ (q : step_record r d ≡ d). subst (Come o) (sym q) c)
      (λ (q : step_record r d ≡ step_record (finishing_record run) d). subst (Come o) (sym q) (finish-keeps d c.0, ap (step_record (finishing_record run)) c.1 ∙ finish-twice o))
      (t d c.0)

  -- WHERE THE FINISHING RECORD IS AMONG THEM, THE DEVICE STANDS AS AT THE END, in whichever order they come
  pub after_any : (xs ys : List Record) → Among (header_records run ++ (FL ∷ [])) xs → Among (header_records run ++ (FL ∷ [])) ys → (d : Device)
      → applied (xs ++ (finishing_record run ∷ ys)) (applied (unfinished run device ++ (FL ∷ [])) d) ≡ applied (list_of run device) d
  unfolding applied Coming Come
  after_any xs ys mx my d =
      let n = header_blocks run.geometry - 1 in
      let e : header_blocks run.geometry ≡ suc n = omega (arith, s.header-some) in
      let o = applied (unfinished run device ++ (FL ∷ [])) d in
      let before = kept (Coming o) xs o (all_map Settles (Keeps (Coming o)) xs (keep-coming o) (settled n e xs mx)) (flushed-behind d, refl) in
      let behind =
      kept (Come o) ys (step_record (finishing_record run) (applied xs o)) (all_map Settles (Keeps (Come o)) ys (keep-come o) (settled n e ys my))
      (finish-keeps (applied xs o) before.0, before.1) in
      applied-append xs (finishing_record run ∷ ys) o ∙ behind.1 ∙ sym (firsts-applied d)
      ∙ after firsts (lasts n) (sym (parts n e)) (omega (arith, firsts-length)) d
    where
      settled : (n : ℕ) → header_blocks run.geometry ≡ suc n → (rs : List Record) → Among (header_records run ++ (FL ∷ [])) rs → All Settles rs
      settled n e rs m =
          among-all Settles (finishing_record run ∷ lasts n) rs (closing-settles n e) (subst (λ (ws : List Record). Among ws rs) (closings n e) m)
