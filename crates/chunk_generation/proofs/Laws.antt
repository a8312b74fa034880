-- A draw, step by step.
-- Assumes nothing.
use Rattle.std.proofs.Common.{◌≡◌, ℕ, ◌+◌, ◌%◌, ◌^◌, refl}
use Rattle.chunk_generation.specs.declared.Drawn.{Drawn}
use Rattle.chunk_generation.specs.Draw.{state_step, first_factor, second_factor, next_state, folded, mixed, splitmix64, drawn}

pub draw-is : (state next a z w value : ℕ) → next ≡ (state + state_step) % 2 ^ 64 → a ≡ mixed 30 first_factor next → z ≡ mixed 27 second_factor a → w ≡ folded 31 z → value ≡ w % 2 ^ 32
    → ◌≡◌ {A = Drawn} (record { state = next; value = value }) (drawn state)
unfolding next_state splitmix64 drawn
draw-is state next a z w value n p q f v = rw (v, f, q, p, n) refl
