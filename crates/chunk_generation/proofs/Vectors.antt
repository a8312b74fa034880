-- The definition on the public vectors of splitmix64, and a run's first three generations for the seed 0.
-- Assumes nothing.
use Rattle.std.proofs.Common.{◌≡◌, ℕ, zero, suc, List, [], ◌∷◌, refl}
use Rattle.chunk_generation.specs.declared.Drawn.{Drawn}
use Rattle.chunk_generation.specs.Draw.{next_state, folded, mixed, splitmix64, drawn}

-- the next n numbers of splitmix64
abbrev pub numbers : ℕ → ℕ → List ℕ
numbers zero state = []
numbers (suc n) state = splitmix64 (next_state state) ∷ numbers n (next_state state)

-- the next n generations
abbrev pub generations : ℕ → Drawn → List ℕ
generations zero d = []
generations (suc n) d = (drawn d.state).value ∷ generations n (drawn d.state)

pub seed-0 : numbers 3 0 ≡ 0xe220_a839_7b1d_cdaf ∷ 0x6e78_9e6a_a1b9_65f4 ∷ 0x06c4_5d18_8009_454f ∷ []
unfolding next_state folded mixed splitmix64
seed-0 = refl

pub seed-1234567 : numbers 5 1234567 ≡ 6457827717110365317 ∷ 3203168211198807973 ∷ 9817491932198370423 ∷ 4593380528125082431 ∷ 16408922859458223821 ∷ []
unfolding next_state folded mixed splitmix64
seed-1234567 = refl

-- chunk, bitmap inode, summary inode
pub first_three : generations 3 (record { state = 0; value = 0 }) ≡ 0x7b1d_cdaf ∷ 0xa1b9_65f4 ∷ 0x8009_454f ∷ []
unfolding next_state folded mixed splitmix64 drawn
first_three = refl

-- a sum that wraps
pub wraps : (drawn 0xffff_ffff_ffff_ffff).state ≡ 0x9e37_79b9_7f4a_7c14
unfolding next_state drawn
wraps = refl
