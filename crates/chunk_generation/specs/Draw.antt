-- Generations of inodes come from one 64-bit state whose sums and products wrap: splitmix64.
-- Assumes nothing.
use Rattle.std.specs.Prelude.{ℕ, ◌+◌, ◌*◌, ◌/◌, ◌%◌, ◌^◌, bit_xor}
use Rattle.chunk_generation.specs.declared.Drawn.{Drawn}

-- what each draw adds to the state, and the factors of its two products
abbrev pub state_step : ℕ
state_step = 0x9e37_79b9_7f4a_7c15

abbrev pub first_factor : ℕ
first_factor = 0xbf58_476d_1ce4_e5b9

abbrev pub second_factor : ℕ
second_factor = 0x94d0_49bb_1331_11eb

-- the sum wraps
unfoldable pub next_state : ℕ → ℕ
next_state state = (state + state_step) % 2 ^ 64

-- z, exclusive or z shifted to the right by n bits
unfoldable pub folded : ℕ → ℕ → ℕ
folded n z = bit_xor z (z / 2 ^ n)

-- folded, and then multiplied: the product wraps
unfoldable pub mixed : ℕ → ℕ → ℕ → ℕ
mixed n factor z = folded n z * factor % 2 ^ 64

-- what splitmix64 makes of a state
unfoldable pub splitmix64 : ℕ → ℕ
splitmix64 state = folded 31 (mixed 27 second_factor (mixed 30 first_factor state))

-- the state goes on, and then gives its generation, the low 32 bits
unfoldable pub drawn : ℕ → Drawn
drawn state = record { state = next_state state; value = splitmix64 (next_state state) % 2 ^ 32 }
