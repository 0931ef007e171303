-- The draws of a number: each is a function of the number, of what is drawn, and of two numbers more, such as a phase and a thread.
use Rattle.std.specs.Prelude.{ℕ, ◌+◌, ◌*◌, ◌/◌, ◌%◌, ◌^◌, bit_xor}

-- a word of 64 bits, xor itself shifted right
abbrev pub folded : ℕ → ℕ → ℕ
folded word bits = bit_xor word (word / 2 ^ bits)

-- the step and the finaliser of SplitMix64 (Steele, Lea, Flood: Fast Splittable Pseudorandom Number Generators, 2014)
unfoldable pub mix : ℕ → ℕ
mix word =
    let stepped : ℕ = (word + 0x9e37_79b9_7f4a_7c15) % 2 ^ 64 in
    let once : ℕ = folded stepped 30 * 0xbf58_476d_1ce4_e5b9 % 2 ^ 64 in
    let twice : ℕ = folded once 27 * 0x94d0_49bb_1331_11eb % 2 ^ 64 in
    folded twice 31

-- what is drawn has a number of its own
unfoldable pub draw : (number what x y : ℕ) → ℕ
draw number what x y = mix (bit_xor (mix (bit_xor (mix (bit_xor (mix number) what)) x)) y)
