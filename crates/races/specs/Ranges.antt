-- The bytes from an address on, word by word.
use Rattle.std.specs.Prelude.{ℕ, ◌+◌, ◌*◌, Bool, ◌&&◌, nat_le, nat_lt}
use Rattle.races.specs.declared.byte_set.ByteSet.{ByteSet}
use Rattle.races.specs.declared.site.Access.{Access}
use Rattle.races.specs.declared.site.Site.{Site}

-- whether the byte at a place of a word is among those from an address on, so many
abbrev pub is_among : (word place address length : ℕ) → Bool
is_among word place address length = nat_le address (word * 4 + place) && nat_lt (word * 4 + place) (address + length)

abbrev pub bytes_in : (word address length : ℕ) → ByteSet
bytes_in word address length =
    record { first = is_among word 0 address length; second = is_among word 1 address length; third = is_among word 2 address length; fourth = is_among word 3 address length }

-- the access of those bytes from an address on that are of a word
abbrev pub access : Site → (word address length : ℕ) → Access
access site word address length = record { site = site; word = word; bytes = bytes_in word address length }
