-- The text of a frame's bytes.
use Rattle.std.proofs.Common.{◌≡◌, ℕ, ◌≤◌, Bool, true, false, List, [], length, drop, refl, ap, ◌∙◌}
use Rattle.std.proofs.lemmas.List.{drop_all}
use Rattle.gdb_packets.specs.Escapes.{unescaped_by}

nothing : (is_escaped : Bool) → unescaped_by is_escaped [] ≡ []
unfolding unescaped_by
nothing true = refl
nothing false = refl

-- nothing is left at the end
pub unescaped_end : (is_escaped : Bool) (place : ℕ) (body : List ℕ) → length body ≤ place → unescaped_by is_escaped (drop place body) ≡ []
unescaped_end is_escaped place body behind = ap (unescaped_by is_escaped) (drop_all place body behind) ∙ nothing is_escaped
