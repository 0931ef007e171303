-- What a writer holds after a whole file was copied into it.
use Rattle.std.proofs.Common.{◌≡◌, ℕ, List, [], ◌++◌, ap, refl, sym, ◌∙◌}
use Rattle.std.specs.Prelude.{Option, Some, None, Result, Ok, Err, IfSome, OnOk, drop, option_map, unwrap_or}
use Rattle.std.specs.Io.KnownBytes.{Appends, Keeps}

-- all bytes are left at the beginning
pub left_at_start : (place : ℕ) (position : Option ℕ) (bytes left : Option (List ℕ)) → position ≡ Some place → position ≡ Some 0
    → left ≡ option_map (drop place) bytes → left ≡ bytes
left_at_start place position bytes left there start is = is ∙ ap (λ (at : ℕ). option_map (drop at) bytes) none ∙ all bytes
  where
    none : place ≡ 0
    none = ap (λ (o : Option ℕ). unwrap_or o 0) (sym there ∙ start)

    all : (bytes : Option (List ℕ)) → option_map (drop 0) bytes ≡ bytes
    all None = refl
    all (Some bytes) = refl

-- what was left was appended, and then kept
pub appended : (bytes begun left old copied new : Option (List ℕ)) → Keeps bytes begun → left ≡ begun → IfSome left (Appends old copied)
    → Keeps copied new → IfSome bytes (Appends old new)
appended None begun left old copied new same is wrote kept = tt
appended (Some bytes) None left old copied new same is wrote kept = absurd same
appended (Some bytes) (Some begun) left None copied new same is wrote kept = tt
appended (Some bytes) (Some begun) left (Some old) None new same is wrote kept = absurd (rw is at wrote)
appended (Some bytes) (Some begun) left (Some old) (Some copied) None same is wrote kept = absurd kept
appended (Some bytes) (Some begun) left (Some old) (Some copied) (Some new) same is wrote kept =
    let grown : copied ≡ old ++ begun = rw is at wrote in
    kept ∙ grown ∙ ap (λ (end : List ℕ). old ++ end) same

-- what holds in any case holds of a success
pub on_ok : {A E P : Type 0} → (result : Result A E) → P → OnOk result P
on_ok (Ok value) holds = holds
on_ok (Err error) holds = tt
