-- Bytes appended in parts.
use Rattle.std.proofs.Common.{◌≡◌, ℕ, ◌+◌, ◌-◌, ◌≤◌, Result, Ok, Err, OnOk, List, [], ◌∷◌, ◌++◌, ap, sym, ◌∙◌, append_assoc, arith, map}
use Rattle.std.proofs.lemmas.Grind.{flat_map-append}
use Rattle.std.proofs.lemmas.List.FromFn.{map-range_with_len_more}
use Rattle.std.specs.List.{range_with_len}
use Rattle.hart.specs.HartState.{HartState, register}
use Rattle.core_file.specs.Fields.{word, words}
use Rattle.core_file.specs.Notes.{registers_of}

two : (old first last one other : List ℕ) → first ≡ old ++ one → last ≡ first ++ other → last ≡ old ++ (one ++ other)
two old first last one other begins ends = ends ∙ ap (λ bytes. bytes ++ other) begins ∙ append_assoc old one other

-- the last part is appended where there is memory
pub on_ok : {T E : Type 0} (result : Result T E) (P Q : Type 0) → (P → Q) → OnOk result P → OnOk result Q
on_ok (Ok value) P Q follows is = follows is
on_ok (Err fault) P Q follows is = tt

module _ {T E : Type 0} (result : Result T E) (old : List ℕ) where
  pub two_parts : (first last one other : List ℕ) → first ≡ old ++ one → OnOk result (last ≡ first ++ other) → OnOk result (last ≡ old ++ (one ++ other))
  two_parts first last one other begins ends = on_ok result _ _ (two old first last one other begins) ends

  pub three_parts : (first second last one other third : List ℕ) → first ≡ old ++ one → second ≡ first ++ other → OnOk result (last ≡ second ++ third)
      → OnOk result (last ≡ old ++ (one ++ (other ++ third)))
  three_parts first second last one other third begins goes ends =
      on_ok result _ _ (λ (ends : last ≡ second ++ third). two old first last one (other ++ third) begins (two first second last other third goes ends)) ends

  pub four_parts : (first second next last one other third fourth : List ℕ) → first ≡ old ++ one → second ≡ first ++ other → next ≡ second ++ third
      → OnOk result (last ≡ next ++ fourth) → OnOk result (last ≡ old ++ (one ++ (other ++ (third ++ fourth))))
  four_parts first second next last one other third fourth begins goes more ends =
      on_ok result _ _
      (λ (ends : last ≡ next ++ fourth).
      two old first last one (other ++ (third ++ fourth)) begins
      (two first second last other (third ++ fourth) goes (two second next last third fourth more ends)))
      ends

-- one register more
pub register_more : (hart : HartState) (old now new : List ℕ) (number value : ℕ) → 1 ≤ number → now ≡ old ++ words (map (register hart) (range_with_len 1 (number - 1)))
    → value ≡ register hart number → new ≡ now ++ words (value ∷ []) → new ≡ old ++ words (map (register hart) (range_with_len 1 (number + 1 - 1)))
register_more hart old now new number value above had is more =
    let count : ℕ = number - 1 in
    let all : List ℕ = map (register hart) (range_with_len 1 count) in
    let next : number + 1 - 1 ≡ count + 1 = omega arith in
    let longer : map (register hart) (range_with_len 1 (count + 1)) ≡ all ++ register hart number ∷ [] = map-range_with_len_more (register hart) 1 count number (omega arith) in
    two old now new (words all) (words (value ∷ [])) had more
    ∙ ap (λ one. old ++ (words all ++ words (one ∷ []))) is
    ∙ ap (λ bytes. old ++ bytes) (sym (flat_map-append word all (register hart number ∷ [])))
    ∙ ap (λ registers. old ++ words registers) (sym longer)
    ∙ ap (λ count. old ++ words (map (register hart) (range_with_len 1 count))) (sym next)

-- pc, and then all registers
pub registers_all : (hart : HartState) (old first last : List ℕ) (number pc : ℕ) → number ≡ 32 → pc ≡ hart.pc → first ≡ old ++ words (pc ∷ [])
    → last ≡ first ++ words (map (register hart) (range_with_len 1 (number - 1))) → last ≡ old ++ words (registers_of hart)
registers_all hart old first last number pc end is begins ends =
    let rest : number - 1 ≡ 31 = omega arith in
    two old first last (words (pc ∷ [])) (words (map (register hart) (range_with_len 1 (number - 1)))) begins ends
    ∙ ap (λ count. old ++ (words (pc ∷ []) ++ words (map (register hart) (range_with_len 1 count)))) rest
    ∙ ap (λ one. old ++ (words (one ∷ []) ++ words (map (register hart) (range_with_len 1 31)))) is
