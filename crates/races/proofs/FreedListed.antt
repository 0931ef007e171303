-- The numbers of what is told of each word.
use Rattle.std.proofs.Common.{◌≡◌, ℕ, ◌<◌, Bool, cond, Some, Option, List, [], ◌∷◌, ◌++◌, length, get_or, refl, sym, ◌∙◌, ap, subst, arith, ⊎_elim}
use Rattle.std.specs.Prelude.{Contains, Vec}
use Rattle.std.specs.Ordering.{nat_cmp}
use Rattle.std.specs.BTreeMap.{BTreeMap, get, is_at}
use Rattle.std.specs.Cmp.{unsigned_ties}
use Rattle.std.specs.declared.alloc.Global.{Global}
use Rattle.std.proofs.lemmas.Bool.{cases_eq, cases_lt, eq-eqb, ne_eqb}
use Rattle.std.proofs.lemmas.List.{get_or_append_left, get_or_push, length_push}
use Rattle.std.proofs.lemmas.List.Elements.{Contains-append_left, Contains-push}
use Rattle.races.specs.FreedRecording.{AreListed, IsListed, IsNumbered, numbers_at, numbers_by}
use Rattle.races.specs.declared.freed_access.FreedAccess.{FreedAccess}

module _ (old new : BTreeMap ℕ (Vec ℕ Global)) (word number : ℕ) (numbers : Vec ℕ Global) (puts : (other : ℕ) → get nat_cmp new other ≡ cond (is_at (nat_cmp word) other) (Some numbers) (get nat_cmp old other)) (more : numbers.items ≡ numbers_at old word ++ number ∷ []) where
  numbers_here : numbers_at new word ≡ numbers_at old word ++ number ∷ []
  numbers_here = ap numbers_by (puts word ∙ ap (λ (b : Bool). cond b (Some numbers) (get nat_cmp old word)) (sym (unsigned_ties word word) ∙ eq-eqb word word refl)) ∙ more

  numbers_apart : (other : ℕ) → (word ≡ other → ⊥) → numbers_at new other ≡ numbers_at old other
  numbers_apart other apart = ap numbers_by (puts other ∙ ap (λ (b : Bool). cond b (Some numbers) (get nat_cmp old other)) (sym (unsigned_ties word other) ∙ ne_eqb word other apart))

  -- a number is put to those of a word
  pub numbered : IsNumbered old word number new
  numbered = record {
    there = subst (λ (all : List ℕ). Contains all number) (sym numbers_here) (Contains-push (numbers_at old word) number);
    rest = λ other one among. ⊎_elim
        (λ same. subst (λ (n : ℕ). Contains (numbers_at new n) one) same
        (subst (λ (all : List ℕ). Contains all one) (sym numbers_here) (Contains-append_left (numbers_at old word) (number ∷ []) one (subst (λ (n : ℕ). Contains (numbers_at old n) one) (sym same) among))))
        (λ apart. subst (λ (all : List ℕ). Contains all one) (sym (numbers_apart other apart)) among)
        (cases_eq word other);
  }

-- what is told of a word has a number of the word's
pub listed_one : (told all : List FreedAccess) (words : BTreeMap ℕ (Vec ℕ Global)) (word : ℕ) (numbers : List ℕ) (one : FreedAccess) → all ≡ told → numbers ≡ numbers_at words word → AreListed told words → Contains told one → one.word ≡ word → IsListed all numbers one
listed_one told all words word numbers one same of listed (number, inside, is) at_word = (
  number,
  subst (λ (list : List ℕ). Contains list number) (ap (numbers_at words) at_word ∙ sym of) (listed number one inside is),
  subst (λ (list : List FreedAccess). number < length list) (sym same) inside,
  ap (λ (list : List FreedAccess). get_or list number one) same ∙ is,
)

pub listed_none : (told : List FreedAccess) (words : BTreeMap ℕ (Vec ℕ Global)) → told ≡ [] → AreListed told words
listed_none told words none number one inside is = let small : number < 0 = subst (λ (list : List FreedAccess). number < length list) none inside in absurd (omega arith)

-- one more is told
pub listed_more : (told all : List FreedAccess) (new : FreedAccess) (old words : BTreeMap ℕ (Vec ℕ Global)) → all ≡ told ++ new ∷ [] → IsNumbered old new.word (length told) words → AreListed told old → AreListed all words
listed_more told all new old words more numbers listed number one inside is =
    let long = length_push told new in
    let small : number < length (told ++ new ∷ []) = subst (λ (list : List FreedAccess). number < length list) more inside in
    let there : get_or (told ++ new ∷ []) number one ≡ one = ap (λ (list : List FreedAccess). get_or list number one) (sym more) ∙ is in
    ⊎_elim
    (λ before. numbers.rest one.word number (listed number one before (sym (get_or_append_left told (new ∷ []) one number before) ∙ there)))
    (λ late.
    let last : number ≡ length told = omega arith in
    let own : new ≡ one = sym (get_or_push told new one number (sym last)) ∙ there in
    subst (λ (n : ℕ). Contains (numbers_at words one.word) n) (sym last) (subst (λ (of : FreedAccess). Contains (numbers_at words of.word) (length told)) own numbers.there))
    (cases_lt number (length told))
