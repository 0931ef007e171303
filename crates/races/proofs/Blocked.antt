-- What is known of a page's entries by blocks, as an entry or a block changes.
use Rattle.std.proofs.Common.{◌≡◌, ℕ, ◌/◌, ◌<◌, List, [], ◌∷◌, ◌++◌, length, get_or, set, sym, ◌∙◌, ap, subst, arith, ⊎_elim}
use Rattle.std.proofs.lemmas.Bool.{cases_eq}
use Rattle.std.proofs.lemmas.List.{get_or-set_same, get_or-set_other, length-set}
use Rattle.races.specs.Blocks.{AreKnown, IsBlockAt, IsBlockOf, IsKnown}
use Rattle.races.specs.Linked.{IsAt}
use Rattle.races.specs.declared.block.Block.{Block}
use Rattle.races.specs.declared.kept_access.KeptAccess.{KeptAccess}
use Rattle.races.specs.declared.latest.Latest.{Latest}
use Rattle.races.specs.declared.site.Site.{Site}
use Rattle.races.proofs.Linked.{push_at_cases, set_at_cases}

-- an access of the same thread and step is known likewise
known_same : (block : Block) (one other : Latest) → other.site ≡ one.site → other.step ≡ one.step → IsKnown block one → IsKnown block other
known_same block one other site step known =
    let thread = ap (λ (s : Site). s.thread) site in record {
      used = known.used;
      late = omega (arith, known.late);
      others = λ apart alone. let had = known.others (λ same. apart (thread ∙ same)) alone in (had.0, had.1 ∙ sym thread, omega (arith, had.2));
    }

pub known_set : (blocks : List Block) (entries : List KeptAccess) (index : ℕ) (was now : KeptAccess) → IsAt entries index was → now.place ≡ was.place → now.latest.site ≡ was.latest.site → now.latest.step ≡ was.latest.step → AreKnown blocks entries
    → AreKnown blocks (set entries index now)
known_set blocks entries index was now is_at place site step known at entry block there of = ⊎_elim
    (λ same.
    let place_is : entry.place ≡ was.place = ap (λ (one : KeptAccess). one.place) same.1 ∙ place in
    known_same block was.latest entry.latest (ap (λ (one : KeptAccess). one.latest.site) same.1 ∙ site) (ap (λ (one : KeptAccess). one.latest.step) same.1 ∙ step)
    (known index was block is_at (subst (λ (n : ℕ). IsBlockOf blocks n block) place_is of)))
    (λ other. known at entry block other.1 of)
    (set_at_cases entries index now at entry is_at.0 there)

pub known_push : (blocks : List Block) (entries : List KeptAccess) (new : KeptAccess) → ((block : Block) → IsBlockOf blocks new.place block → IsKnown block new.latest) → AreKnown blocks entries → AreKnown blocks (entries ++ new ∷ [])
known_push blocks entries new own known at entry block there of = ⊎_elim
    (λ last. subst (λ (one : KeptAccess). IsKnown block one.latest) (sym last.1) (own block (subst (λ (one : KeptAccess). IsBlockOf blocks one.place block) last.1 of)))
    (λ before. known at entry block before of)
    (push_at_cases entries new at entry there)

-- the block of a word after a change of one
block_is : (blocks : List Block) (index : ℕ) (now block : Block) → index < length blocks → (index < length (set blocks index now)) × (get_or (set blocks index now) index block ≡ block) → now ≡ block
block_is blocks index now block inside of = sym (get_or-set_same blocks index now block inside) ∙ of.1

pub known_taken : (blocks : List Block) (entries : List KeptAccess) (index : ℕ) (was now : Block) → index < length blocks → was ≡ get_or blocks index was → ((past : Latest) → IsKnown was past → IsKnown now past)
    → AreKnown blocks entries → AreKnown (set blocks index now) entries
known_taken blocks entries index was now inside is kept known at entry block there of = ⊎_elim
    (λ same.
    let now_is : now ≡ block = block_is blocks index now block inside (subst (λ (n : ℕ). (n < length (set blocks index now)) × (get_or (set blocks index now) n block ≡ block)) same of) in
    let had : IsKnown was entry.latest = known at entry was there (subst (λ (n : ℕ). (n < length blocks) × (get_or blocks n was ≡ was)) (sym same) (inside, sym is)) in
    subst (λ (b : Block). IsKnown b entry.latest) now_is (kept entry.latest had))
    (λ apart. known at entry block there (subst (λ (n : ℕ). entry.place / 64 < n) (length-set blocks index now) of.0, sym (get_or-set_other blocks index (entry.place / 64) now block apart) ∙ of.1))
    (cases_eq (entry.place / 64) index)

pub own_taken : (blocks : List Block) (index : ℕ) (now : Block) (own : Latest) → index < length blocks → IsKnown now own → (block : Block) → IsBlockAt (set blocks index now) index block → IsKnown block own
own_taken blocks index now own inside known block of = subst (λ (b : Block). IsKnown b own) (block_is blocks index now block inside of) known
