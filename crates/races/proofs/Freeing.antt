-- Which bytes are dead and which accesses are of dead ones, with one step more at the end.
use Rattle.std.proofs.Common.{◌≡◌, ℕ, zero, suc, ◌+◌, ◌*◌, ◌≤◌, ◌<◌, Bool, true, false, cond, List, [], ◌∷◌, ◌++◌, length, take, get_or, refl, sym, ◌∙◌, ap, subst, arith, append_assoc, ⊎_elim, inl, inr}
use Rattle.std.specs.Prelude.{◌⊎◌, ◌↔◌, ◌==◌, Contains}
use Rattle.std.proofs.lemmas.Bool.{cases_eq, cases_lt, eq-eqb, ne_eqb}
use Rattle.std.proofs.lemmas.List.{append-nil, get_or_append_left, get_or_past, get_or_push, length_push, take-append-le, take_all}
use Rattle.std.proofs.lemmas.List.Elements.{Contains-append_left, Contains-push, Contains-push_cases}
use Rattle.races.specs.Bytes.{has}
use Rattle.races.specs.Freed.{AreFreed, IsFault, IsTold, Tells}
use Rattle.races.specs.FreedParts.{Holds, IsCut, IsKilled, Parts}
use Rattle.races.specs.Steps.{IsSameAuthor}
use Rattle.races.specs.Lives.{Changes, IsAmong, IsDead, Life, byte_at, life_at}
use Rattle.races.specs.Lives.Life.{Use, Die, Live}
use Rattle.races.specs.declared.byte_set.ByteSet.{ByteSet}
use Rattle.races.specs.declared.freed_access.FreedAccess.{FreedAccess}
use Rattle.races.specs.declared.freed_block.FreedBlock.{FreedBlock}
use Rattle.races.specs.declared.site.Access.{Access}
use Rattle.races.specs.declared.site.Site.{Site}

-- ---- one step more

life_before : (lives : List Life) (life : Life) (index : ℕ) → index < length lives → life_at (lives ++ life ∷ []) index ≡ life_at lives index
life_before lives life index inside = get_or_append_left lives (life ∷ []) (Live 0 0) index inside

life_last : (lives : List Life) (life : Life) → life_at (lives ++ life ∷ []) (length lives) ≡ life
life_last lives life = get_or_push lives life (Live 0 0) (length lives) refl

no_use : (life : Life) (access : Access) (place : ℕ) → life ≡ Live 0 0 → life ≡ Use access place → ⊥
no_use life access place is also = cc

no_death : (life : Life) (block : FreedBlock) → life ≡ Live 0 0 → life ≡ Die block → ⊥
no_death life block is also = cc

use_inside : (lives : List Life) (index : ℕ) (access : Access) (place : ℕ) → life_at lives index ≡ Use access place → index < length lives
use_inside lives index access place is = ⊎_elim (λ inside. inside) (λ past. absurd (no_use (life_at lives index) access place (get_or_past lives index (Live 0 0) past) is)) (cases_lt index (length lives))

death_inside : (lives : List Life) (index : ℕ) (block : FreedBlock) → life_at lives index ≡ Die block → index < length lives
death_inside lives index block is = ⊎_elim (λ inside. inside) (λ past. absurd (no_death (life_at lives index) block (get_or_past lives index (Live 0 0) past) is)) (cases_lt index (length lives))

change_inside : (lives : List Life) (index byte : ℕ) → Changes (life_at lives index) byte → index < length lives
change_inside lives index byte changes = ⊎_elim (λ inside. inside)
    (λ past.
    let none : IsAmong 0 0 byte = subst (λ (life : Life). Changes life byte) (get_or_past lives index (Live 0 0) past) changes in
    let from = none.0 in
    let upto = none.1 in
    absurd (omega arith))
    (cases_lt index (length lives))

-- ---- dead bytes

pub dead_more : (lives : List Life) (life : Life) (byte : ℕ) (block : FreedBlock) → (Changes life byte → ⊥) → IsDead lives byte block → IsDead (lives ++ life ∷ []) byte block
dead_more lives life byte block same dead =
    let inside = death_inside lives dead.index block dead.is in
    let long = length_push lives life in
    record {
      index = dead.index;
      is = life_before lives life dead.index inside ∙ dead.is;
      has_it = dead.has_it;
      stays = λ later after changes.
          let there = change_inside (lives ++ life ∷ []) later byte changes in
          ⊎_elim
          (λ before. dead.stays later after (subst (λ (one : Life). Changes one byte) (life_before lives life later before) changes))
          (λ late.
          let last : later ≡ length lives = omega arith in
          same (subst (λ (one : Life). Changes one byte) (ap (λ (n : ℕ). life_at (lives ++ life ∷ []) n) last ∙ life_last lives life) changes))
          (cases_lt later (length lives));
    }

pub dead_less : (lives : List Life) (life : Life) (byte : ℕ) (block : FreedBlock) → (Changes life byte → ⊥) → IsDead (lives ++ life ∷ []) byte block → IsDead lives byte block
dead_less lives life byte block same dead =
    let there = death_inside (lives ++ life ∷ []) dead.index block dead.is in
    let long = length_push lives life in
    ⊎_elim
    (λ inside. record {
      index = dead.index;
      is = sym (life_before lives life dead.index inside) ∙ dead.is;
      has_it = dead.has_it;
      stays = λ later after changes.
          let before = change_inside lives later byte changes in
          dead.stays later after (subst (λ (one : Life). Changes one byte) (sym (life_before lives life later before)) changes);
    })
    (λ late.
    let last : dead.index ≡ length lives = omega arith in
    let died : life ≡ Die block = sym (life_last lives life) ∙ ap (λ (n : ℕ). life_at (lives ++ life ∷ []) n) (sym last) ∙ dead.is in
    absurd (same (subst (λ (one : Life). Changes one byte) (sym died) dead.has_it)))
    (cases_lt dead.index (length lives))

pub dead_new : (lives : List Life) (byte : ℕ) (block : FreedBlock) → IsAmong block.address block.length byte → IsDead (lives ++ Die block ∷ []) byte block
dead_new lives byte block among = record {
  index = length lives;
  is = life_last lives (Die block);
  has_it = among;
  stays = λ later after changes.
      let there = change_inside (lives ++ Die block ∷ []) later byte changes in
      let long = length_push lives (Die block) in
      omega arith;
}

pub dead_changed : (lives : List Life) (life : Life) (byte : ℕ) (block : FreedBlock) → Changes life byte → IsDead (lives ++ life ∷ []) byte block → life ≡ Die block
dead_changed lives life byte block changes dead =
    let there = death_inside (lives ++ life ∷ []) dead.index block dead.is in
    let long = length_push lives life in
    ⊎_elim
    (λ inside. absurd (dead.stays (length lives) inside (subst (λ (one : Life). Changes one byte) (sym (life_last lives life)) changes)))
    (λ late.
    let last : dead.index ≡ length lives = omega arith in
    sym (life_last lives life) ∙ ap (λ (n : ℕ). life_at (lives ++ life ∷ []) n) (sym last) ∙ dead.is)
    (cases_lt dead.index (length lives))

same_death : (life : Life) (one other : FreedBlock) → life ≡ Die one → life ≡ Die other → one ≡ other
same_death life one other is also = cc

pub dead_same : (lives : List Life) (byte : ℕ) (one other : FreedBlock) → IsDead lives byte one → IsDead lives byte other → one ≡ other
dead_same lives byte one other dead also = ⊎_elim
    (λ before. absurd (dead.stays also.index before (subst (λ (life : Life). Changes life byte) (sym also.is) also.has_it)))
    (λ late. ⊎_elim
    (λ same. same_death (life_at lives dead.index) one other dead.is (ap (life_at lives) same ∙ also.is))
    (λ apart. absurd (also.stays dead.index (omega arith) (subst (λ (life : Life). Changes life byte) (sym dead.is) dead.has_it)))
    (cases_eq dead.index also.index))
    (cases_lt dead.index also.index)

-- ---- the dead bytes that are kept

-- the dead bytes are those that are kept
abbrev pub KnowsDead : List Life → Parts → Type 0
KnowsDead lives parts = (byte : ℕ) (block : FreedBlock) → IsDead lives byte block ↔ Holds parts byte block

no_use_dies : (access : Access) (place : ℕ) (block : FreedBlock) → Use access place ≡ Die block → ⊥
no_use_dies access place block is = cc

no_life_dies : (address long : ℕ) (block : FreedBlock) → Live address long ≡ Die block → ⊥
no_life_dies address long block is = cc

died_block : (one other : FreedBlock) → Die one ≡ Die other → one ≡ other
died_block one other is = cc

pub knows_used : (lives : List Life) (parts : Parts) (access : Access) (place : ℕ) → KnowsDead lives parts → KnowsDead (lives ++ Use access place ∷ []) parts
knows_used lives parts access place knows byte block = (
  (λ dead. (knows byte block).0 (dead_less lives (Use access place) byte block (λ changes. changes) dead)),
  (λ held. dead_more lives (Use access place) byte block (λ changes. changes) ((knows byte block).1 held)),
)

cases_among : (address long byte : ℕ) → IsAmong address long byte ⊎ (IsAmong address long byte → ⊥)
cases_among address long byte = ⊎_elim
    (λ before. inr (λ among. let from = among.0 in omega arith))
    (λ late. ⊎_elim (λ inside. inl (late, inside)) (λ past. inr (λ among. let upto = among.1 in omega arith)) (cases_lt byte (address + long)))
    (cases_lt byte address)

pub knows_killed : (lives : List Life) (old new : Parts) (killed : FreedBlock) → IsKilled old killed new → KnowsDead lives old → KnowsDead (lives ++ Die killed ∷ []) new
knows_killed lives old new killed kills knows byte block = (
  (λ dead. ⊎_elim
      (λ among. (kills byte block).1 (inl (among, died_block killed block (dead_changed lives (Die killed) byte block among dead))))
      (λ out. (kills byte block).1 (inr ((knows byte block).0 (dead_less lives (Die killed) byte block out dead), out)))
      (cases_among killed.address killed.length byte)),
  (λ held. ⊎_elim
      (λ dies. subst (IsDead (lives ++ Die killed ∷ []) byte) dies.1 (dead_new lives byte killed dies.0))
      (λ stays. dead_more lives (Die killed) byte block stays.1 ((knows byte block).1 stays.0))
      ((kills byte block).0 held)),
)

pub knows_revived : (lives : List Life) (old new : Parts) (address long : ℕ) → IsCut old address (address + long) new → KnowsDead lives old → KnowsDead (lives ++ Live address long ∷ []) new
knows_revived lives old new address long cuts knows byte block = (
  (λ dead. ⊎_elim
      (λ among. absurd (no_life_dies address long block (dead_changed lives (Live address long) byte block among dead)))
      (λ out. (cuts byte block).1 ((knows byte block).0 (dead_less lives (Live address long) byte block out dead), out))
      (cases_among address long byte)),
  (λ held.
      let was = (cuts byte block).0 held in
      dead_more lives (Live address long) byte block was.1 ((knows byte block).1 was.0)),
)

-- ---- faults

fault_inside : (lives : List Life) (index : ℕ) (access : Access) (place : ℕ) (block : FreedBlock) → IsFault lives index access place block → index < length lives
fault_inside lives index access place block fault = use_inside lives index access place fault.is

take_same : (lives : List Life) (life : Life) (index : ℕ) → index ≤ length lives → take index (lives ++ life ∷ []) ≡ take index lives
take_same lives life index inside = take-append-le index lives (life ∷ []) inside

take_before : (lives : List Life) (life : Life) → take (length lives) (lives ++ life ∷ []) ≡ lives
take_before lives life = let same : length lives ≤ length lives = omega arith in take_same lives life (length lives) same ∙ take_all (length lives) lives same

fault_more : (lives : List Life) (life : Life) (index : ℕ) (access : Access) (place : ℕ) (block : FreedBlock) → IsFault lives index access place block → IsFault (lives ++ life ∷ []) index access place block
fault_more lives life index access place block fault =
    let inside = fault_inside lives index access place block fault in
    let within : index ≤ length lives = omega arith in
    record {
      is = life_before lives life index inside ∙ fault.is;
      dead = subst (λ (before : List Life). IsDead before (byte_at access.word place) block) (sym (take_same lives life index within)) fault.dead;
    }

fault_less : (lives : List Life) (life : Life) (index : ℕ) (access : Access) (place : ℕ) (block : FreedBlock) → index < length lives → IsFault (lives ++ life ∷ []) index access place block → IsFault lives index access place block
fault_less lives life index access place block inside fault =
    let within : index ≤ length lives = omega arith in
    record {
      is = sym (life_before lives life index inside) ∙ fault.is;
      dead = subst (λ (before : List Life). IsDead before (byte_at access.word place) block) (take_same lives life index within) fault.dead;
    }

-- a fault is one of before, or that of the last step
fault_cases : (lives : List Life) (life : Life) (index : ℕ) (access : Access) (place : ℕ) (block : FreedBlock) → IsFault (lives ++ life ∷ []) index access place block
    → IsFault lives index access place block ⊎ ((index ≡ length lives) × (life ≡ Use access place) × IsDead lives (byte_at access.word place) block)
fault_cases lives life index access place block fault =
    let there = fault_inside (lives ++ life ∷ []) index access place block fault in
    let long = length_push lives life in
    ⊎_elim
    (λ inside. inl (fault_less lives life index access place block inside fault))
    (λ late.
    let last : index ≡ length lives = omega arith in
    inr (
      last,
      sym (life_last lives life) ∙ ap (λ (n : ℕ). life_at (lives ++ life ∷ []) n) (sym last) ∙ fault.is,
      subst (λ (before : List Life). IsDead before (byte_at access.word place) block) (ap (λ (n : ℕ). take n (lives ++ life ∷ [])) last ∙ take_before lives life) fault.dead,
    ))
    (cases_lt index (length lives))

told_more : (lives : List Life) (life : Life) (index : ℕ) (told : FreedAccess) → IsTold lives index told → IsTold (lives ++ life ∷ []) index told
told_more lives life index told is =
    let inside = fault_inside lives index is.access is.place told.block is.fault in
    let within : index ≤ length lives = omega arith in
    record {
      access = is.access;
      place = is.place;
      fault = fault_more lives life index is.access is.place told.block is.fault;
      site_is = is.site_is;
      word_is = is.word_is;
      bytes = λ other.
          subst (λ (before : List Life). (has told.bytes other ≡ true) ↔ ((has is.access.bytes other ≡ true) × IsDead before (byte_at is.access.word other) told.block))
          (sym (take_same lives life index within)) (is.bytes other);
      first = λ earlier one other block before fault.
          let early : earlier < length lives = omega arith in
          is.first earlier one other block before (fault_less lives life earlier one other block early fault);
    }

-- ---- what is told

-- some of what is told has a fault
pub record IsCovered (told : List FreedAccess) (access : Access) (block : FreedBlock) : Type 0 where
  pub one : FreedAccess
  pub there : Contains told one
  pub tells : Tells one access block

-- each fault of the last step has one already
pub freed_more : (lives : List Life) (life : Life) (told : List FreedAccess) → ((access : Access) (place : ℕ) (block : FreedBlock) → life ≡ Use access place → IsDead lives (byte_at access.word place) block → IsCovered told access block)
    → AreFreed lives told → AreFreed (lives ++ life ∷ []) told
freed_more lives life told covered freed = record {
  index = freed.index;
  sound = λ number none inside. told_more lives life (freed.index number) (get_or told number none) (freed.sound number none inside);
  ordered = freed.ordered;
  complete = λ at access place block fault. ⊎_elim
      (λ was. freed.complete at access place block was)
      (λ last. let has_one = covered access place block last.1 last.2 in (has_one.one, has_one.there, has_one.tells))
      (fault_cases lives life at access place block fault);
}

module _ (told : List FreedAccess) (old : ℕ → ℕ) (last : ℕ) where
  -- the index of each of what is told, with one more
  abbrev indexed : (number : ℕ) → ℕ
  indexed number = cond (number == length told) last (old number)

  indexed_last : (number : ℕ) → number ≡ length told → indexed number ≡ last
  indexed_last number is = ap (λ (b : Bool). cond b last (old number)) (eq-eqb number (length told) is)

  indexed_before : (number : ℕ) → number < length told → indexed number ≡ old number
  indexed_before number inside = ap (λ (b : Bool). cond b last (old number)) (ne_eqb number (length told) (λ same. omega arith))

-- the fault of the last step is told
pub freed_push : (lives : List Life) (life : Life) (told : List FreedAccess) (new : FreedAccess) → IsTold (lives ++ life ∷ []) (length lives) new
    → ((access : Access) (place : ℕ) (block : FreedBlock) → life ≡ Use access place → IsDead lives (byte_at access.word place) block → Tells new access block) → AreFreed lives told → AreFreed (lives ++ life ∷ []) (told ++ new ∷ [])
freed_push lives life told new is covers freed =
    let long = length_push told new in
    let all : List Life = lives ++ life ∷ [] in
    record {
      index = indexed told freed.index (length lives);
      sound = λ number none inside. ⊎_elim
          (λ before.
          subst (λ (n : ℕ). IsTold all n (get_or (told ++ new ∷ []) number none)) (sym (indexed_before told freed.index (length lives) number before))
          (subst (IsTold all (freed.index number)) (sym (get_or_append_left told (new ∷ []) none number before))
          (told_more lives life (freed.index number) (get_or told number none) (freed.sound number none before))))
          (λ late.
          let last : number ≡ length told = omega arith in
          subst (λ (n : ℕ). IsTold all n (get_or (told ++ new ∷ []) number none)) (sym (indexed_last told freed.index (length lives) number last))
          (subst (IsTold all (length lives)) (sym (get_or_push told new none number (sym last))) is))
          (cases_lt number (length told));
      ordered = λ one other less inside.
          let before : one < length told = omega arith in
          let was = freed.sound one new before in
          let early : freed.index one < length lives = fault_inside lives (freed.index one) was.access was.place (get_or told one new).block was.fault in
          let first = indexed_before told freed.index (length lives) one before in
          ⊎_elim
          (λ inner. let increasing = freed.ordered one other less inner in let second = indexed_before told freed.index (length lives) other inner in omega arith)
          (λ late.
          let last : other ≡ length told = omega arith in
          let second = indexed_last told freed.index (length lives) other last in
          omega arith)
          (cases_lt other (length told));
      complete = λ at access place block fault. ⊎_elim
          (λ was. let has_one = freed.complete at access place block was in (has_one.0, Contains-append_left told (new ∷ []) has_one.0 has_one.1, has_one.2))
          (λ last. (new, Contains-push told new, covers access place block last.1 last.2))
          (fault_cases lives life at access place block fault);
    }

-- ---- the same of two

one_access : (access other : Access) (place at : ℕ) → Use access place ≡ Use other at → access ≡ other
one_access access other place at is = cc

one_place : (access other : Access) (place at : ℕ) → Use access place ≡ Use other at → place ≡ at
one_place access other place at is = cc

author_back : (one other of : Site) → IsSameAuthor one of → IsSameAuthor other of → IsSameAuthor one other
author_back one other of is also = (is.0 ∙ sym also.0, (is.1.0 ∙ sym also.1.0, is.1.1 ∙ sym also.1.1, is.1.2 ∙ sym also.1.2))

-- who is told with a block of this place is told with any
tells_back : (one new : FreedAccess) (access other : Access) (block : FreedBlock) → new.site ≡ access.site → new.word ≡ access.word → Tells one other block → Tells new other block → Tells one access new.block
tells_back one new access other block site word tells also = record {
  author = subst (λ (of : Site). IsSameAuthor one.site of) site (author_back one.site new.site other.site tells.author also.author);
  word_is = tells.word_is ∙ sym also.word_is ∙ word;
  place_is = (tells.place_is.0 ∙ sym also.place_is.0, tells.place_is.1 ∙ sym also.place_is.1);
}

tells_own : (new : FreedAccess) (access : Access) → new.site ≡ access.site → new.word ≡ access.word → Tells new access new.block
tells_own new access site word = record { author = subst (IsSameAuthor new.site) site (refl, (refl, refl, refl)); word_is = word; place_is = (refl, refl) }

-- an access of a byte that is dead as one of a block of which nothing tells
pub freed_new : (lives : List Life) (access : Access) (place : ℕ) (told : List FreedAccess) (new : FreedAccess) → IsDead lives (byte_at access.word place) new.block → new.site ≡ access.site → new.word ≡ access.word
    → ((other : ℕ) → (has new.bytes other ≡ true) ↔ ((has access.bytes other ≡ true) × IsDead lives (byte_at access.word other) new.block)) → ((one : FreedAccess) → Contains told one → Tells one access new.block → ⊥) → AreFreed lives told
    → AreFreed (lives ++ Use access place ∷ []) (told ++ new ∷ [])
freed_new lives access place told new dead site word bytes none freed =
    let life : Life = Use access place in
    let all : List Life = lives ++ life ∷ [] in
    let before : take (length lives) all ≡ lives = take_before lives life in
    freed_push lives life told new
    (record {
      access = access;
      place = place;
      fault = record { is = life_last lives life; dead = subst (λ (part : List Life). IsDead part (byte_at access.word place) new.block) (sym before) dead };
      site_is = site;
      word_is = word;
      bytes = λ other. subst (λ (part : List Life). (has new.bytes other ≡ true) ↔ ((has access.bytes other ≡ true) × IsDead part (byte_at access.word other) new.block)) (sym before) (bytes other);
      first = λ earlier one other block early fault tells.
          let was = freed.complete earlier one other block (fault_less lives life earlier one other block early fault) in
          none was.0 was.1 (tells_back was.0 new access one block site word was.2 tells);
    })
    (λ other at block is died.
    let same = one_access access other place at is in
    let there = one_place access other place at is in
    let also : IsDead lives (byte_at access.word place) block = subst (λ (one : Access). IsDead lives (byte_at one.word place) block) (sym same) (subst (λ (n : ℕ). IsDead lives (byte_at other.word n) block) (sym there) died) in
    subst (Tells new other) (dead_same lives (byte_at access.word place) new.block block dead also) (subst (λ (one : Access). Tells new one new.block) same (tells_own new access site word)))
    freed

-- an access of a byte of which something tells, or that isn't dead
pub freed_covered : (lives : List Life) (access : Access) (place : ℕ) (told : List FreedAccess) → ((block : FreedBlock) → IsDead lives (byte_at access.word place) block → IsCovered told access block) → AreFreed lives told
    → AreFreed (lives ++ Use access place ∷ []) told
freed_covered lives access place told covered freed = freed_more lives (Use access place) told
    (λ other at block is died.
    let same = one_access access other place at is in
    let there = one_place access other place at is in
    let also : IsDead lives (byte_at access.word place) block = subst (λ (one : Access). IsDead lives (byte_at one.word place) block) (sym same) (subst (λ (n : ℕ). IsDead lives (byte_at other.word n) block) (sym there) died) in
    subst (λ (one : Access). IsCovered told one block) same (covered block also))
    freed

-- what is no access changes nothing
pub freed_other : (lives : List Life) (life : Life) (told : List FreedAccess) → ((access : Access) (place : ℕ) → life ≡ Use access place → ⊥) → AreFreed lives told → AreFreed (lives ++ life ∷ []) told
freed_other lives life told no_access freed = freed_more lives life told (λ access place block is died. absurd (no_access access place is)) freed

pub freed_none : AreFreed [] []
freed_none = record {
  index = λ number. 0;
  sound = λ number none inside. absurd (omega arith);
  ordered = λ one other less inside. absurd (omega arith);
  complete = λ at access place block fault. let inside = fault_inside [] at access place block fault in absurd (omega arith);
}

pub dead_none : (byte : ℕ) (block : FreedBlock) → IsDead [] byte block → ⊥
dead_none byte block dead = let inside = death_inside [] dead.index block dead.is in omega arith
