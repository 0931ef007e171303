-- The dead bytes that are kept, as their entries change.
use Rattle.std.proofs.Common.{◌≡◌, ℕ, ◌+◌, ◌≤◌, ◌<◌, Bool, cond, Some, None, Option, List, refl, sym, ◌∙◌, ap, subst, arith, ⊎_elim, inl, inr}
use Rattle.std.specs.Prelude.{◌⊎◌, ◌↔◌, IsSome, Result, Ok, Err, OnOk, OnErr}
use Rattle.std.specs.Ordering.{nat_cmp}
use Rattle.std.specs.BTreeMap.{get, is_at}
use Rattle.std.specs.Map.{lookup}
use Rattle.std.specs.Cmp.{unsigned_ties}
use Rattle.std.proofs.lemmas.Result.{on_ok_weaker}
use Rattle.std.proofs.lemmas.Bool.{cases_eq, cases_lt, eq-eqb, ne_eqb}
use Rattle.races.specs.FreedParts.{AreApart, HasStart, Holds, IsCut, IsEdge, IsEntry, IsKilled, IsLastBefore, IsTrimmed, KeepsEdges, KeepsHeld, Parts}
use Rattle.races.specs.Lives.{IsAmong}
use Rattle.races.specs.declared.freed_block.FreedBlock.{FreedBlock}
use Rattle.races.specs.declared.freed_part.FreedPart.{FreedPart}

-- ---- entries

-- an entry is put at a start
pub record IsPut (old : Parts) (at : ℕ) (kept : FreedPart) (new : Parts) : Type 0 where
  pub here : IsEntry new at kept
  pub others : (other : ℕ) → (at ≡ other → ⊥) → get nat_cmp new other ≡ get nat_cmp old other

pub put : (old : Parts) (at : ℕ) (kept : FreedPart) (new : Parts) → ((other : ℕ) → get nat_cmp new other ≡ cond (is_at (nat_cmp at) other) (Some kept) (get nat_cmp old other)) → IsPut old at kept new
put old at kept new puts = record {
  here = puts at ∙ ap (λ (b : Bool). cond b (Some kept) (get nat_cmp old at)) (sym (unsigned_ties at at) ∙ eq-eqb at at refl);
  others = λ other apart. puts other ∙ ap (λ (b : Bool). cond b (Some kept) (get nat_cmp old other)) (sym (unsigned_ties at other) ∙ ne_eqb at other apart);
}

same_some : (one other : FreedPart) (found : Option FreedPart) → found ≡ Some one → found ≡ Some other → one ≡ other
same_some one other found is also = cc

not_none : (part : FreedPart) (found : Option FreedPart) → found ≡ None → found ≡ Some part → ⊥
not_none part found none is = cc

has_start : (parts : Parts) (start : ℕ) (part : FreedPart) → IsEntry parts start part → HasStart parts start
has_start parts start part is = subst IsSome (sym is) refl

same_part : (parts : Parts) (start : ℕ) (one other : FreedPart) → IsEntry parts start one → IsEntry parts start other → one ≡ other
same_part parts start one other is also = same_some one other (get nat_cmp parts start) is also

-- an entry after it is the new one, or one of before
put_cases : (old : Parts) (at : ℕ) (kept : FreedPart) (new : Parts) → IsPut old at kept new → (start : ℕ) (part : FreedPart) → IsEntry new start part → ((at ≡ start) × (kept ≡ part)) ⊎ ((at ≡ start → ⊥) × IsEntry old start part)
put_cases old at kept new puts start part is = ⊎_elim
    (λ same. inl (same, same_part new start kept part (subst (λ (n : ℕ). IsEntry new n kept) same puts.here) is))
    (λ other. inr (other, sym (puts.others start other) ∙ is))
    (cases_eq at start)

-- two entries: one ends before the other begins
beside : (parts : Parts) → AreApart parts → (start other : ℕ) (part more : FreedPart) → IsEntry parts start part → IsEntry parts other more → (start ≡ other → ⊥) → (more.end ≤ start) ⊎ (part.end ≤ other)
beside parts apart start other part more is also unlike = ⊎_elim
    (λ before. inr (apart.apart start other part more is also before))
    (λ late. inl (apart.apart other start more part also is (omega arith)))
    (cases_lt start other)

-- ---- the last entry before an address

pub none_before : (parts : Parts) (end : ℕ) → IsLastBefore parts end None → (byte : ℕ) (block : FreedBlock) → byte < end → Holds parts byte block → ⊥
none_before parts end none byte block early held = let late = none held.start held.part held.entry in let from = held.late in omega arith

pub ends_before : (parts : Parts) → AreApart parts → (end : ℕ) (last : ℕ × FreedPart) → IsLastBefore parts end (Some last) → (first byte : ℕ) (block : FreedBlock) → last.1.end ≤ first → first ≤ byte → byte < end → Holds parts byte block → ⊥
ends_before parts apart end last is first byte block ends late early held =
    let some = apart.some last.0 last.1 is.0 in
    let from = held.late in
    let upto = held.early in
    let least = is.2 held.start held.part held.entry (omega arith) in
    ⊎_elim
    (λ same.
    let one : held.part ≡ last.1 = same_part parts last.0 held.part last.1 (subst (λ (n : ℕ). IsEntry parts n held.part) same held.entry) is.0 in
    let ended : held.part.end ≡ last.1.end = ap (λ (part : FreedPart). part.end) one in
    omega arith)
    (λ other. let ended = apart.apart held.start last.0 held.part last.1 held.entry is.0 (omega arith) in omega arith)
    (cases_eq held.start last.0)

-- the entry of a byte
pub held_by : (parts : Parts) → AreApart parts → (byte : ℕ) (last : ℕ × FreedPart) → IsLastBefore parts (byte + 1) (Some last) → byte < last.1.end → (block : FreedBlock) → Holds parts byte block → last.1.block ≡ block
held_by parts apart byte last is early block held =
    let from = held.late in
    let upto = held.early in
    let least = is.2 held.start held.part held.entry (omega arith) in
    let before = is.1 in
    ⊎_elim
    (λ same.
    let one : last.1 ≡ held.part = same_part parts last.0 last.1 held.part is.0 (subst (λ (n : ℕ). IsEntry parts n held.part) same held.entry) in
    ap (λ (part : FreedPart). part.block) one ∙ held.block_is)
    (λ other. let ended = apart.apart held.start last.0 held.part last.1 held.entry is.0 (omega arith) in absurd (omega arith))
    (cases_eq held.start last.0)

pub holds_last : (parts : Parts) (byte : ℕ) (last : ℕ × FreedPart) → IsLastBefore parts (byte + 1) (Some last) → byte < last.1.end → Holds parts byte last.1.block
holds_last parts byte last is early = let before = is.1 in record { start = last.0; part = last.1; entry = is.0; late = omega arith; early = early; block_is = refl }

pub edge_none : (parts : Parts) (at : ℕ) → IsLastBefore parts at None → IsEdge parts at
edge_none parts at none start part is before = let late = none start part is in absurd (omega arith)

pub edge_last : (parts : Parts) → AreApart parts → (at : ℕ) (last : ℕ × FreedPart) → IsLastBefore parts at (Some last) → last.1.end ≤ at → IsEdge parts at
edge_last parts apart at last is ends start part entry before =
    let least = is.2 start part entry before in
    let early = is.1 in
    ⊎_elim
    (λ same.
    let one : part ≡ last.1 = same_part parts last.0 part last.1 (subst (λ (n : ℕ). IsEntry parts n part) same entry) is.0 in
    let ended : part.end ≡ last.1.end = ap (λ (one : FreedPart). one.end) one in
    omega arith)
    (λ other. let ended = apart.apart start last.0 part last.1 entry is.0 (omega arith) in omega arith)
    (cases_eq start last.0)

pub held_same : (parts : Parts) → KeepsHeld parts parts
held_same parts byte block = (λ held. held, λ held. held)

pub edges_same : (parts : Parts) → KeepsEdges parts parts
edges_same parts at edge = edge

-- ---- an entry is split

abbrev pub shortened : FreedPart → (end : ℕ) → FreedPart
shortened part end = record { end = end; block = part.block }

module _ (old mid new : Parts) (start at : ℕ) (part : FreedPart) (apart : AreApart old) (is : IsEntry old start part) (before : start < at) (after : at < part.end) (shrunk : IsPut old start (shortened part at) mid) (rest : IsPut mid at part new) where
  -- an entry is the second part, the first part, or another one
  cases_split : (first : ℕ) (one : FreedPart) → IsEntry new first one → ((at ≡ first) × (part ≡ one)) ⊎ (((start ≡ first) × (shortened part at ≡ one)) ⊎ ((start ≡ first → ⊥) × IsEntry old first one))
  cases_split first one entry = ⊎_elim (λ here. inl here) (λ other. inr (put_cases old start (shortened part at) mid shrunk first one other.1)) (put_cases mid at part new rest first one entry)

  -- where it is
  abbrev IsPlaced : (first : ℕ) (one : FreedPart) → Type 0
  IsPlaced first one = ((at ≡ first) × (part.end ≡ one.end)) ⊎ (((start ≡ first) × (at ≡ one.end)) ⊎ (IsEntry old first one × (first < one.end) × ((one.end ≤ start) ⊎ (part.end ≤ first))))

  placed : (first : ℕ) (one : FreedPart) → IsEntry new first one → IsPlaced first one
  placed first one entry = ⊎_elim
      (λ here. inl (here.0, ap (λ (p : FreedPart). p.end) here.1))
      (λ other. inr (⊎_elim
      (λ there. inl (there.0, ap (λ (p : FreedPart). p.end) there.1))
      (λ kept. inr (kept.1, apart.some first one kept.1, beside old apart start first part one is kept.1 kept.0))
      other))
      (cases_split first one entry)

  some_split : (first : ℕ) (end : ℕ) (one : FreedPart) → one.end ≡ end → IsPlaced first one → first < end
  some_split first end one ends where_it = ⊎_elim
      (λ here. let a = here.0 in let b = here.1 in omega arith)
      (λ other. ⊎_elim (λ there. let a = there.0 in let b = there.1 in omega arith) (λ kept. let a = kept.1 in omega arith) other)
      where_it

  -- one after another
  next_split : (first second : ℕ) (one other : FreedPart) → first < second → IsPlaced first one → IsPlaced second other → one.end ≤ second
  next_split first second one other less was now = ⊎_elim
      (λ a. let a0 = a.0 in let a1 = a.1 in ⊎_elim
      (λ b. let b0 = b.0 in omega arith)
      (λ r. ⊎_elim (λ b. let b0 = b.0 in omega arith) (λ b. let b1 = b.1 in ⊎_elim (λ low. omega arith) (λ high. omega arith) b.2) r)
      now)
      (λ q. ⊎_elim
      (λ a. let a0 = a.0 in let a1 = a.1 in ⊎_elim
      (λ b. let b0 = b.0 in omega arith)
      (λ r. ⊎_elim (λ b. let b0 = b.0 in omega arith) (λ b. let b1 = b.1 in ⊎_elim (λ low. omega arith) (λ high. omega arith) b.2) r)
      now)
      (λ a. let a1 = a.1 in ⊎_elim
      (λ b. let b0 = b.0 in ⊎_elim (λ low. omega arith) (λ high. omega arith) a.2)
      (λ r. ⊎_elim (λ b. let b0 = b.0 in ⊎_elim (λ low. omega arith) (λ high. omega arith) a.2) (λ b. apart.apart first second one other a.0 b.0 less) r)
      now)
      q)
      was

  pub split_apart : AreApart new
  split_apart = record {
    some = λ first one entry. some_split first one.end one refl (placed first one entry);
    apart = λ first second one other entry also less. next_split first second one other less (placed first one entry) (placed second other also);
  }

  pub split_edge : IsEdge new at
  split_edge first one entry early = ⊎_elim
      (λ here. let a = here.0 in omega arith)
      (λ other. ⊎_elim (λ there. let a = there.1 in omega arith) (λ kept. let a = kept.1 in ⊎_elim (λ low. omega arith) (λ high. omega arith) kept.2) other)
      (placed first one entry)

  pub split_edges : KeepsEdges old new
  split_edges point edge first one entry early = ⊎_elim
      (λ here. let a = here.0 in let b = here.1 in let c = edge start part is (omega arith) in omega arith)
      (λ other. ⊎_elim
      (λ there. let a = there.0 in let b = there.1 in let c = edge start part is (omega arith) in omega arith)
      (λ kept. edge first one kept.0 early)
      other)
      (placed first one entry)

  held_before : (byte : ℕ) (block : FreedBlock) → Holds new byte block → Holds old byte block
  held_before byte block held =
      let late = held.late in
      let early = held.early in
      ⊎_elim
      (λ here.
      let first = here.0 in
      let ended : part.end ≡ held.part.end = ap (λ (p : FreedPart). p.end) here.1 in
      record { start = start; part = part; entry = is; late = omega arith; early = omega arith; block_is = ap (λ (p : FreedPart). p.block) here.1 ∙ held.block_is })
      (λ other. ⊎_elim
      (λ there.
      let first = there.0 in
      let ended : at ≡ held.part.end = ap (λ (p : FreedPart). p.end) there.1 in
      record { start = start; part = part; entry = is; late = omega arith; early = omega arith; block_is = ap (λ (p : FreedPart). p.block) there.1 ∙ held.block_is })
      (λ kept. record { start = held.start; part = held.part; entry = kept.1; late = late; early = early; block_is = held.block_is })
      other)
      (cases_split held.start held.part held.entry)

  held_after : (byte : ℕ) (block : FreedBlock) → Holds old byte block → Holds new byte block
  held_after byte block held =
      let late = held.late in
      let early = held.early in
      let unlike : at ≡ start → ⊥ = (λ same. omega arith) in
      ⊎_elim
      (λ same.
      let one : part ≡ held.part = same_part old start part held.part is (subst (λ (n : ℕ). IsEntry old n held.part) (sym same) held.entry) in
      let ended : part.end ≡ held.part.end = ap (λ (p : FreedPart). p.end) one in
      let died : part.block ≡ block = ap (λ (p : FreedPart). p.block) one ∙ held.block_is in
      ⊎_elim
      (λ low.
      let there : IsEntry new start (shortened part at) = rest.others start unlike ∙ shrunk.here in
      record { start = start; part = shortened part at; entry = there; late = omega arith; early = low; block_is = died })
      (λ high. record { start = at; part = part; entry = rest.here; late = high; early = omega arith; block_is = died })
      (cases_lt byte at))
      (λ other.
      let some = apart.some held.start held.part held.entry in
      let there : at ≡ held.start → ⊥ = (λ same. ⊎_elim (λ low. omega arith) (λ high. omega arith) (beside old apart start held.start part held.part is held.entry other)) in
      record { start = held.start; part = held.part; entry = rest.others held.start there ∙ shrunk.others held.start other ∙ held.entry; late = late; early = early; block_is = held.block_is })
      (cases_eq start held.start)

  pub split_held : KeepsHeld old new
  split_held byte block = (held_before byte block, held_after byte block)

-- the first part alone is there
pub shrunk_apart : (old mid : Parts) (start at : ℕ) (part : FreedPart) → AreApart old → IsEntry old start part → start < at → at < part.end → IsPut old start (shortened part at) mid → AreApart mid
shrunk_apart old mid start at part apart is before after puts = record {
  some = λ first one entry. ⊎_elim
      (λ here. let a = here.0 in let b : at ≡ one.end = ap (λ (p : FreedPart). p.end) here.1 in omega arith)
      (λ kept. apart.some first one kept.1)
      (put_cases old start (shortened part at) mid puts first one entry);
  apart = λ first second one other entry also less. ⊎_elim
      (λ a.
      let a0 = a.0 in
      let a1 : at ≡ one.end = ap (λ (p : FreedPart). p.end) a.1 in
      ⊎_elim
      (λ b. let b0 = b.0 in omega arith)
      (λ b. let some = apart.some second other b.1 in ⊎_elim (λ low. omega arith) (λ high. omega arith) (beside old apart start second part other is b.1 b.0))
      (put_cases old start (shortened part at) mid puts second other also))
      (λ a. ⊎_elim
      (λ b.
      let b0 = b.0 in
      let some = apart.some first one a.1 in
      ⊎_elim (λ low. omega arith) (λ high. omega arith) (beside old apart start first part one is a.1 a.0))
      (λ b. apart.apart first second one other a.1 b.1 less)
      (put_cases old start (shortened part at) mid puts second other also))
      (put_cases old start (shortened part at) mid puts first one entry);
}

-- ---- bytes are cut out

pub trimmed_apart : (old new : Parts) → ((at : ℕ) (part : FreedPart) → IsEntry new at part → IsEntry old at part) → AreApart old → AreApart new
trimmed_apart old new less apart = record {
  some = λ first one entry. apart.some first one (less first one entry);
  apart = λ first second one other entry also before. apart.apart first second one other (less first one entry) (less second other also) before;
}

-- the same entries
pub entries_same : (old new : Parts) → new.entries ≡ old.entries → AreApart old → AreApart new
entries_same old new same apart = trimmed_apart old new (λ at part is. subst (λ (entries : List (ℕ × FreedPart)). lookup (is_at (nat_cmp at)) entries ≡ Some part) same is) apart

-- a call either made them so or changed nothing
pub apart_either : {T E : Type 0} (result : Result T E) (old new : Parts) → OnOk result (AreApart new) → OnErr result (new.entries ≡ old.entries) → AreApart old → AreApart new
apart_either (Ok value) old new made same apart = made
apart_either (Err error) old new made same apart = entries_same old new same apart

-- some entries of those that begin from a start on, and before an end, are removed
pub record IsTrimming (old : Parts) (start end : ℕ) (new : Parts) : Type 0 where
  pub less : (at : ℕ) (part : FreedPart) → IsEntry new at part → IsEntry old at part
  pub rest : (at : ℕ) (part : FreedPart) → IsEntry old at part → ((start ≤ at) × (at < end) → ⊥) → IsEntry new at part

pub trimming_none : (old : Parts) (start end : ℕ) → IsTrimming old start end old
trimming_none old start end = record { less = λ at part is. is; rest = λ at part is out. is }

-- one more is removed
pub trimming_more : (old now new : Parts) (start end first : ℕ) → start ≤ first → first < end → ((other : ℕ) → get nat_cmp new other ≡ cond (is_at (nat_cmp first) other) None (get nat_cmp now other)) → IsTrimming old start end now → IsTrimming old start end new
trimming_more old now new start end first late early removes trimming =
    let here : get nat_cmp new first ≡ None = removes first ∙ ap (λ (b : Bool). cond b None (get nat_cmp now first)) (sym (unsigned_ties first first) ∙ eq-eqb first first refl) in
    let others : (other : ℕ) → (first ≡ other → ⊥) → get nat_cmp new other ≡ get nat_cmp now other =
    (λ other apart. removes other ∙ ap (λ (b : Bool). cond b None (get nat_cmp now other)) (sym (unsigned_ties first other) ∙ ne_eqb first other apart)) in
    record {
      less = λ at part is. ⊎_elim
          (λ same. let none : get nat_cmp new at ≡ None = subst (λ (n : ℕ). get nat_cmp new n ≡ None) same here in absurd (not_none part (get nat_cmp new at) none is))
          (λ apart. trimming.less at part (sym (others at apart) ∙ is))
          (cases_eq first at);
      rest = λ at part is out. ⊎_elim
          (λ same. absurd (out (omega arith, omega arith)))
          (λ apart. others at apart ∙ trimming.rest at part is out)
          (cases_eq first at);
    }

-- none is left
pub trimming_all : (old new : Parts) (start end : ℕ) → ((first : ℕ) → start ≤ first → first < end → HasStart new first → ⊥) → IsTrimming old start end new → IsTrimmed old start end new
trimming_all old new start end none trimming at part = (
  (λ is. (trimming.less at part is, (λ within. none at within.0 within.1 (has_start new at part is)))),
  (λ was. trimming.rest at part was.0 was.1),
)

pub cut : (old one two new : Parts) (start end : ℕ) → KeepsHeld old one → IsEdge one start → KeepsHeld one two → KeepsEdges one two → IsEdge two end → IsTrimmed two start end new → IsCut old start end new
cut old one two new start end held edge held_again edges end_edge trimmed byte block = (
  (λ held_now.
      let late = held_now.late in
      let early = held_now.early in
      let was = (trimmed held_now.start held_now.part).0 held_now.entry in
      let then : Holds two byte block = record { start = held_now.start; part = held_now.part; entry = was.0; late = late; early = early; block_is = held_now.block_is } in (
        (held byte block).0 ((held_again byte block).0 then),
        (λ within.
            let from = within.0 in
            let upto = within.1 in
            ⊎_elim
            (λ before. let ended = edges start edge held_now.start held_now.part was.0 before in omega arith)
            (λ inside. was.1 (inside, omega arith))
            (cases_lt held_now.start start)),
      )),
  (λ kept.
      let then : Holds two byte block = (held_again byte block).1 ((held byte block).1 kept.0) in
      let late = then.late in
      let early = then.early in
      let out : (start ≤ then.start) × (then.start < end) → ⊥ =
      (λ within. let from = within.0 in let ended = end_edge then.start then.part then.entry within.1 in kept.1 (omega arith, omega arith)) in
      record { start = then.start; part = then.part; entry = (trimmed then.start then.part).1 (then.entry, out); late = late; early = early; block_is = then.block_is }),
)

pub cut_at : {T E : Type 0} (result : Result T E) (old new : Parts) (start end from upto : ℕ) → start ≡ from → end ≡ upto → OnOk result (IsCut old start end new) → OnOk result (IsCut old from upto new)
cut_at result old new start end from upto starts ends =
    on_ok_weaker result (λ cuts. subst (λ (last : ℕ). IsCut old from last new) ends (subst (λ (first : ℕ). IsCut old first end new) starts cuts))

-- ---- the bytes of a block die

module _ (old free new : Parts) (killed : FreedBlock) (start end : ℕ) (kept : FreedPart) (starts : start ≡ killed.address) (ends : end ≡ start + killed.length) (some : start < end) (kept_end : kept.end ≡ end) (kept_block : kept.block ≡ killed) (apart : AreApart free) (gone : IsCut old start end free) (puts : IsPut free start kept new) where
  -- each other entry ends before the block or begins after it
  outside : (at : ℕ) (part : FreedPart) → IsEntry free at part → (part.end ≤ start) ⊎ ((end ≤ at) × (start ≡ at → ⊥))
  outside at part entry =
      let long = apart.some at part entry in
      ⊎_elim
      (λ before. ⊎_elim
      (λ over.
      let held : Holds free start part.block = record { start = at; part = part; entry = entry; late = omega arith; early = over; block_is = refl } in
      let same : start ≤ start = omega arith in
      absurd (((gone start part.block).0 held).1 (same, some)))
      (λ ends_there. inl ends_there)
      (cases_lt start part.end))
      (λ late. ⊎_elim
      (λ inside.
      let held : Holds free at part.block = record { start = at; part = part; entry = entry; late = omega arith; early = long; block_is = refl } in
      absurd (((gone at part.block).0 held).1 (late, inside)))
      (λ after. inr (after, (λ same. omega arith)))
      (cases_lt at end))
      (cases_lt at start)

  pub killed_apart : AreApart new
  killed_apart = record {
    some = λ first one entry. ⊎_elim
        (λ here. let a = here.0 in let b : kept.end ≡ one.end = ap (λ (p : FreedPart). p.end) here.1 in omega arith)
        (λ was. apart.some first one was.1)
        (put_cases free start kept new puts first one entry);
    apart = λ first second one other entry also less. ⊎_elim
        (λ a.
        let a0 = a.0 in
        let a1 : kept.end ≡ one.end = ap (λ (p : FreedPart). p.end) a.1 in
        ⊎_elim
        (λ b. let b0 = b.0 in omega arith)
        (λ b. let long = apart.some second other b.1 in ⊎_elim (λ low. omega arith) (λ high. let c = high.0 in omega arith) (outside second other b.1))
        (put_cases free start kept new puts second other also))
        (λ a. ⊎_elim
        (λ b.
        let b0 = b.0 in
        let long = apart.some first one a.1 in
        ⊎_elim (λ low. omega arith) (λ high. let c = high.0 in omega arith) (outside first one a.1))
        (λ b. apart.apart first second one other a.1 b.1 less)
        (put_cases free start kept new puts second other also))
        (put_cases free start kept new puts first one entry);
  }

  pub killed_held : IsKilled old killed new
  killed_held byte block = (
    (λ held.
        let late = held.late in
        let early = held.early in
        ⊎_elim
        (λ here.
        let first = here.0 in
        let ended : kept.end ≡ held.part.end = ap (λ (p : FreedPart). p.end) here.1 in
        inl ((omega arith, omega arith), sym kept_block ∙ ap (λ (p : FreedPart). p.block) here.1 ∙ held.block_is))
        (λ was.
        let then : Holds free byte block = record { start = held.start; part = held.part; entry = was.1; late = late; early = early; block_is = held.block_is } in
        let kept_then = (gone byte block).0 then in
        inr (kept_then.0, (λ within. let from = within.0 in let upto = within.1 in kept_then.1 (omega arith, omega arith))))
        (put_cases free start kept new puts held.start held.part held.entry)),
    (λ known. ⊎_elim
        (λ dies.
        let from = dies.0.0 in
        let upto = dies.0.1 in
        record { start = start; part = kept; entry = puts.here; late = omega arith; early = omega arith; block_is = kept_block ∙ dies.1 })
        (λ stays.
        let then : Holds free byte block = (gone byte block).1 (stays.0, (λ within. let from = within.0 in let upto = within.1 in stays.1 (omega arith, omega arith))) in
        let apart_from : start ≡ then.start → ⊥ = (λ same. let long = apart.some then.start then.part then.entry in ⊎_elim (λ low. omega arith) (λ high. high.1 same) (outside then.start then.part then.entry)) in
        record { start = then.start; part = then.part; entry = puts.others then.start apart_from ∙ then.entry; late = then.late; early = then.early; block_is = then.block_is })
        known),
  )

-- no byte is in a block of none
pub killed_none : (parts : Parts) (killed : FreedBlock) → killed.length ≡ 0 → IsKilled parts killed parts
killed_none parts killed none byte block = (
  (λ held. inr (held, (λ within. let from = within.0 in let upto = within.1 in omega arith))),
  (λ known. ⊎_elim (λ dies. let from = dies.0.0 in let upto = dies.0.1 in absurd (omega arith)) (λ stays. stays.0) known),
)
