use Rattle.std.proofs.Common.{◌≡◌, ◌&&◌, Bool, true, false, Result, Ok, Err, IfOk, ℕ, List, length, refl, ap, ap₂, sym, ◌∙◌}
use Rattle.std.proofs.Math.Bool.{beq}
use Rattle.std.proofs.lemmas.Bool.{and_parts}
use Rattle.std.specs.Arc.{arc_value}
use Rattle.guest_memory.specs.declared.perm.Perm.{Perm}
use Rattle.paged_memory.specs.Page.{PageValue}
use Rattle.commit.specs.Bytes.{differing_count, merged_bytes}
use Rattle.commit.proofs.Merges.{merged_bytes-unchanged}
use Rattle.commit.proofs.changed_page.merged.Goals as goal

same_bool : (one other : Bool) → beq one other ≡ true → one ≡ other
same_bool true true same = refl
same_bool false false same = refl
same_bool true false same = cc
same_bool false true same = cc

same_perm : (one other : Perm) → (beq one.read other.read && (beq one.write other.write && beq one.execute other.execute)) ≡ true → one ≡ other
same_perm one other same =
    let first = and_parts (beq one.read other.read) (beq one.write other.write && beq one.execute other.execute) same in
    let second = and_parts (beq one.write other.write) (beq one.execute other.execute) first.1 in
    let read : one.read ≡ other.read = same_bool one.read other.read first.0 in
    let write : one.write ≡ other.write = same_bool one.write other.write second.0 in
    let execute : one.execute ≡ other.execute = same_bool one.execute other.execute second.1 in
    ap (λ (flag : Bool). record one { read = flag }) read ∙ ap (λ (flag : Bool). record { read = other.read; write = flag; execute = one.execute }) write
    ∙ ap (λ (flag : Bool). record { read = other.read; write = other.write; execute = flag }) execute

-- the thread's own page is the merge, where nobody else changed the page
own_page : (now mine : PageValue) (copy : List ℕ) → now.perm ≡ mine.perm → length copy ≡ length now.bytes → length mine.bytes ≡ length now.bytes →
    differing_count now.bytes copy ≡ 0 → mine ≡ record { perm = now.perm; bytes = merged_bytes now.bytes copy mine.bytes }
own_page now mine copy permits size size' none =
    ap (λ (perm : Perm). record mine { perm = perm }) (sym permits)
    ∙ ap (λ (bytes : List ℕ). record { perm = now.perm; bytes = bytes }) (sym (merged_bytes-unchanged now.bytes copy mine.bytes size size' none))

pub returns-then-eq-clause-merged : goal.returns-then-eq-clause-merged
returns-then-eq-clause-merged c =
    let now : PageValue = c.args.now.now in
    let mine : PageValue = arc_value c.args.mine.now in
    let copy : List ℕ = c.args.copy.now.bytes in
    let permits : now.perm ≡ mine.perm =
    sym c.perm.ensures.perm ∙ same_perm c.perm.result c.perm-then-count_page-eq0.result (sym c.if-eq.ensures)
    ∙ c.perm-then-count_page-eq0.ensures.perm ∙ ap (λ (value : PageValue). value.perm) c.deref.ensures in
    let size : length copy ≡ 4096 = c.bytes-2.ensures.size in
    let size' : length mine.bytes ≡ 4096 = rw (← c.deref.ensures) c.perm-then-count_page-eq0.ensures.size in
    let none : differing_count now.bytes copy ≡ 0 =
    ap₂ differing_count (sym c.bytes.ensures.bytes) (sym c.bytes-2.ensures.bytes)
    ∙ sym c.count_page.ensures ∙ c.if-count_page-eq0.true in
    let own : mine ≡ record { perm = now.perm; bytes = merged_bytes now.bytes copy mine.bytes } =
    own_page now mine copy permits (size ∙ sym c.bytes.ensures.size) (size' ∙ sym c.bytes.ensures.size) none in
    shared c.try_clone.result mine _ arc_value c.try_clone.ensures own
  where
    shared : {E A : Type 0} (result : Result A E) (mine merged : PageValue) (value : A → PageValue) → IfOk result (λ page. value page ≡ mine) → mine ≡ merged → IfOk result (λ page. value page ≡ merged)
    shared (Ok page) mine merged value is own = is ∙ own
    shared (Err error) mine merged value is own = tt
