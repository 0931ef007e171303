use Rattle.std.proofs.Common.{◌≡◌, ℕ, ◌+◌, ◌≤◌, List, length, refl, sym, ◌∙◌, ap₂, arith}
use Rattle.commit.specs.Bytes.{differing_count}
use Rattle.commit.specs.Groups.{differing_in}
use Rattle.commit.specs.Mine.{bytes_left}
use Rattle.commit.proofs.OneGroup.{in-one-group}
use Rattle.commit.proofs.Parts.{only-part}
use Rattle.commit.proofs.mine.Mine.of.Goals as goal

pub returns-then-count_group-found-clause-left : goal.returns-then-count_group-found-clause-left
unfolding bytes_left
returns-then-count_group-found-clause-left c =
    let copy : List ℕ = c.args.copy.now.bytes in
    let mine : List ℕ = c.args.mine.now.bytes in
    let size : length copy ≡ 4096 = c.bytes.ensures.size in
    let size' : length mine ≡ 4096 = c.bytes-2.ensures.size in
    let all : differing_in c.args.found.last copy mine ≡ differing_count copy mine =
    ap₂ (differing_in c.args.found.last) (sym c.bytes.ensures.bytes) (sym c.bytes-2.ensures.bytes) ∙ sym c.count_group.ensures ∙ c.if-count_group-found.true ∙ c.requires.found.count_is in
    rw (c.of.ensures.at, c.of.ensures.bytes, c.bytes-then-count_group-found.ensures.bytes)
    (only-part copy c.args.found.last 128 (omega arith) mine (size ∙ sym size') all)

pub returns-clause-left : goal.returns-clause-left
unfolding bytes_left
returns-clause-left c = rw c.in_ok-new.ensures.ok refl

pub returns-clause-group : goal.returns-clause-group
returns-clause-group c one =
    let copy : List ℕ = c.args.copy.now.bytes in
    let mine : List ℕ = c.args.mine.now.bytes in
    let size : length copy ≡ 4096 = c.bytes.ensures.size in
    let size' : length mine ≡ 4096 = c.bytes-2.ensures.size in
    let inside : c.args.found.last + 128 ≤ length copy = omega (arith, c.args.found.inside) in
    let all = in-one-group copy mine (size ∙ sym size') c.args.found.last c.requires.found.aligned inside (λ some. c.requires.found.some (rw c.requires.found.count_is some)) one in
    let here : c.count_group.result ≡ c.args.found.count =
    c.count_group.ensures ∙ ap₂ (differing_in c.args.found.last) c.bytes.ensures.bytes c.bytes-2.ensures.bytes ∙ all ∙ sym c.requires.found.count_is in
    absurd (c.if-count_group-found.false here)
