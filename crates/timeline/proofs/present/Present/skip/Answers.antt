use Rattle.std.proofs.Common.{◌≡◌, ◌∙◌, ◌+◌, sym, ap, arith, refl}
use Rattle.std.proofs.lemmas.Result.{on_ok_weaker}
use Rattle.timeline.specs.Halts.{wanted_by}
use Rattle.timeline.specs.Present.{step_of, steps_of}
use Rattle.timeline.specs.declared.present.Present.{Present}
use Rattle.timeline.proofs.Lasting.{stays_at_start}
use Rattle.timeline.proofs.Backing.{silent_walk}
use Rattle.timeline.proofs.Passing.{skipped_plain}
use Rattle.timeline.proofs.present.Present.skip.Goals as goal
use Rattle.timeline.proofs.present.Present.skip.Goals.{in-Some, in_default-2, in_default}

pub returns-else-is_err-clause-silent : goal.returns-else-is_err-clause-silent
returns-else-is_err-clause-silent c =
    let moves = sym c.moves_other.ensures ∙ c.if-moves_other.false in
    let old = c.args.self.now in
    let wanted = wanted_by c.args.stops.now in
    elim c.match-self.branch [
      | in-Some w ↦
          let underway = w.in-Some.underway in
          let new = w.skip-skipped.new.self in
          let turns = rw w.in-Some.is at c.requires.sound.turns in
          let to : step_of c.match-self.self ≡ old.before + new.done = ap step_of w.self-is in
          rw w.skipped-is
          (on_ok_weaker w.skip-skipped.result
          (λ is. λ start begins.
          let plain = skipped_plain wanted old underway new _ w.in-Some.is turns is in
          silent_walk wanted start old (step_of c.match-self.self) begins moves (λ k low high. plain k low (omega (arith, to, low, high))))
          w.skip-skipped.ensures)
      | in_default-2 w ↦
          let steps : steps_of old.underway ≡ w.in-Some.underway.done = ap steps_of w.in-Some.is in
          let there : step_of c.match-self.self ≡ old.before + w.in-Some.underway.done = ap step_of w.self-is in
          let to : step_of c.match-self.self ≡ step_of old = omega (arith, steps, there) in
          rw w.skipped-is (λ start begins. λ n low high. absurd (omega (arith, to, low, high)))
      | in_default w ↦
          let to : step_of c.match-self.self ≡ step_of old = ap step_of w.self-is in
          rw w.skipped-is (λ start begins. λ n low high. absurd (omega (arith, to, low, high)))
    ]

pub returns-then-is_err-clause-stays : goal.returns-then-is_err-clause-stays
returns-then-is_err-clause-stays c =
    let old = c.args.self.now in
    let sound = c.requires.sound in
    elim c.match-self.branch [
      | in-Some w ↦ stays_at_start old _ sound (ap (λ (p : Present). p.serial) w.self-is) (ap (λ (p : Present). p.before) w.self-is) (ap (λ (p : Present). p.last) w.self-is) refl
      | in_default-2 w ↦ stays_at_start old _ sound (ap (λ (p : Present). p.serial) w.self-is) (ap (λ (p : Present). p.before) w.self-is) (ap (λ (p : Present). p.last) w.self-is) refl
      | in_default w ↦ stays_at_start old _ sound (ap (λ (p : Present). p.serial) w.self-is) (ap (λ (p : Present). p.before) w.self-is) (ap (λ (p : Present). p.last) w.self-is) refl
    ]
