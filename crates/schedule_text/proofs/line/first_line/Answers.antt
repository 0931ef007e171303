use Rattle.std.proofs.Common.{◌≡◌, ◌∙◌, ◌+◌, arith, sym, take}
use Rattle.std.proofs.lemmas.Grind.{common_steps}
use Rattle.schedule_text.specs.Text.{words_of}
use Rattle.schedule_text.proofs.Lines.{line_before, no_line, parts_at, take_rest}
use Rattle.schedule_text.proofs.line.first_line.Goals as goal

pub returns-in_default : goal.returns-in_default
returns-in_default c = λ event after writable is. no_line event c.args.text.now after is (sym c.newline.ensures ∙ c.in_default.is)

pub returns-in_default-event_of : goal.returns-in_default-event_of
returns-in_default-event_of c =
    λ event after writable is.
    let before : take c.in-Some.end c.args.text.now ≡ words_of event = line_before event c.args.text.now after c.in-Some.end is (sym c.newline.ensures ∙ c.in-Some.is) in
    c.in_default-event_of.ensures event (record { writable = writable; words = grind (arith, common_steps) })

pub returns : goal.returns
returns c =
    let words = c.in-Some-event_of.ensures.words in
    let before : take c.in-Some.end c.args.text.now ≡ words_of c.in-Some-event_of.event = grind (arith, common_steps) in
    record {
      writable = c.in-Some-event_of.ensures.writable;
      parts = parts_at c.args.text.now (words_of c.in-Some-event_of.event) _ c.in-Some.end (sym c.newline.ensures ∙ c.in-Some.is) before (take_rest (c.in-Some.end + 1) c.args.text.now);
    }
