use Rattle.std.proofs.Common.{◌≡◌, ◌∙◌, ap, take, List, arith}
use Rattle.std.specs.List.{flat_map}
use Rattle.std.proofs.lemmas.List.{take_all}
use Rattle.token.specs.declared.turn.Turn.{Turn}
use Rattle.tracer.specs.TraceText.{line_of, text_of}
use Rattle.tracer.proofs.trace.trace_text.Goals as goal

pub returns : goal.returns
unfolding text_of
returns c =
    let turns : List Turn = c.args.turns.now in
    let whole : take c.loop-turn.turn-index turns ≡ turns = take_all c.loop-turn.turn-index turns (omega (arith, c.loop-turn.auto)) in
    c.loop-turn.invariant ∙ ap (λ (all : List Turn). flat_map line_of all) whole
