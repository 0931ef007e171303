use Rattle.std.proofs.Common.{[], ap, length, arith}
use Rattle.std.proofs.lemmas.List.Elements.{All-push, All-same}
use Rattle.command_run.specs.Recording.{IsTold}
use Rattle.command_requests.specs.declared.destination.Destination.TheVariants.{StandardOutput}
use Rattle.command_requests.specs.declared.text.Text.TheVariants.{Trace}
use Rattle.command_requests.specs.declared.requested_text.RequestedText.{RequestedText}
use Rattle.command_run.proofs.Begun.{kept_by_front, kept_by_one, one_more, one_unbegun}
use Rattle.command_run.proofs.beginning.begin.Goals as goal

-- what is read past the end, which doesn't happen
nowhere : RequestedText
nowhere = record { text = Trace; destination = StandardOutput }

pub returns-in-Err-clause-kept : goal.returns-in-Err-clause-kept
unfolding nowhere
returns-in-Err-clause-kept g c =
    kept_by_front c.args.wanted.now c.loop-one.one-index nowhere c.loop-one-test.true _ _ _ (g.F.Files.content c.abandon.new.files) c.loop-one.invariant.wanted
    (kept_by_one c.args.wanted.now c.loop-one.one-index nowhere c.loop-one-test.true (g.F.Files.content c.args.files.now) (g.F.Files.content c.loop-one.files) (g.F.Files.content c.begin_item.new.files)
    c.loop-one.invariant.kept c.begin_item.ensures.kept)
    c.abandon.ensures.kept

pub returns-in-Err-clause-failed : goal.returns-in-Err-clause-failed
unfolding nowhere
returns-in-Err-clause-failed g c = one_unbegun c.args.wanted.now c.loop-one.one-index nowhere c.loop-one-test.true c.in-Err.failure c.in-Err.ensures.failed

pub loop-one-preserved : goal.loop-one-preserved
unfolding nowhere
loop-one-preserved g c = record {
  wanted = one_more c.args.wanted.now c.loop-one.one-index nowhere c.loop-one-test.true c.loop-one.items.items c.push_reserved.new.self.items c.in-Ok.item c.push_reserved.ensures.items
      c.loop-one.invariant.wanted c.in-Ok.ensures.wanted;
  told = All-same (λ item. IsTold g.F.Output.Write.contents [] [] item.recording) _ _ c.push_reserved.ensures.items
      (All-push (λ item. IsTold g.F.Output.Write.contents [] [] item.recording) c.loop-one.items.items c.in-Ok.item c.loop-one.invariant.told c.in-Ok.ensures.told);
  kept = kept_by_one c.args.wanted.now c.loop-one.one-index nowhere c.loop-one-test.true (g.F.Files.content c.args.files.now) (g.F.Files.content c.loop-one.files) (g.F.Files.content c.begin_item.new.files)
      c.loop-one.invariant.kept c.begin_item.ensures.kept;
  untouched = λ none. absurd (omega (arith, ap length none));
  count = omega arith;
  room = omega arith;
}
