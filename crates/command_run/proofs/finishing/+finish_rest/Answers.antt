use Rattle.std.proofs.Common.{◌∙◌, sym}
use Rattle.std.specs.Vec.Iter.{into_iter_items}
use Rattle.output_files.specs.Content.{Tells}
use Rattle.command_run.specs.Texts.{left_by}
use Rattle.command_run.proofs.Out.{all_out, item_goes_on, item_left, item_missed, none_left}
use Rattle.command_run.proofs.finishing.+finish_rest.Goals as goal

pub returns-in_default-clause-out : goal.returns-in_default-clause-out
returns-in_default-clause-out g t c = λ turns changes told order.
    all_out (Tells g.F.Output.Write.contents) (into_iter_items c.args.rest.now) (left_by turns changes c.args.ended.now) (g.F.Files.content c.args.files.now) (g.W.Write.contents c.args.writer.now)
    (none_left (into_iter_items c.args.rest.now) (sym c.args.rest.now.rest.ok.0 ∙ c.in_default.ensures.cases.0))

pub returns-in-Ok-clause-out : goal.returns-in-Ok-clause-out
returns-in-Ok-clause-out g t c = λ turns changes.
    item_goes_on g.F.Output.Write.contents (Tells g.F.Output.Write.contents) (into_iter_items c.args.rest.now) c.in-Some.item (into_iter_items c.next.new.self) c.args.ended.now
    (g.F.Files.content c.args.files.now) (g.F.Files.content c.finish_item.new.files) (g.F.Files.content c.finish_rest.new.files)
    (g.W.Write.contents c.args.writer.now) (g.W.Write.contents c.finish_item.new.writer) (g.W.Write.contents c.finish_rest.new.writer)
    c.in-Some.ensures.cases.0 c.finish_item.ensures.others c.finish_rest.result turns changes c.in-Ok.ensures.put c.finish_rest.ensures.left c.finish_rest.ensures.out

pub returns-in-Err-clause-out : goal.returns-in-Err-clause-out
returns-in-Err-clause-out g t c = λ turns changes told order.
    item_missed g.F.Output.Write.contents (Tells g.F.Output.Write.contents) (into_iter_items c.args.rest.now) c.in-Some.item (into_iter_items c.next.new.self) c.args.ended.now
    (g.F.Files.content c.args.files.now) (g.F.Files.content c.finish_item.new.files) (g.F.Files.content c.abandon_rest.new.files)
    (g.W.Write.contents c.args.writer.now) (g.W.Write.contents c.finish_item.new.writer) (g.W.Write.contents c.finish_item.new.writer)
    c.in-Some.ensures.cases.0 c.finish_item.ensures.others (left_by turns changes c.args.ended.now) c.in-Err.failure c.in-Err.ensures.failed c.in-Err.ensures.kept c.abandon_rest.ensures.kept

pub returns-in-Err-clause-left : goal.returns-in-Err-clause-left
returns-in-Err-clause-left g t c =
    item_left g.F.Output.Write.contents (Tells g.F.Output.Write.contents) (into_iter_items c.args.rest.now) c.in-Some.item (into_iter_items c.next.new.self) c.args.ended.now
    (g.F.Files.content c.args.files.now) (g.F.Files.content c.finish_item.new.files) (g.F.Files.content c.abandon_rest.new.files)
    (g.W.Write.contents c.args.writer.now) (g.W.Write.contents c.finish_item.new.writer) (g.W.Write.contents c.finish_item.new.writer)
    c.in-Some.ensures.cases.0 c.finish_item.ensures.others c.abandon_rest.ensures.kept
