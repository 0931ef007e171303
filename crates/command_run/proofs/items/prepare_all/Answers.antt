use Rattle.std.proofs.Common.{option_map, arith}
use Rattle.std.proofs.lemmas.List.Elements.{AllWithin-more_set}
use Rattle.token.specs.Change.{addresses_by}
use Rattle.command_run.specs.Recording.{IsReadyFor}
use Rattle.command_run.proofs.Telling.{if_err, kept_told, one_writes, same_wanted}
use Rattle.command_run.proofs.items.prepare_all.Goals as goal

pub returns-in_err-prepare-clause-same : goal.returns-in_err-prepare-clause-same
returns-in_err-prepare-clause-same g c =
    same_wanted c.loop-item.items c.loop-item.item-index c.prepare.new.self c.item-item.result (omega arith) c.args.items.now c.prepare.ensures.wanted c.loop-item.invariant.same

pub returns-in_err-prepare-clause-kept : goal.returns-in_err-prepare-clause-kept
returns-in_err-prepare-clause-kept g c =
    kept_told c.loop-item.items c.loop-item.item-index c.prepare.new.self c.item-item.result (omega arith) g.O.Write.contents c.args.items.now c.prepare.ensures.kept c.loop-item.invariant.kept

pub returns-in_err-prepare-clause-fault : goal.returns-in_err-prepare-clause-fault
returns-in_err-prepare-clause-fault g c =
    if_err _ c.from_residual.result c.in_err-prepare.field-0.0
    (λ fault. one_writes c.loop-item.items c.loop-item.item-index c.prepare.new.self c.item-item.result (omega arith) c.args.items.now c.loop-item.invariant.same (c.in_err-prepare.ensures.fault fault))
    c.from_residual.ensures.1

pub loop-item-preserved : goal.loop-item-preserved
loop-item-preserved g c = record {
  same = same_wanted c.loop-item.items c.loop-item.item-index c.prepare.new.self c.item-item.result (omega arith) c.args.items.now c.prepare.ensures.wanted c.loop-item.invariant.same;
  ready = AllWithin-more_set c.loop-item.items c.loop-item.item-index c.prepare.new.self (omega arith)
      (λ item. IsReadyFor (addresses_by (option_map (λ patch. patch.now) c.args.patch)) item.recording) c.loop-item.invariant.ready c.in_ok-prepare.ensures.ready;
  kept = kept_told c.loop-item.items c.loop-item.item-index c.prepare.new.self c.item-item.result (omega arith) g.O.Write.contents c.args.items.now c.prepare.ensures.kept c.loop-item.invariant.kept;
}
