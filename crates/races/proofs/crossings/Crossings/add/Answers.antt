use Rattle.std.proofs.Common.{◌∙◌, List, ap, map}
use Rattle.std.specs.Prelude.{fold}
use Rattle.std.proofs.lemmas.Result.{on_ok_weaker}
use Rattle.races.specs.Firsts.{with_new}
use Rattle.races.specs.LockOrder.{faults_at, is_same_pair, told}
use Rattle.races.specs.declared.acquisition.Acquisition.{Acquisition}
use Rattle.races.proofs.Crossed.{knows_more}
use Rattle.races.proofs.crossings.Crossings.add.Goals as goal

pub returns : goal.returns
returns c =
    let own = told c.args.own in
    let old = c.args.self.now in
    on_ok_weaker c.keep.result
    (λ kept acquired knows.
    knows_more old c.keep.new.self acquired own kept
    (c.keep.ensures.faults
    ∙ c.in_ok-find_faults.ensures
    ∙ ap (λ (all : List Acquisition). fold (with_new is_same_pair) old.faults.items (faults_at (map told all) own)) c.deref.ensures.value)
    knows)
    c.keep.ensures.kept
