use Rattle.std.proofs.Common.{◌≡◌, ap, ◌∙◌, arith}
use Rattle.symbols.specs.Sections.{sections_of, section_count}
use Rattle.symbols.proofs.Rows.{sections_before, sections_before-more}
use Rattle.symbols.proofs.sections.sections.Goals as goal

pub loop-row-init : goal.loop-row-init
unfolding sections_before
loop-row-init c = c.new-sections.ensures.items

pub loop-row-preserved : goal.loop-row-preserved
loop-row-preserved c =
    let more = sections_before-more c.args.file.now c.loop-row.row in
    let pushed = c.in_ok-push.ensures.items in
    cc

pub returns : goal.returns
unfolding sections_of sections_before
returns c =
    let all : c.loop-row.row ≡ section_count c.args.file.now = omega arith in
    c.loop-row.invariant ∙ ap (sections_before c.args.file.now) all
