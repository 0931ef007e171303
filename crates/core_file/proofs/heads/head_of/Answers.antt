use Rattle.std.proofs.Common.{arith}
use Rattle.core_file.proofs.Headers.{fit, unfit}
use Rattle.core_file.proofs.heads.head_of.Goals as goal

pub returns-in_default-clause-too_large : goal.returns-in_default-clause-too_large
returns-in_default-clause-too_large c = λ is pages fits.
    unfit c.args.notes.now c.args.runs.now.list.items c.args.runs.now.pages c.requires.counted pages c.in_default.ensures.none fits

pub returns-clause-fits : goal.returns-clause-fits
returns-clause-fits c = λ pages.
    let start = c.in-Some.ensures.start in
    let few = c.in-Some.ensures.fits.0 in
    let small = c.in-Some.ensures.fits.1 in
    fit c.args.notes.now c.args.runs.now.list.items c.args.runs.now.pages c.requires.counted pages (omega arith) (omega arith)
