use Rattle.std.proofs.Common.{◌∙◌}
use Rattle.std.proofs.lemmas.Result.{err_from_is_err_and}
use Rattle.elf32_reader.specs.Refusals.{ident_refusals, header_refusals, size_refusals, file_refusals}
use Rattle.elf32_reader.proofs.Rows.{first_applying-append_none, first_applying-append_some}
use Rattle.elf32_reader.proofs.file_header.FileHeader.read.Goals as goal

pub returns-in_err-test_ident-clause-tests : goal.returns-in_err-test_ident-clause-tests
unfolding file_refusals
returns-in_err-test_ident-clause-tests c =
    let refused = err_from_is_err_and c.from_residual-in_err-test_ident.result c.from_residual-in_err-test_ident.ensures.1 in
    rw (refused.1, refused.2)
    (first_applying-append_none (size_refusals c.args.file.now) _ c.in_ok-test_size.ensures.tests
    ∙ first_applying-append_some (ident_refusals c.args.file.now) (header_refusals c.args.file.now) _ c.in_err-test_ident.ensures)
