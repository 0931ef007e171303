use Rattle.std.proofs.Common.{refl, sym, ap, subst, ◌∙◌, None, inl, inr}
use Rattle.std.proofs.lemmas.Result.{err_from_is_err_and}
use Rattle.elf32_reader.specs.declared.file_header.FileHeader.{FileHeader}
use Rattle.elf32_reader.specs.LoadImage.{IsSound}
use Rattle.elf32_reader.specs.Segments.{image_of}
use Rattle.elf32_reader.proofs.Accepted.{image_sound, image_of-parts}
use Rattle.elf32_reader.proofs.Rows.{refusal_of_file, refusal_of_table, refusal_of_image}
use Rattle.elf32_reader.proofs.reader.read.Goals as goal

pub returns-in_err-header-clause-refused : goal.returns-in_err-header-clause-refused
returns-in_err-header-clause-refused c =
    let refused = err_from_is_err_and c.from_residual.result c.from_residual.ensures.1 in
    rw (refused.1, refused.2) (inl (refusal_of_file c.args.file.now _ c.in_err-header.ensures.tests))

pub returns-in_err-summary-clause-refused : goal.returns-in_err-summary-clause-refused
returns-in_err-summary-clause-refused c =
    let refused = err_from_is_err_and c.from_residual-in_err-summary.result c.from_residual-in_err-summary.ensures.1 in
    rw (refused.1, refused.2) (inl (refusal_of_table c.args.file.now _ c.in_ok-header.ensures.tests c.in_err-summary.ensures.tests))

pub returns-in_err-test-clause-refused : goal.returns-in_err-test-clause-refused
returns-in_err-test-clause-refused c =
    let refused = err_from_is_err_and c.from_residual-in_err-test.result c.from_residual-in_err-test.ensures.1 in
    let entry = ap (λ (h : FileHeader). h.e_entry) c.in_ok-header.ensures.header.header in
    let image = c.in_err-test.ensures (image_of c.args.file.now) entry c.in_ok-summary.ensures.summary in
    rw (refused.1, refused.2) (inl (refusal_of_image c.args.file.now _ c.in_ok-header.ensures.tests c.in_ok-summary.ensures.tests image))

pub new-requires : goal.new-requires
new-requires c =
    let entry = ap (λ (h : FileHeader). h.e_entry) c.in_ok-header.ensures.header.header in
    let image = c.in_ok-test.ensures (image_of c.args.file.now) entry c.in_ok-summary.ensures.summary in
    let same = image_of-parts c.args.file.now c.in_ok-header.header c.in-Ok.segments.items c.in_ok-header.ensures.header.header c.in-Ok.ensures in
    subst IsSound (sym same) (image_sound c.args.file.now c.in_ok-summary.ensures.tests image)

pub returns-in-Ok-clause-ok : goal.returns-in-Ok-clause-ok
returns-in-Ok-clause-ok c =
    let entry = ap (λ (h : FileHeader). h.e_entry) c.in_ok-header.ensures.header.header in
    let image = c.in_ok-test.ensures (image_of c.args.file.now) entry c.in_ok-summary.ensures.summary in
    let same = image_of-parts c.args.file.now c.in_ok-header.header c.in-Ok.segments.items c.in_ok-header.ensures.header.header c.in-Ok.ensures in
    (refusal_of_image c.args.file.now None c.in_ok-header.ensures.tests c.in_ok-summary.ensures.tests image, c.new.ensures ∙ same)

pub returns-in-Err-clause-refused : goal.returns-in-Err-clause-refused
returns-in-Err-clause-refused c =
    let entry = ap (λ (h : FileHeader). h.e_entry) c.in_ok-header.ensures.header.header in
    let image = c.in_ok-test.ensures (image_of c.args.file.now) entry c.in_ok-summary.ensures.summary in
    inr (refusal_of_image c.args.file.now None c.in_ok-header.ensures.tests c.in_ok-summary.ensures.tests image, refl)
