use Rattle.std.proofs.Common.{◌≡◌, ℕ, true, false, sym, ◌∙◌, ap, subst, inl, inr, arith}
use Rattle.std.specs.Prelude.{slice_index_or}
use Rattle.std.proofs.lemmas.Bool.{cases_lt}
use Rattle.std.proofs.lemmas.List.{get_or_default}
use Rattle.output_files.specs.declared.file_name.FileName.{FileName}
use Rattle.command_requests.specs.Names.{AreApart}
use Rattle.command_requests.proofs.naming.twin_of.Goals as goal

pub loop-other-preserved : goal.loop-other-preserved
loop-other-preserved g c place default before =
    elim (cases_lt place c.loop-other.other-index) [
      | inl early ↦ c.loop-other.invariant place default early
      | inr late ↦
          (let e : c.loop-other.other-index ≡ place = omega arith in
          let is = g.F.Files.is_same c.args.files.now in
          let here = ap (λ (n : ℕ). slice_index_or c.args.others.now n default) (sym e) ∙ get_or_default c.args.others.now c.loop-other.other-index default _ (omega arith) in
          subst (λ (other : FileName). AreApart is c.args.name other) (sym here)
          ((λ same. (let one : c.in_ok-is_one_file.field-0 ≡ true = c.in_ok-is_one_file.ensures.alike same in cc)), (let no : c.in_ok-is_one_file.field-0 ≡ false = cc in rw no at c.in_ok-is_one_file.ensures.known)))
    ]

pub returns-clause-none : goal.returns-clause-none
returns-clause-none g c none place default inside = c.loop-other.invariant place default (omega arith)
