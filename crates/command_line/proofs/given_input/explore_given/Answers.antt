use Rattle.std.proofs.Common.{◌≡◌, Option, Some, List, ℕ, inr, sym, subst}
use Rattle.std.specs.Borrow.{Bor}
use Rattle.abi.specs.Limits as limit
use Rattle.output_files.specs.Content.{Content}
use Rattle.command_requests.specs.Reading.{AreRead}
use Rattle.command_line.specs.Explores.{ExploreRequest, Explores, exploration_of}
use Rattle.command_line.specs.Performs.{OnInput}
use Rattle.command_line.proofs.given_input.explore_given.Goals as goal

on_file : (files : Content) (stdin : Option (List ℕ)) (named : Option (Bor (List ℕ))) (Is : Option (List ℕ) → Type 0) (path : Bor (List ℕ)) (bytes : List ℕ)
    → named ≡ Some path → AreRead limit.input (files path.now) bytes → Is (Some bytes) → OnInput files stdin named Is
on_file files stdin named Is path bytes given read is = subst (λ (named : Option (Bor (List ℕ))). OnInput files stdin named Is) (sym given) (bytes, read, is)

-- the exploration is that on the bytes of the input's file
pub returns-clause-answer : goal.returns-clause-answer
returns-clause-answer g c =
    let request : ExploreRequest = exploration_of c.args.exploration.now (g.F.Files.content c.args.files.now) (g.R.Read.remaining c.args.stdin.now) in
    let Is : Option (List ℕ) → Type 0 = λ input. Explores (record request { input = input }) (g.W.Write.contents c.args.stdout.now) (g.W.Write.contents c.explore_file-2.new.stdout) c.explore_file-2.result in
    inr (on_file request.files request.input request.exploration.input Is c.in-Some.path c.as_slice-reader.result.now c.in-Some.is (rw c.as_slice-reader.ensures.value c.in_ok-bytes.ensures.read) c.explore_file-2.ensures.answer)
