-- The threads of a run in order, with one more.
use Rattle.std.proofs.Common.{◌≡◌, ℕ, suc, ◌+◌, ◌<◌, List, [], ◌∷◌, ◌++◌, length, map, take, get_or, ap, ◌∙◌, arith, length-take-le}
use Rattle.std.specs.List.{enumerate_from}
use Rattle.std.proofs.lemmas.List.{map-append, take_more}
use Rattle.thread_table.specs.declared.thread.Thread.{Thread}
use Rattle.token.specs.declared.outcome.RunOutcome.{RunOutcome}
use Rattle.core_file.specs.Shown.{core_thread}
use Rattle.core_file.specs.declared.core_thread.CoreThread.{CoreThread}

numbered_more : {X : Type 0} (first : ℕ) (xs : List X) (x : X) → enumerate_from first (xs ++ x ∷ []) ≡ enumerate_from first xs ++ (first + length xs, x) ∷ []
numbered_more first [] x = ap (λ number. (number, x) ∷ []) (omega arith)
numbered_more first (y ∷ ys) x =
    let same : first + 1 + length ys ≡ first + suc (length ys) = omega arith in
    ap (λ rest. (first, y) ∷ rest) (numbered_more (first + 1) ys x ∙ ap (λ number. enumerate_from (first + 1) ys ++ (number, x) ∷ []) same)

pub row_more : (ends : RunOutcome) (threads : List Thread) (number : ℕ) (default : Thread) → number < length threads
    → map (λ row. core_thread ends row.0 row.1) (enumerate_from 0 (take (number + 1) threads))
    ≡ map (λ row. core_thread ends row.0 row.1) (enumerate_from 0 (take number threads)) ++ core_thread ends number (get_or threads number default) ∷ []
row_more ends threads number default inside =
    let row : ℕ × Thread → CoreThread = λ row. core_thread ends row.0 row.1 in
    let taken : length (take number threads) ≡ number = length-take-le number threads (omega arith) in
    let count : 0 + length (take number threads) ≡ number = omega arith in
    let one : Thread = get_or threads number default in
    ap (λ (threads : List Thread). map row (enumerate_from 0 threads)) (take_more threads number default inside)
    ∙ ap (map row) (numbered_more 0 (take number threads) one)
    ∙ map-append row (enumerate_from 0 (take number threads)) ((0 + length (take number threads), one) ∷ [])
    ∙ ap (λ (count : ℕ). map row (enumerate_from 0 (take number threads)) ++ core_thread ends count one ∷ []) count
