use Rattle.std.proofs.Common.{◌≡◌, ◌+◌, ◌-◌, ◌%◌, ◌++◌, Result, Ok, Err, OnOk, List, ℕ, ◌∙◌, ap, sym, arith, rules, length, take, drop}
use Rattle.std.specs.Prelude.{is_ok, if◌then◌else◌}
use Rattle.std.specs.Arc.{arc_value}
use Rattle.std.proofs.lemmas.List.{take-replicate}
use Rattle.paged_memory.specs.Page.{PageValue}
use Rattle.paged_memory.specs.Snapshot.{cells_of, pages_of}
use Rattle.call_table.specs.Effects.{bytes_of}
use Rattle.call_table.proofs.Runs.{bytes_of-page, bytes_of-none}
use Rattle.call_table.proofs.state_in_call.transfer_calls.append_run.Goals as goal

on_ok : {E : Type 0} → (result : Result (Unit {0}) E) (new old bytes more : List ℕ) → new ≡ (if is_ok result then old ++ bytes else old) → bytes ≡ more → OnOk result (new ≡ old ++ more)
on_ok (Ok done) new old bytes more is same = is ∙ ap (λ (rest : List ℕ). old ++ rest) same
on_ok (Err error) new old bytes more is same = tt

pub returns-in-Some-clause-appends : goal.returns-in-Some-clause-appends
returns-in-Some-clause-appends c =
    let page : PageValue = arc_value c.in-Some.page.now in
    let start : ℕ = c.args.address % 4096 in
    let bytes : c.bytes.result.now ≡ page.bytes = c.bytes.ensures.bytes ∙ ap (λ (value : PageValue). value.bytes) c.deref.ensures in
    let size : length page.bytes ≡ 4096 = rw (← c.deref.ensures) c.bytes.ensures.size in
    let count : start + c.args.count - start ≡ c.args.count = omega arith in
    record {
      done = on_ok c.extend_from_slice.result c.extend_from_slice.new.self.items c.args.output.now.items (take (start + c.args.count - start) (drop start c.bytes.result.now)) (bytes_of (cells_of c.args.memory.now) c.args.address c.args.count)
          c.extend_from_slice.ensures.items
          (ap (λ (n : ℕ). take n (drop start c.bytes.result.now)) count ∙ ap (λ (list : List ℕ). take c.args.count (drop start list)) bytes
          ∙ sym (bytes_of-page (pages_of c.args.memory.now) page c.args.address c.args.count c.in-Some.ensures size c.requires));
      kept = search rules;
      succeeds = search rules;
    }

pub returns-in-None-clause-appends : goal.returns-in-None-clause-appends
returns-in-None-clause-appends c =
    record {
      done = on_ok c.extend_from_slice-in-None.result c.extend_from_slice-in-None.new.self.items c.args.output.now.items _ (bytes_of (cells_of c.args.memory.now) c.args.address c.args.count)
          c.extend_from_slice-in-None.ensures.items
          (take-replicate c.args.count 4096 0 (omega (arith, c.requires)) ∙ sym (bytes_of-none (pages_of c.args.memory.now) c.args.address c.args.count c.in-None.ensures c.requires));
      kept = search rules;
      succeeds = search rules;
    }
