use Rattle.std.proofs.Common.{◌≡◌, ◌∙◌, ◌+◌, ◌-◌, ℕ, List, ap, sym, refl, arith, take, drop}
use Rattle.guest_memory.specs.Memory.{Memory}
use Rattle.paged_memory.specs.Mapping.{with_bytes}
use Rattle.paged_memory.specs.Snapshot.{cells_of}
use Rattle.paged_memory.proofs.Mapping.{with_bytes-none}
use Rattle.call_table.proofs.Runs.{with_bytes-run}
use Rattle.call_table.proofs.state_in_call.transfer_calls.fill.Goals as goal

pub loop-done-init : goal.loop-done-init
loop-done-init c = record { within = omega arith; count = refl; filled = sym (with_bytes-none c.args.address (cells_of c.args.memory.now)) }

pub loop-done-preserved : goal.loop-done-preserved
loop-done-preserved c =
    let memory : Memory = cells_of c.args.memory.now in
    let bytes : List ℕ = c.args.bytes.now in
    let done : ℕ = c.loop-done.done in
    let run : ℕ = c.run_length-run.result in
    let ran = c.run_length-run.ensures in
    let old = c.loop-done.invariant in
    let part : done + run - done ≡ run = omega arith in
    record {
      within = omega (arith, ran.within, old.within);
      count = refl;
      filled = c.in_ok-fill_run.ensures ∙ ap (with_bytes (c.args.address + done) (take (done + run - done) (drop done bytes))) old.filled
          ∙ ap (λ (n : ℕ). with_bytes (c.args.address + done) (take n (drop done bytes)) (with_bytes c.args.address (take done bytes) memory)) part
          ∙ with_bytes-run c.args.address done run bytes memory old.within;
    }
