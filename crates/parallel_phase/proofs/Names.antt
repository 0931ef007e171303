-- The jobs of a phase by their numbers as names.
use Rattle.std.proofs.Common.{◌≡◌, ◌∙◌, ℕ, Some, List, sym, ap, subst, arith}
use Rattle.std.proofs.lemmas.List.FromFn.{get_or-map-range_with_len, length-map-range_with_len}
use Rattle.std.proofs.lemmas.Option.{slice_get_within, get_or_from_slice_get}
use Rattle.std.specs.Prelude.{slice_get}
use Rattle.guest_memory.specs.Memory.{Memory}
use Rattle.phase_jobs.specs.Slices.{IsEndOfJob}
use Rattle.segment.specs.Ends.{IsEndOf}
use Rattle.segment.specs.declared.segment.Segment.{Segment}
use Rattle.segment.specs.declared.segment_end.SegmentEnd.{SegmentEnd}
use Rattle.parallel_phase.specs.Turns.{numbers_to}

-- the name of a job is its number
pub name_is : (jobs k name : ℕ) → slice_get (numbers_to jobs) k ≡ Some name → name ≡ k
name_is jobs k name at =
    let within = slice_get_within (numbers_to jobs) k name at in
    let many = length-map-range_with_len (λ (n : ℕ). n) 0 jobs in
    sym (get_or_from_slice_get (numbers_to jobs) k name name at) ∙ get_or-map-range_with_len (λ (n : ℕ). n) 0 jobs k k name (omega (arith, within, many)) (omega arith)

-- the end of a job, by its name
pub end_by_name : (jobs others : List Segment) (memory there : Memory) (k name : ℕ) (end : SegmentEnd) → jobs ≡ others → memory ≡ there → name ≡ k → IsEndOfJob jobs memory k end → IsEndOfJob others there name end
end_by_name jobs others memory there k name end jobs_are memory_is same is = record {
  job = is.job;
  job_is = ap (λ (js : List Segment). slice_get js name) (sym jobs_are) ∙ (ap (λ (n : ℕ). slice_get jobs n) same ∙ is.job_is);
  is = subst (λ (m : Memory). IsEndOf m is.job end) memory_is is.is;
}
