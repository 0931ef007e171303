-- What a phase's jobs come to by what its seats did.
use Rattle.std.proofs.Common.{◌≡◌, ◌∙◌, ◌+◌, ◌<◌, ◌≤◌, ◌≢◌, get_or, ◌==◌, ◌⊎◌, inl, inr, ⊎_elim, ℕ, zero, suc, Bool, true, false, true≢false, Option, Some, None, List, [], ◌∷◌, ◌++◌, map, length, take, flat_map, All, refl, sym, ap, subst, arith}
use Rattle.std.proofs.lemmas.Bool.{cases_lt}
use Rattle.std.proofs.lemmas.Bool.Decides.{nat_tests}
use Rattle.std.proofs.lemmas.List.{append_assoc, map-append, length-set}
use Rattle.std.proofs.lemmas.List.Elements.{All-map}
use Rattle.std.proofs.lemmas.Option.{slice_get_within, slice_get-get_or, get_or_from_slice_get}
use Rattle.std.specs.Prelude.{slice_get, slice_set, is_some, min, nat_lt}
use Rattle.paged_memory.specs.Snapshot.{cells_of}
use Rattle.claim_table.specs.declared.log.Log.{Log}
use Rattle.claim_table.specs.Logs.{times, total, tally, one_if}
use Rattle.claim_table.specs.Seat.{SeatState, Row}
use Rattle.claim_table.specs.Draws.{AreDraws, IsDrawnOut}
use Rattle.claim_table.proofs.Totals.{times_append, times_empty}
use Rattle.parallel_phase.specs.declared.drawn.Drawn.{Drawn}
use Rattle.parallel_phase.specs.declared.outcome.Outcome.{Outcome}
use Rattle.parallel_phase.specs.declared.outcome.Outcome.TheVariants.{Ran, Skipped}
use Rattle.phase_jobs.specs.SharedJobs.{PhaseState, SawBelow}
use Rattle.parallel_phase.specs.Work.{WorkState, FitsNumber, Fits, IsOver, IsWorkOf}
use Rattle.parallel_phase.specs.Outcomes.{EndsBelow, IsFate, AreFates, IsWhole, filed}

abbrev pub some_or : {A : Type 0} → A → Option A → A
some_or a None = a
some_or a (Some x) = x

pub some_is : {A : Type 0} (a b : A) → Some a ≡ Some b → a ≡ b
some_is a b is = ap (some_or a) is

pub nothing_there : {A : Type 0} (place : ℕ) (x : A) → slice_get [] place ≢ Some x
nothing_there place x is = true≢false (sym (ap is_some is))

pub all_at : {A : Type 0} (P : A → Type 0) (xs : List A) (place : ℕ) (x : A) → slice_get xs place ≡ Some x → All P xs → P x
all_at P xs place x is all = subst P (get_or_from_slice_get xs place x x is) (all place x (slice_get_within xs place x is))

pub get_set_same : {A : Type 0} (xs : List A) (place : ℕ) (x : A) → place < length xs → slice_get (slice_set xs place x) place ≡ Some x
get_set_same [] place x inside = absurd (omega arith)
get_set_same (y ∷ ys) zero x inside = refl
get_set_same (y ∷ ys) (suc place) x inside = get_set_same ys place x (omega arith)

pub get_set_other : {A : Type 0} (xs : List A) (place other : ℕ) (x : A) → place ≢ other → slice_get (slice_set xs place x) other ≡ slice_get xs other
get_set_other [] place other x apart = refl
get_set_other (y ∷ ys) zero zero x apart = absurd (apart refl)
get_set_other (y ∷ ys) zero (suc other) x apart = refl
get_set_other (y ∷ ys) (suc place) zero x apart = refl
get_set_other (y ∷ ys) (suc place) (suc other) x apart = get_set_other ys place other x (λ same. apart (ap suc same))

get_append : {A : Type 0} (xs ys : List A) (place : ℕ) (x : A) → slice_get (xs ++ ys) place ≡ Some x → (slice_get xs place ≡ Some x) ⊎ ((after : ℕ) × (slice_get ys after ≡ Some x))
get_append [] ys place x is = inr (place, is)
get_append (y ∷ xs) ys zero x is = inl is
get_append (y ∷ xs) ys (suc place) x is = get_append xs ys place x is

get_front : {A : Type 0} (xs ys : List A) (place : ℕ) (x : A) → slice_get xs place ≡ Some x → slice_get (xs ++ ys) place ≡ Some x
get_front [] ys place x is = absurd (nothing_there place x is)
get_front (y ∷ xs) ys zero x is = is
get_front (y ∷ xs) ys (suc place) x is = get_front xs ys place x is

get_after : {A : Type 0} (xs ys : List A) (place : ℕ) (x : A) → slice_get ys place ≡ Some x → (after : ℕ) × (slice_get (xs ++ ys) after ≡ Some x)
get_after [] ys place x is = (place, is)
get_after (y ∷ xs) ys place x is = let later = get_after xs ys place x is in (suc later.0, later.1)

-- the numbers of drawn jobs
abbrev pub numbers : List Drawn → List ℕ
numbers drawn = map (λ (d : Drawn). d.number) drawn

times_first : (number first : ℕ) (rest : List ℕ) → times number (first ∷ rest) ≡ one_if (first == number) + times number rest
unfolding times
times_first number first rest = refl

number_first : (test : Bool) (d : Drawn) (ds : List Drawn) (number : ℕ) → (d.number == number) ≡ test → 0 < times number (numbers (d ∷ ds)) → (0 < times number (numbers ds) → (place : ℕ) × (e : Drawn) × (slice_get ds place ≡ Some e) × (e.number ≡ number))
    → (place : ℕ) × (e : Drawn) × (slice_get (d ∷ ds) place ≡ Some e) × (e.number ≡ number)
number_first true d ds number is some rest = (0, d, refl, grind (arith, nat_tests))
number_first false d ds number is some rest = let e = times_first number d.number (numbers ds) in let later = rest (omega (arith, e, ap one_if is)) in (suc later.0, later.1, later.2, later.3)

pub number_at : (drawn : List Drawn) (number : ℕ) → 0 < times number (numbers drawn) → (place : ℕ) × (d : Drawn) × (slice_get drawn place ≡ Some d) × (d.number ≡ number)
number_at [] number some = let none = times_empty number in absurd (omega arith)
number_at (d ∷ ds) number some = number_first (d.number == number) d ds number refl some (λ more. number_at ds number more)

pub stands_once : (drawn : List Drawn) (place : ℕ) (d : Drawn) → slice_get drawn place ≡ Some d → 0 < times d.number (numbers drawn)
stands_once [] place d is = absurd (nothing_there place d is)
stands_once (x ∷ xs) zero d is = let e = times_first d.number x.number (numbers xs) in let same = ap (λ (y : Drawn). y.number) (some_is x d is) in grind (arith, nat_tests)
stands_once (x ∷ xs) (suc place) d is = let e = times_first d.number x.number (numbers xs) in let rest = stands_once xs place d is in omega arith

pub filed_length : (outcomes : List Outcome) (drawn : List Drawn) → length (filed outcomes drawn) ≡ length outcomes
filed_length outcomes [] = refl
filed_length outcomes (d ∷ ds) = filed_length (slice_set outcomes d.number d.outcome) ds ∙ length-set outcomes d.number d.outcome

filed_other : (outcomes : List Outcome) (drawn : List Drawn) (number : ℕ) → times number (numbers drawn) ≡ 0 → slice_get (filed outcomes drawn) number ≡ slice_get outcomes number
filed_other outcomes [] number none = refl
filed_other outcomes (d ∷ ds) number none =
    let e = times_first number d.number (numbers ds) in
    let apart : d.number ≢ number = λ same. absurd (grind (arith, nat_tests)) in
    filed_other (slice_set outcomes d.number d.outcome) ds number (omega arith) ∙ get_set_other outcomes d.number number d.outcome apart

filed_at : (outcomes : List Outcome) (drawn : List Drawn) (place : ℕ) (d : Drawn) → d.number < length outcomes → slice_get drawn place ≡ Some d → times d.number (numbers drawn) ≤ 1 → slice_get (filed outcomes drawn) d.number ≡ Some d.outcome
filed_at outcomes [] place d inside is once = absurd (nothing_there place d is)
filed_at outcomes (x ∷ xs) zero d inside is once =
    let same = some_is x d is in
    let here = stands_once (x ∷ []) 0 d is in
    let e = times_first d.number x.number (numbers xs) in
    let f = times_first d.number x.number [] in
    let g = times_empty d.number in
    filed_other (slice_set outcomes x.number x.outcome) xs d.number (omega arith) ∙ subst (λ (y : Drawn). slice_get (slice_set outcomes y.number y.outcome) d.number ≡ Some d.outcome) (sym same) (get_set_same outcomes d.number d.outcome inside)
filed_at outcomes (x ∷ xs) (suc place) d inside is once =
    let e = times_first d.number x.number (numbers xs) in
    filed_at (slice_set outcomes x.number x.outcome) xs place d (let long = length-set outcomes x.number x.outcome in omega arith) is (omega arith)

-- the logs of some works' seats, and what all of them drew
abbrev pub logs_of : List WorkState → List Log
logs_of works = map (λ (seat : SeatState). seat.log) (map (λ (work : WorkState). work.seat) works)

abbrev pub drawn_of : List WorkState → List Drawn
drawn_of works = flat_map (λ (work : WorkState). work.outcomes) works

pub work_of : (works : List WorkState) (place : ℕ) (d : Drawn) → slice_get (drawn_of works) place ≡ Some d → (at : ℕ) × (work : WorkState) × (slice_get works at ≡ Some work) × (within : ℕ) × (slice_get work.outcomes within ≡ Some d)
work_of [] place d is = absurd (nothing_there place d is)
work_of (w ∷ ws) place d is = ⊎_elim
    (λ (here : slice_get w.outcomes place ≡ Some d). (0, w, refl, place, here))
    (λ (rest : (after : ℕ) × (slice_get (drawn_of ws) after ≡ Some d)). let later = work_of ws rest.0 d rest.1 in (suc later.0, later.1, later.2, later.3, later.4))
    (get_append w.outcomes (drawn_of ws) place d is)

pub drawn_by : (works : List WorkState) (at : ℕ) (work : WorkState) (within : ℕ) (d : Drawn) → slice_get works at ≡ Some work → slice_get work.outcomes within ≡ Some d → (place : ℕ) × (slice_get (drawn_of works) place ≡ Some d)
drawn_by [] at work within d is here = absurd (nothing_there at work is)
drawn_by (w ∷ ws) zero work within d is here = (within, get_front w.outcomes (drawn_of ws) within d (subst (λ (v : WorkState). slice_get v.outcomes within ≡ Some d) (sym (some_is w work is)) here))
drawn_by (w ∷ ws) (suc at) work within d is here = let later = drawn_by ws at work within d is here in get_after w.outcomes (drawn_of ws) later.0 d later.1

pub part_of_total : (count : Log → ℕ) (works : List WorkState) (at : ℕ) (work : WorkState) → slice_get works at ≡ Some work → count work.seat.log ≤ total count (logs_of works)
unfolding total
part_of_total count [] at work is = absurd (nothing_there at work is)
part_of_total count (w ∷ ws) zero work is = let e = ap (λ (v : WorkState). count v.seat.log) (some_is w work is) in omega arith
part_of_total count (w ∷ ws) (suc at) work is = let e = part_of_total count ws at work is in omega arith

pub counted_by : (count : Log → ℕ) (works : List WorkState) → 0 < total count (logs_of works) → (at : ℕ) × (work : WorkState) × (slice_get works at ≡ Some work) × (0 < count work.seat.log)
unfolding total
counted_by count [] some = absurd (omega arith)
counted_by count (w ∷ ws) some = ⊎_elim
    (λ (here : 0 < count w.seat.log). (0, w, refl, here))
    (λ (none : count w.seat.log ≤ 0). let later = counted_by count ws (omega arith) in (suc later.0, later.1, later.2, later.3))
    (cases_lt 0 (count w.seat.log))

all_rest : {A : Type 0} (P : A → Type 0) (x : A) (xs : List A) → All P (x ∷ xs) → All P xs
all_rest P x xs all = λ place d below. all (suc place) d (omega arith)

-- the seats drew the numbers of the drawn jobs
pub total_drawn : (works : List WorkState) (number : ℕ) → All IsWhole works → total (λ log. times number log.drawn) (logs_of works) ≡ times number (numbers (drawn_of works))
unfolding total
total_drawn [] number whole = sym (times_empty number)
total_drawn (w ∷ ws) number whole =
    let here = ap (λ (ns : List ℕ). times number ns) (all_at IsWhole (w ∷ ws) 0 w refl whole).are.numbers in
    let rest = total_drawn ws number (all_rest IsWhole w ws whole) in
    let both = ap (λ (ns : List ℕ). times number ns) (map-append (λ (d : Drawn). d.number) w.outcomes (drawn_of ws)) in
    let split = times_append number (numbers w.outcomes) (numbers (drawn_of ws)) in
    omega arith

-- the works of all seats of a phase, to none of which memory was refused
pub record AreWorks (phase : PhaseState) (works : List WorkState) : Type 0 where
  pub some : 0 < length works
  pub whole : All IsWhole works
  pub of_phase : All (IsWorkOf phase) works
  pub word0 : ℕ
  pub word1 : ℕ
  pub draws : AreDraws (length phase.jobs) word0 word1 (tally (logs_of works))
  pub complete : IsDrawnOut (length phase.jobs) (tally (logs_of works))

one_below : (test : Bool) → 0 < one_if test → test ≡ true
one_below true some = refl
one_below false some = absurd (omega arith)

pub drawn_inside : (phase : PhaseState) (works : List WorkState) → AreWorks phase works → All (λ (d : Drawn). d.number < length phase.jobs) (drawn_of works)
drawn_inside phase works are = λ place d below.
    let job = get_or (drawn_of works) place d in
    let here = stands_once (drawn_of works) place job (slice_get-get_or (drawn_of works) place d below) in
    let all = total_drawn works job.number are.whole in
    let each = are.draws.each_once job.number in
    let less = one_below (nat_lt job.number (min are.word0 (length phase.jobs))) (omega arith) in
    grind (arith, nat_tests)

first_of : (works : List WorkState) → 0 < length works → (work : WorkState) × (slice_get works 0 ≡ Some work)
first_of [] some = absurd (omega arith)
first_of (w ∷ ws) some = (w, refl)

pub once : (phase : PhaseState) (works : List WorkState) (number : ℕ) → AreWorks phase works → number < length phase.jobs → times number (numbers (drawn_of works)) ≡ 1
once phase works number are inside =
    let first = first_of works are.some in
    let ended = (all_at (IsWorkOf phase) works 0 first.0 first.1 are.of_phase).ended (all_at IsWhole works 0 first.0 first.1 are.whole).refused in
    let part = part_of_total (λ log. log.ended) works 0 first.0 first.1 in
    sym (total_drawn works number are.whole) ∙ are.complete (omega arith) number inside

-- what stands in the place of a drawn job
pub at_number : (phase : PhaseState) (works : List WorkState) (start : List Outcome) (place : ℕ) (d : Drawn) → AreWorks phase works → length start ≡ length phase.jobs → slice_get (drawn_of works) place ≡ Some d
    → slice_get (filed start (drawn_of works)) d.number ≡ Some d.outcome
at_number phase works start place d are long is =
    let inside : d.number < length phase.jobs = all_at (λ (e : Drawn). e.number < length phase.jobs) (drawn_of works) place d is (drawn_inside phase works are) in
    let one = once phase works d.number are inside in
    filed_at start (drawn_of works) place d (omega arith) is (omega arith)

-- a lower number that a seat saw is that of a job which ends the run
ends_below : (phase : PhaseState) (works : List WorkState) (start : List Outcome) (at : ℕ) (work : WorkState) (number : ℕ) → AreWorks phase works → length start ≡ length phase.jobs → slice_get works at ≡ Some work
    → SawBelow work.seat.log number → EndsBelow (filed start (drawn_of works)) number
ends_below phase works start at work number are long is saw =
    let least = saw.0 in
    let seen = part_of_total (λ log. times least log.seen) works at work is in
    let noter = counted_by (λ log. times least log.noted) works (are.draws.seen_noted least (omega (arith, seen, saw.2))) in
    let end = (all_at IsWhole works noter.0 noter.1 noter.2 are.whole).are.noted least noter.3 in
    let place = drawn_by works noter.0 noter.1 end.0 end.1 noter.2 end.2 in
    let there = at_number phase works start place.0 end.1 are long place.1 in
    (least, end.1.outcome, saw.1, subst (λ (n : ℕ). slice_get (filed start (drawn_of works)) n ≡ Some end.1.outcome) end.3 there, end.4)

fate_is : (phase : PhaseState) (works : List WorkState) (start : List Outcome) (at : ℕ) (work : WorkState) (number : ℕ) (outcome : Outcome) → AreWorks phase works → length start ≡ length phase.jobs → slice_get works at ≡ Some work
    → FitsNumber work.seat.log number outcome → IsOver phase.jobs (cells_of phase.base) outcome → IsFate phase.jobs (cells_of phase.base) (filed start (drawn_of works)) number outcome
fate_is phase works start at work number (Ran ran) are long is fits over = record { number_is = fits; job_is = subst (λ (n : ℕ). slice_get phase.jobs n ≡ Some ran.job) fits over.job_is; memory_is = over.memory_is; over = over.over }
fate_is phase works start at work number Skipped are long is fits over = ends_below phase works start at work number are long is fits

-- the drawn jobs, each in its place, are what the phase's jobs came to
pub fates : (phase : PhaseState) (works : List WorkState) (start : List Outcome) → AreWorks phase works → length start ≡ length phase.jobs → AreFates phase.jobs (cells_of phase.base) (filed start (drawn_of works))
fates phase works start are long = record {
  long = filed_length start (drawn_of works) ∙ long;
  each = λ number outcome is.
      let inside : number < length phase.jobs = let below = slice_get_within (filed start (drawn_of works)) number outcome is in let same = filed_length start (drawn_of works) in omega arith in
      let one = once phase works number are inside in
      let drawn = number_at (drawn_of works) number (omega arith) in
      let d = drawn.1 in
      let there = at_number phase works start drawn.0 d are long drawn.2 in
      let same : d.outcome ≡ outcome = some_is d.outcome outcome (sym there ∙ subst (λ (n : ℕ). slice_get (filed start (drawn_of works)) n ≡ Some outcome) (sym drawn.3) is) in
      let by = work_of works drawn.0 d drawn.2 in
      let fits = all_at (Fits by.1.seat.log) by.1.outcomes by.3 d by.4 (all_at IsWhole works by.0 by.1 by.2 are.whole).are.each in
      let over = all_at (λ (e : Drawn). IsOver phase.jobs (cells_of phase.base) e.outcome) by.1.outcomes by.3 d by.4 (all_at (IsWorkOf phase) works by.0 by.1 by.2 are.of_phase).over in
      let fate = fate_is phase works start by.0 by.1 d.number d.outcome are long by.2 fits over in
      let filed_there = filed start (drawn_of works) in
      subst (λ (n : ℕ). IsFate phase.jobs (cells_of phase.base) filed_there n outcome) drawn.3 (subst (λ (o : Outcome). IsFate phase.jobs (cells_of phase.base) filed_there d.number o) same fate);
}

pub file_inside : (outcomes : List Outcome) (all rest : List Drawn) (d : Drawn) → all ≡ d ∷ rest → All (λ (job : Drawn). job.number < length outcomes) all → (d.number < length outcomes) × All (λ (job : Drawn). job.number < length outcomes) rest
file_inside outcomes all rest d is inside =
    let both = subst (λ (jobs : List Drawn). All (λ (job : Drawn). job.number < length outcomes) jobs) is inside in
    (both 0 d (omega arith), all_rest (λ (job : Drawn). job.number < length outcomes) d rest both)

-- one more outcome in its place
pub file_step : (outcomes new : List Outcome) (all rest : List Drawn) (d : Drawn) → all ≡ d ∷ rest → new ≡ slice_set outcomes d.number d.outcome → All (λ (job : Drawn). job.number < length outcomes) all
    → All (λ (job : Drawn). job.number < length new) rest × (filed new rest ≡ filed outcomes all)
file_step outcomes new all rest d is put inside =
    let long : length new ≡ length outcomes = ap length put ∙ length-set outcomes d.number d.outcome in (
      subst (λ (n : ℕ). All (λ (job : Drawn). job.number < n) rest) (sym long) (file_inside outcomes all rest d is inside).1,
      ap (λ (os : List Outcome). filed os rest) put ∙ ap (λ (ds : List Drawn). filed outcomes ds) (sym is),
    )

-- one more work: its seat and what it drew
pub seats_step : (done new : List SeatState) (all rest : List WorkState) (work : WorkState) (seat : SeatState) → all ≡ work ∷ rest → seat ≡ work.seat → new ≡ done ++ seat ∷ []
    → new ++ map (λ (w : WorkState). w.seat) rest ≡ done ++ map (λ (w : WorkState). w.seat) all
seats_step done new all rest work seat is same push = rw (is, push, same) (append_assoc done (work.seat ∷ []) (map (λ (w : WorkState). w.seat) rest))

pub drawn_step : (done new : List Drawn) (all rest : List WorkState) (work : WorkState) (outcomes : List Drawn) → all ≡ work ∷ rest → outcomes ≡ work.outcomes → new ≡ done ++ outcomes
    → new ++ drawn_of rest ≡ done ++ drawn_of all
drawn_step done new all rest work outcomes is same append = rw (is, append, same) (append_assoc done work.outcomes (drawn_of rest))

-- the seats of a phase's works are on its row
pub rows_of : (phase : PhaseState) (works : List WorkState) (seats : List SeatState) (row : Row) → seats ≡ map (λ (work : WorkState). work.seat) works → phase.row ≡ row → All (IsWorkOf phase) works → All (λ (seat : SeatState). seat.row ≡ row) seats
rows_of phase works seats row are same all = subst (λ (ss : List SeatState). All (λ (seat : SeatState). seat.row ≡ row) ss) (sym are) (All-map (λ (seat : SeatState). seat.row ≡ row) (λ (work : WorkState). work.seat) works (λ place d below. (all place d below).row ∙ same))

take_front : {A : Type 0} (new rest : List A) → take (length new) (new ++ rest) ≡ new
take_front [] rest = refl
take_front {A = A} (x ∷ xs) rest = ap (λ (more : List A). x ∷ more) (take_front xs rest)

-- a vector after its slice was changed
pub written_back : {A : Type 0} (new rest : List A) (long : ℕ) → long ≡ length new → take long (new ++ rest) ≡ new
written_back new rest long is = rw is (take_front new rest)
