-- The events of workers who take one job after another.
use Rattle.std.proofs.Common.{◌≡◌, ◌∙◌, ◌+◌, ◌<◌, ℕ, zero, suc, Bool, true, false, Option, Some, List, [], ◌∷◌, ◌++◌, length, length-append, replicate, refl, sym, ap, subst, arith}
use Rattle.std.proofs.lemmas.Bool.Decides.{nat_tests}
use Rattle.std.specs.Prelude.{slice_get, slice_set, min, nat_lt, ◌&&◌, if◌then◌else◌}
use Rattle.schedule.specs.Phase.{Counts, Leads, Verdicts, is_enabled, is_enabled_at, made, made_for, advanced, is_end, with_worker}
use Rattle.schedule.specs.Verdict.{Verdict, GoesOn, Stops, EndsRun}
use Rattle.schedule.specs.declared.job_progress.JobProgress.{JobProgress}
use Rattle.schedule.specs.declared.event.Event.{Event}
use Rattle.schedule.specs.declared.event.Event.TheVariants.{Draw, Step, Note, Skip, Post}
use Rattle.schedule.specs.declared.fate.Fate.{Fate}
use Rattle.schedule.specs.declared.fate.Fate.TheVariants as fate
use Rattle.schedule.specs.declared.worker.Held.{Held}
use Rattle.schedule.specs.declared.worker.Worker.{Worker}
use Rattle.schedule.specs.declared.worker.Worker.TheVariants.{Idle, Ended, Working}
use Rattle.parallel_phase.proofs.Fates.{get_set_same}

-- the counts where no worker has a job
abbrev pub idle : ℕ → ℕ → List Fate → ℕ → Counts
idle drawn least fates workers = record { drawn = drawn; least = least; workers = replicate workers Idle; fates = fates }

-- the counts where one worker has a job
abbrev pub working : ℕ → ℕ → List Fate → ℕ → ℕ → Held → Counts
working drawn least fates workers worker held = record { drawn = drawn; least = least; workers = slice_set (replicate workers Idle) worker (Working held); fates = fates }

abbrev pub held_at : ℕ → ℕ → Bool → Bool → Held
held_at job steps stopped noted = record { job = job; progress = record { steps = steps; stopped = stopped }; noted = noted }

-- an event that is enabled leads from these counts to those
abbrev pub Does : Verdicts → Counts → Event → Counts → Type 0
Does v before event after = (is_enabled v before event ≡ true) × (made v before event ≡ after)

pub does_first : (v : Verdicts) (a b c : Counts) (event : Event) (events : List Event) → Does v a event b → Leads v b events c → Leads v a (event ∷ events) c
unfolding Leads
does_first v a b c event events does rest = (does.0, subst (λ (s : Counts). Leads v s events c) (sym does.1) rest)

pub does_nothing : (v : Verdicts) (a : Counts) → Leads v a [] a
unfolding Leads
does_nothing v a = refl

pub leads_on : (v : Verdicts) (a b c : Counts) (first rest : List Event) → Leads v a first b → Leads v b rest c → Leads v a (first ++ rest) c
unfolding Leads
leads_on v a b c [] rest one two = subst (λ (s : Counts). Leads v s rest c) one two
leads_on v a b c (event ∷ first) rest one two = (one.0, leads_on v (made v a event) b c first rest one.1 two)

get_idle : (workers worker : ℕ) → worker < workers → slice_get (replicate workers Idle) worker ≡ Some Idle
get_idle zero worker inside = absurd (omega arith)
get_idle (suc workers) zero inside = refl
get_idle (suc workers) (suc worker) inside = get_idle workers worker (omega arith)

set_idle : (workers worker : ℕ) → slice_set (replicate workers Idle) worker Idle ≡ replicate workers Idle
set_idle zero worker = refl
set_idle (suc workers) zero = refl
set_idle (suc workers) (suc worker) = ap (λ (rest : List Worker). Idle ∷ rest) (set_idle workers worker)

set_set : {A : Type 0} (xs : List A) (place : ℕ) (x y : A) → slice_set (slice_set xs place x) place y ≡ slice_set xs place y
set_set [] place x y = refl
set_set (z ∷ zs) zero x y = refl
set_set {A = A} (z ∷ zs) (suc place) x y = ap (λ (rest : List A). z ∷ rest) (set_set zs place x y)

set_between : {A : Type 0} (before after : List A) (old new : A) → slice_set (before ++ old ∷ after) (length before) new ≡ before ++ new ∷ after
set_between [] after old new = refl
set_between {A = A} (x ∷ before) after old new = ap (λ (rest : List A). x ∷ rest) (set_between before after old new)

long_idle : (workers : ℕ) → length (replicate workers Idle) ≡ workers
long_idle zero = refl
long_idle (suc workers) = ap suc (long_idle workers)

less_is : (a b : ℕ) → a < b → nat_lt a b ≡ true
less_is a b less = grind (arith, nat_tests)

-- either stop stops
stopped_by : (test : Bool) (steps : ℕ) → advanced (if test then EndsRun else Stops) (record { steps = steps; stopped = false }) ≡ record { steps = steps; stopped = true }
stopped_by true steps = refl
stopped_by false steps = refl

module _ (v : Verdicts) (drawn least : ℕ) (fates : List Fate) (workers worker : ℕ) (inside : worker < workers) where
  -- the worker's job, and the workers after it changed
  has : (held : Held) → slice_get (slice_set (replicate workers Idle) worker (Working held)) worker ≡ Some (Working held)
  has held = get_set_same (replicate workers Idle) worker (Working held) (let long = long_idle workers in omega arith)

  again : (old new : Held) → slice_set (slice_set (replicate workers Idle) worker (Working old)) worker (Working new) ≡ slice_set (replicate workers Idle) worker (Working new)
  again old new = set_set (replicate workers Idle) worker (Working old) (Working new)

  freed : (held : Held) → slice_set (slice_set (replicate workers Idle) worker (Working held)) worker Idle ≡ replicate workers Idle
  freed held = set_set (replicate workers Idle) worker (Working held) Idle ∙ set_idle workers worker

  pub draws : drawn < length fates → Does v (idle drawn least fates workers) (Draw worker) (working (drawn + 1) least fates workers worker (held_at drawn 0 false false))
  unfolding is_enabled made
  draws below = (
    ap (λ (state : Option Worker). is_enabled_at v least state (Draw worker)) (get_idle workers worker inside),
    ap (λ (state : Option Worker). made_for v (idle drawn least fates workers) worker state (Draw worker)) (get_idle workers worker inside)
        ∙ ap (λ (test : Bool). with_worker (idle (drawn + 1) least fates workers) worker (if test then Working (held_at drawn 0 false false) else Ended)) (less_is drawn (length fates) below),
  )

  module _ (job : ℕ) where
    abbrev at : ℕ → Bool → Bool → Counts
    at steps stopped noted = working drawn least fates workers worker (held_at job steps stopped noted)

    goes : (steps : ℕ) → v job steps ≡ GoesOn → Does v (at steps false false) (Step worker) (at (steps + 1) false false)
    unfolding is_enabled made
    goes steps on = (
      ap (λ (state : Option Worker). is_enabled_at v least state (Step worker)) (has (held_at job steps false false)),
      ap (λ (state : Option Worker). made_for v (at steps false false) worker state (Step worker)) (has (held_at job steps false false))
          ∙ ap (λ (verdict : Verdict). with_worker (at steps false false) worker (Working (record (held_at job steps false false) { progress = advanced verdict (record { steps = steps; stopped = false }) }))) on
          ∙ ap counts_with (again (held_at job steps false false) (held_at job (steps + 1) false false)),
    )
      where
        counts_with : List Worker → Counts
        counts_with all = record { drawn = drawn; least = least; workers = all; fates = fates }

    stops : (steps : ℕ) (test : Bool) → v job steps ≡ (if test then EndsRun else Stops) → Does v (at steps false false) (Step worker) (at steps true false)
    unfolding is_enabled made
    stops steps test is = (
      ap (λ (state : Option Worker). is_enabled_at v least state (Step worker)) (has (held_at job steps false false)),
      ap (λ (state : Option Worker). made_for v (at steps false false) worker state (Step worker)) (has (held_at job steps false false))
          ∙ ap (λ (verdict : Verdict). with_worker (at steps false false) worker (Working (record (held_at job steps false false) { progress = advanced verdict (record { steps = steps; stopped = false }) }))) is
          ∙ ap (λ (progress : JobProgress). with_worker (at steps false false) worker (Working (record { job = job; progress = progress; noted = false }))) (stopped_by test steps)
          ∙ ap counts_with (again (held_at job steps false false) (held_at job steps true false)),
    )
      where
        counts_with : List Worker → Counts
        counts_with all = record { drawn = drawn; least = least; workers = all; fates = fates }

    -- the steps up to the stop
    pub runs : (n steps last : ℕ) (test : Bool) (events : List Event) (c : Counts) → steps + n ≡ last → ((k : ℕ) → k < last → v job k ≡ GoesOn) → v job last ≡ (if test then EndsRun else Stops)
        → Leads v (at last true false) events c → Leads v (at steps false false) (replicate (suc n) (Step worker) ++ events) c
    runs zero steps last test events c is on end rest =
        subst (λ (k : ℕ). Leads v (at k false false) (Step worker ∷ events) c) (let e : last ≡ steps = omega arith in e) (does_first v _ _ c (Step worker) events (stops last test end) rest)
    runs (suc n) steps last test events c is on end rest =
        does_first v _ _ c (Step worker) (replicate (suc n) (Step worker) ++ events) (goes steps (on steps (omega arith))) (runs n (steps + 1) last test events c (omega arith) on end rest)

    pub notes : (steps : ℕ) → v job steps ≡ EndsRun → Does v (at steps true false) (Note worker) (working drawn (min least job) fates workers worker (held_at job steps true true))
    unfolding is_enabled made
    notes steps is = (
      ap (λ (state : Option Worker). is_enabled_at v least state (Note worker)) (has (held_at job steps true false)) ∙ ap (λ (verdict : Verdict). is_end verdict && true) is,
      ap (λ (state : Option Worker). made_for v (at steps true false) worker state (Note worker)) (has (held_at job steps true false))
          ∙ ap counts_with (again (held_at job steps true false) (held_at job steps true true)),
    )
      where
        counts_with : List Worker → Counts
        counts_with all = record { drawn = drawn; least = min least job; workers = all; fates = fates }

    pub posts : (steps : ℕ) (noted : Bool) → Does v (at steps true noted) (Post worker) (idle drawn least (slice_set fates job fate.Posted) workers)
    unfolding is_enabled made
    posts steps noted = (
      ap (λ (state : Option Worker). is_enabled_at v least state (Post worker)) (has (held_at job steps true noted)),
      ap (λ (state : Option Worker). made_for v (at steps true noted) worker state (Post worker)) (has (held_at job steps true noted))
          ∙ ap counts_with (freed (held_at job steps true noted)),
    )
      where
        counts_with : List Worker → Counts
        counts_with all = record { drawn = drawn; least = least; workers = all; fates = slice_set fates job fate.Posted }

    pub skips : least < job → Does v (at 0 false false) (Skip worker) (idle drawn least (slice_set fates job fate.Skipped) workers)
    unfolding is_enabled made
    skips below = (
      ap (λ (state : Option Worker). is_enabled_at v least state (Skip worker)) (has (held_at job 0 false false)) ∙ less_is least job below,
      ap (λ (state : Option Worker). made_for v (at 0 false false) worker state (Skip worker)) (has (held_at job 0 false false))
          ∙ ap counts_with (freed (held_at job 0 false false)),
    )
      where
        counts_with : List Worker → Counts
        counts_with all = record { drawn = drawn; least = least; workers = all; fates = slice_set fates job fate.Skipped }

-- the least job made known after a job that was noted or not
abbrev pub least_after : Bool → ℕ → ℕ → ℕ
least_after noted least number = if noted then min least number else least

-- the events of a job that was run, and of one that was skipped
module _ (v : Verdicts) (least : ℕ) (past future : List Fate) (workers worker : ℕ) (inside : worker < workers) where
  abbrev open_at : ℕ → Counts
  open_at number = idle number least (past ++ fate.Open ∷ future) workers

  abbrev closed_at : ℕ → ℕ → Fate → Counts
  closed_at number below what = idle (number + 1) below (past ++ what ∷ future) workers

  filed_fate : (number : ℕ) (what : Fate) → length past ≡ number → slice_set (past ++ fate.Open ∷ future) number what ≡ past ++ what ∷ future
  filed_fate number what long = subst (λ (n : ℕ). slice_set (past ++ fate.Open ∷ future) n what ≡ past ++ what ∷ future) long (set_between past future fate.Open what)

  inside_fates : (number : ℕ) → length past ≡ number → number < length (past ++ fate.Open ∷ future)
  inside_fates number long = let both = length-append past (fate.Open ∷ future) in omega arith

  pub skipped_one : (number : ℕ) → length past ≡ number → least < number → Leads v (open_at number) (Draw worker ∷ Skip worker ∷ []) (closed_at number least fate.Skipped)
  skipped_one number long below =
      let all = past ++ fate.Open ∷ future in
      let drew = draws v number least all workers worker inside (inside_fates number long) in
      let skip = skips v (number + 1) least all workers worker inside number below in
      let end = subst (λ (fates : List Fate). Leads v (idle (number + 1) least (slice_set all number fate.Skipped) workers) [] (idle (number + 1) least fates workers)) (filed_fate number fate.Skipped long) (does_nothing v _) in
      does_first v _ _ _ (Draw worker) (Skip worker ∷ []) drew (does_first v _ _ _ (Skip worker) [] skip end)

  posted_end : (number steps below : ℕ) (noted : Bool) → length past ≡ number
      → Leads v (working (number + 1) below (past ++ fate.Open ∷ future) workers worker (held_at number steps true noted)) (Post worker ∷ []) (closed_at number below fate.Posted)
  posted_end number steps below noted long =
      let all = past ++ fate.Open ∷ future in
      let post = posts v (number + 1) below all workers worker inside number steps noted in
      let end = subst (λ (fates : List Fate). Leads v (idle (number + 1) below (slice_set all number fate.Posted) workers) [] (idle (number + 1) below fates workers)) (filed_fate number fate.Posted long) (does_nothing v _) in
      does_first v _ _ _ (Post worker) [] post end

  noted_end : (number steps : ℕ) (test noted : Bool) → length past ≡ number → v number steps ≡ (if test then EndsRun else Stops) → (noted ≡ true → test ≡ true)
      → Leads v (working (number + 1) least (past ++ fate.Open ∷ future) workers worker (held_at number steps true false)) ((if noted then Note worker ∷ [] else []) ++ Post worker ∷ []) (closed_at number (least_after noted least number) fate.Posted)
  noted_end number steps test false long end only = posted_end number steps least false long
  noted_end number steps test true long end only =
      let ends : v number steps ≡ EndsRun = end ∙ ap (λ (t : Bool). if t then EndsRun else Stops) (only refl) in
      does_first v _ _ _ (Note worker) (Post worker ∷ []) (notes v (number + 1) least (past ++ fate.Open ∷ future) workers worker inside number steps ends) (posted_end number steps (min least number) true long)

  pub ran_one : (number steps count : ℕ) (test noted : Bool) → length past ≡ number → count ≡ suc steps → ((k : ℕ) → k < steps → v number k ≡ GoesOn) → v number steps ≡ (if test then EndsRun else Stops) → (noted ≡ true → test ≡ true)
      → Leads v (open_at number) (Draw worker ∷ (replicate count (Step worker) ++ ((if noted then Note worker ∷ [] else []) ++ Post worker ∷ []))) (closed_at number (least_after noted least number) fate.Posted)
  ran_one number steps count test noted long is on end only =
      let all = past ++ fate.Open ∷ future in
      let last = (if noted then Note worker ∷ [] else []) ++ Post worker ∷ [] in
      let drew = draws v number least all workers worker inside (inside_fates number long) in
      let rest = runs v (number + 1) least all workers worker inside number steps 0 steps test last _ (omega arith) on end (noted_end number steps test noted long end only) in
      does_first v _ _ _ (Draw worker) (replicate count (Step worker) ++ last) drew (subst (λ (n : ℕ). Leads v (working (number + 1) least all workers worker (held_at number 0 false false)) (replicate n (Step worker) ++ last) (closed_at number (least_after noted least number) fate.Posted)) (sym is) rest)
