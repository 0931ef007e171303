-- Races with one step more at the end, and the accesses of before with which the last step races.
use Rattle.std.proofs.Common.{◌≡◌, ℕ, zero, suc, ◌≤◌, ◌<◌, true, List, [], ◌∷◌, ◌++◌, length, refl, sym, ◌∙◌, ap, subst, arith, ⊎_elim, inl, inr}
use Rattle.std.specs.Prelude.{Contains}
use Rattle.std.proofs.lemmas.Bool.{cases_lt}
use Rattle.std.proofs.lemmas.List.{get_or_past, length_push}
use Rattle.races.specs.Before.{at, HappensBefore}
use Rattle.races.specs.Bytes.{has}
use Rattle.races.specs.Clocks.{Reaches, time_kept, time_of}
use Rattle.races.specs.Races.{AreRacing, IsRace, RaceAt, Renews}
use Rattle.races.specs.Steps.{IsSameAuthor, Step}
use Rattle.races.specs.Steps.Step.{Touch, Order}
use Rattle.races.specs.Words.{IsCovered, IsHit, IsLatest, KnowsFound, KnowsLatest, Times, race_of}
use Rattle.races.specs.declared.byte_set.ByteSet.{ByteSet}
use Rattle.races.specs.declared.clocks.Clocks.{Clocks}
use Rattle.races.specs.declared.clock_owner.ClockOwner.TheVariants.{Thread}
use Rattle.races.specs.declared.race.Race.{Race}
use Rattle.races.specs.declared.site.Access.{Access}
use Rattle.races.specs.declared.site.Site.{Site}
use Rattle.races.specs.declared.found_race.FoundRace.{FoundRace}
use Rattle.races.specs.declared.latest.Latest.{Latest}
use Rattle.races.proofs.Follow.{access_inside, apart_kept, kept_with}
use Rattle.races.proofs.Order.{at_before, at_last, before_last, before_less, before_more, last_after}

-- past the end nothing is renewed
pub renews_inside : (steps : List Step) (index word place : ℕ) → Renews (at steps index) word place → index < length steps
renews_inside steps index word place renews =
    ⊎_elim (λ inside. inside) (λ past. absurd (subst (λ (step : Step). Renews step word place) (get_or_past steps index (Order [] []) past) renews)) (cases_lt index (length steps))

pub small_place : (set : ByteSet) (place : ℕ) → has set place ≡ true → place < 4
small_place set zero is = omega arith
small_place set (suc zero) is = omega arith
small_place set (suc (suc zero)) is = omega arith
small_place set (suc (suc (suc zero))) is = omega arith
small_place set (suc (suc (suc (suc place)))) is = absurd (cc is)

module _ (steps : List Step) (step : Step) where
  more : List Step
  more = steps ++ step ∷ []

  pub racing_more : (earlier later : ℕ) (one other : Access) (word place : ℕ) → AreRacing steps earlier later one other word place → AreRacing (steps ++ step ∷ []) earlier later one other word place
  racing_more earlier later one other word place race =
      let inside = access_inside steps later other race.second_is in
      let order = race.order in
      let first_inside : earlier < length steps = omega arith in record {
        first_is = at_before steps step earlier first_inside ∙ race.first_is;
        second_is = at_before steps step later inside ∙ race.second_is;
        order = race.order;
        threads = race.threads;
        first_of = race.first_of;
        second_of = race.second_of;
        stores = race.stores;
        plain = race.plain;
        unordered = λ before. race.unordered (before_less steps step before inside);
        one_life = λ between after before renews.
            let small : between < length steps = omega arith in
            race.one_life between after before (subst (λ (one_step : Step). Renews one_step word place) (at_before steps step between small) renews);
      }

  pub racing_less : (earlier later : ℕ) (one other : Access) (word place : ℕ) → later < length steps → AreRacing (steps ++ step ∷ []) earlier later one other word place → AreRacing steps earlier later one other word place
  racing_less earlier later one other word place inside race =
      let order = race.order in
      let first_inside : earlier < length steps = omega arith in record {
        first_is = sym (at_before steps step earlier first_inside) ∙ race.first_is;
        second_is = sym (at_before steps step later inside) ∙ race.second_is;
        order = race.order;
        threads = race.threads;
        first_of = race.first_of;
        second_of = race.second_of;
        stores = race.stores;
        plain = race.plain;
        unordered = λ before. race.unordered (before_more steps step before);
        one_life = λ between after before renews.
            let small : between < length steps = omega arith in
            race.one_life between after before (subst (λ (one_step : Step). Renews one_step word place) (sym (at_before steps step between small)) renews);
      }

  pub race_at_more : (first second : Site) (word place : ℕ) → RaceAt steps first second word place → RaceAt (steps ++ step ∷ []) first second word place
  race_at_more first second word place race = record {
    earlier = race.earlier;
    later = race.later;
    one = race.one;
    other = race.other;
    pair = race.pair;
    race = racing_more race.earlier race.later race.one race.other word place race.race;
  }

  pub race_more : (race : Race) → IsRace steps race → IsRace (steps ++ step ∷ []) race
  race_more race is = record {
    earlier = is.earlier;
    later = is.later;
    one = is.one;
    other = is.other;
    place = is.place;
    first_is = is.first_is;
    second_is = is.second_is;
    among = is.among;
    racing = racing_more is.earlier is.later is.one is.other race.word is.place is.racing;
    bytes = λ place there. race_at_more race.first race.second race.word place (is.bytes place there);
  }

  -- the races found at a word, if the step is no access of it
  pub found_more : (word : ℕ) (found : List FoundRace) → ((access : Access) → step ≡ Touch access → access.word ≡ word → ⊥) → KnowsFound steps word found → KnowsFound (steps ++ step ∷ []) word found
  found_more word found not_of knows = record {
    sound = λ race among. race_more (race_of word race) (knows.sound race among);
    complete = λ earlier later one other place race.
        let inside = access_inside (steps ++ step ∷ []) later other race.second_is in
        let long = length_push steps step in
        ⊎_elim
        (λ small. knows.complete earlier later one other place (racing_less earlier later one other word place small race))
        (λ past.
        let last : later ≡ length steps = omega arith in
        absurd (not_of other (sym (at_last steps step) ∙ ap (at (steps ++ step ∷ [])) (sym last) ∙ race.second_is) race.second_of.word_is))
        (cases_lt later (length steps));
  }

-- ---- an access

module _ (steps : List Step) (access : Access) (clocks : Clocks) (times : Times steps clocks) where
  -- an access of before that isn't in the past of the thread races
  pub hit_race : (past : Latest) (place : ℕ) (is : IsLatest steps access.word past) → IsHit (time_of clocks.threads.clocks.items access.site.thread) past access → has past.bytes place ≡ true → has access.bytes place ≡ true
      → AreRacing (steps ++ Touch access ∷ []) past.step (length steps) is.access access access.word place
  hit_race past place is hit there here =
      let inside = access_inside steps past.step is.access is.is in
      let site = is.site in record {
        first_is = at_before steps (Touch access) past.step inside ∙ is.is;
        second_is = at_last steps (Touch access);
        order = inside;
        threads = λ same. hit.threads (ap (λ (one : Site). one.thread) (sym site) ∙ same);
        first_of = is.of place there;
        second_of = record { word_is = refl; has_it = here };
        stores = ⊎_elim (λ first. inl (ap (λ (one : Site). one.is_store) site ∙ first)) (λ second. inr second) hit.stores;
        plain = ⊎_elim (λ first. inl (ap (λ (one : Site). one.is_atomic) site ∙ first)) (λ second. inr second) hit.plain;
        unordered = λ before.
            let way = before_last steps (Touch access) past.step before in
            let reaches : Reaches steps past.step (Thread access.site.thread) = subst (Reaches steps past.step) (sym way.1) way.2 in
            let known = (times.known (Thread access.site.thread) past.step is.access is.is).0 reaches in
            let apart : Thread access.site.thread ≡ Thread is.access.site.thread → ⊥ =
            λ same. let back : access.site.thread ≡ is.access.site.thread = cc same in hit.threads (ap (λ (one : Site). one.thread) (sym site) ∙ sym back) in
            let kept = apart_kept (length steps) (time_kept clocks) (Thread access.site.thread) is.access.site.thread past.step apart known in
            let late : past.step < time_of clocks.threads.clocks.items access.site.thread past.site.thread = subst (λ (one : Site). past.step < time_of clocks.threads.clocks.items access.site.thread one.thread) site kept in
            let early = hit.unordered in
            omega arith;
        one_life = λ between after before renews.
            is.life place between there after (subst (λ (one : Step). Renews one access.word place) (at_before steps (Touch access) between before) renews);
      }

  -- and with each that races there is one that is kept
  pub race_hit : (latest : List Latest) → KnowsLatest steps access.word latest → (earlier : ℕ) (one : Access) (place : ℕ) → AreRacing (steps ++ Touch access ∷ []) earlier (length steps) one access access.word place
      → (past : Latest) × Contains latest past × IsHit (time_of clocks.threads.clocks.items access.site.thread) past access × IsSameAuthor past.site one.site × (has past.bytes place ≡ true)
  race_hit latest knows earlier one place race = (past, kept.1, hit, kept.2, kept.3)
    where
      inside : earlier < length steps
      inside = race.order

      is : at steps earlier ≡ Touch one
      is = sym (at_before steps (Touch access) earlier inside) ∙ race.first_is

      alive : (later : ℕ) → earlier < later → Renews (at steps later) access.word place → ⊥
      alive later after renews =
          let small = renews_inside steps later access.word place renews in
          race.one_life later after small (subst (λ (step : Step). Renews step access.word place) (sym (at_before steps (Touch access) later small)) renews)

      kept : (past : Latest) × Contains latest past × IsSameAuthor past.site one.site × (has past.bytes place ≡ true) × IsCovered steps past.step earlier
      kept = knows.complete earlier one place is race.first_of alive

      past : Latest
      past = kept.0

      sound : IsLatest steps access.word past
      sound = knows.sound past kept.1

      thread : past.site.thread ≡ one.site.thread
      thread = kept.2.0

      -- what is in the past of a thread has what it stands for
      before_all : HappensBefore (steps ++ Touch access ∷ []) past.step (length steps) → HappensBefore (steps ++ Touch access ∷ []) earlier (length steps)
      before_all last =
          let way = before_last steps (Touch access) past.step last in
          last_after steps (Touch access) earlier way.0 way.1 (kept.4 way.0 way.2)

      unordered : time_of clocks.threads.clocks.items access.site.thread past.site.thread ≤ past.step
      unordered = ⊎_elim
          (λ late.
          let kept = subst (λ (site : Site). past.step < time_of clocks.threads.clocks.items access.site.thread site.thread) (sym sound.site) late in
          let reaches = (times.known (Thread access.site.thread) past.step sound.access sound.is).1 (kept_with (length steps) (time_kept clocks) (Thread access.site.thread) sound.access.site.thread past.step kept) in
          absurd (race.unordered (before_all (last_after steps (Touch access) past.step (Thread access.site.thread) refl reaches))))
          (λ early. early)
          (cases_lt past.step (time_of clocks.threads.clocks.items access.site.thread past.site.thread))

      hit : IsHit (time_of clocks.threads.clocks.items access.site.thread) past access
      hit = record {
        threads = λ same. race.threads (sym thread ∙ same);
        stores = ⊎_elim (λ first. inl (kept.2.1.1 ∙ first)) (λ second. inr second) race.stores;
        plain = ⊎_elim (λ first. inl (kept.2.1.2 ∙ first)) (λ second. inr second) race.plain;
        unordered = unordered;
      }
