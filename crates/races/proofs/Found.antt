-- The races of an access with the accesses of before, found one after another.
use Rattle.std.proofs.Common.{◌≡◌, ℕ, ◌≤◌, true, List, [], ◌∷◌, ◌++◌, length, refl, sym, ◌∙◌, ap, subst, arith, ⊎_elim, inl}
use Rattle.std.specs.Prelude.{Contains}
use Rattle.std.proofs.lemmas.Bool.{cases_lt}
use Rattle.std.proofs.lemmas.List.{length_push}
use Rattle.std.proofs.lemmas.List.Elements.{Contains-push_cases}
use Rattle.races.specs.Before.{at}
use Rattle.races.specs.Bytes.{has}
use Rattle.races.specs.Clocks.{time_of}
use Rattle.races.specs.Races.{AreRacing, IsRace, IsSamePair, IsToldBy}
use Rattle.races.specs.Steps.{Step}
use Rattle.races.specs.Steps.Step.{Touch}
use Rattle.races.specs.Words.{IsFinding, IsHit, IsLatest, IsNoted, KnowsFound, KnowsLatest, Times, race_of}
use Rattle.races.specs.declared.clocks.Clocks.{Clocks}
use Rattle.races.specs.declared.site.Access.{Access}
use Rattle.races.specs.declared.site.Site.{Site}
use Rattle.races.specs.declared.found_race.FoundRace.{FoundRace}
use Rattle.races.specs.declared.latest.Latest.{Latest}
use Rattle.races.proofs.Clocked.{none_contained}
use Rattle.races.proofs.Follow.{access_inside}
use Rattle.races.proofs.Noting.{noted_kept, noted_own, noted_sound, pair_refl, pair_trans}
use Rattle.races.proofs.Order.{at_last}
use Rattle.races.proofs.Racing.{hit_race, race_hit, race_more, racing_less}

module _ (steps : List Step) (access : Access) (clocks : Clocks) where
  pub finding_none : (found : List FoundRace) → KnowsFound steps access.word found → IsFinding steps access clocks [] found
  finding_none found knows = record {
    sound = λ race among. race_more steps (Touch access) (race_of access.word race) (knows.sound race among);
    old = knows.complete;
    new = λ past place among hit there here. absurd (none_contained past among);
  }

  -- held against accesses of which none races
  pub finding_unhit : (latest : List Latest) (found : List FoundRace) → ((past : Latest) → Contains latest past → IsHit (time_of clocks.threads.clocks.items access.site.thread) past access → ⊥) → IsFinding steps access clocks [] found
      → IsFinding steps access clocks latest found
  finding_unhit latest found none finding = record {
    sound = finding.sound;
    old = finding.old;
    new = λ past place among hit there here. absurd (none past among hit);
  }

  -- held against one more that doesn't race
  pub finding_skip : (done : List Latest) (past : Latest) (found : List FoundRace) → ((place : ℕ) → IsHit (time_of clocks.threads.clocks.items access.site.thread) past access → has past.bytes place ≡ true → has access.bytes place ≡ true → ⊥)
      → IsFinding steps access clocks done found → IsFinding steps access clocks (done ++ past ∷ []) found
  finding_skip done past found none finding = record {
    sound = finding.sound;
    old = finding.old;
    new = λ one place among hit there here. ⊎_elim
        (λ before. finding.new one place before hit there here)
        (λ same. absurd (none place (subst (λ (p : Latest). IsHit (time_of clocks.threads.clocks.items access.site.thread) p access) (sym same) hit) (ap (λ (p : Latest). has p.bytes place) same ∙ there) here))
        (Contains-push_cases done past one among);
  }

  -- held against one more that races
  pub finding_hit : (latest done : List Latest) (past : Latest) (found more : List FoundRace) (race : FoundRace) → Times steps clocks → KnowsLatest steps access.word latest → Contains latest past
      → IsHit (time_of clocks.threads.clocks.items access.site.thread) past access → race.first ≡ past.site → race.second ≡ access.site
      → ((place : ℕ) → has race.bytes place ≡ true → (has past.bytes place ≡ true) × (has access.bytes place ≡ true)) → ((place : ℕ) → has past.bytes place ≡ true → has access.bytes place ≡ true → has race.bytes place ≡ true)
      → (place : ℕ) → has race.bytes place ≡ true
      → IsNoted found more race → IsFinding steps access clocks done found → IsFinding steps access clocks (done ++ past ∷ []) more
  finding_hit latest done past found more race times knows among hit first second common all some_place some noted finding = record {
    sound = noted_sound longer access.word found more race noted finding.sound is;
    old = λ earlier later one other place racing. noted_kept longer access.word found more race noted one.site other.site place (finding.old earlier later one other place racing);
    new = λ one place there hits in_past here. ⊎_elim
        (λ before. noted_kept longer access.word found more race noted one.site access.site place (finding.new one place before hits in_past here))
        (λ same.
        let own = noted_own longer access.word found more race noted place (all place (ap (λ (p : Latest). has p.bytes place) same ∙ in_past) here) in (
          own.0,
          own.1,
          subst (λ (s : Site). IsToldBy (race_of access.word own.0) s access.site access.word place) (first ∙ ap (λ (p : Latest). p.site) same)
              (subst (λ (s : Site). IsToldBy (race_of access.word own.0) race.first s access.word place) second own.2),
        ))
        (Contains-push_cases done past one there);
  }
    where
      longer : List Step
      longer = steps ++ Touch access ∷ []

      kept : IsLatest steps access.word past
      kept = knows.sound past among

      racing : (place : ℕ) → has race.bytes place ≡ true → AreRacing longer past.step (length steps) kept.access access access.word place
      racing place there = hit_race steps access clocks times past place kept hit (common place there).0 (common place there).1

      is : IsRace longer (race_of access.word race)
      is = record {
        earlier = past.step;
        later = length steps;
        one = kept.access;
        other = access;
        place = some_place;
        first_is = kept.site ∙ sym first;
        second_is = sym second;
        among = some;
        racing = racing some_place some;
        bytes = λ place there. record {
          earlier = past.step;
          later = length steps;
          one = kept.access;
          other = access;
          pair = subst (λ (s : Site). IsSamePair race.first race.second s access.site) (first ∙ sym kept.site) (subst (λ (s : Site). IsSamePair race.first race.second race.first s) second (pair_refl race.first race.second));
          race = racing place there;
        };
      }

  -- held against all
  pub finding_all : (latest : List Latest) (found : List FoundRace) → Times steps clocks → KnowsLatest steps access.word latest → IsFinding steps access clocks latest found → KnowsFound (steps ++ Touch access ∷ []) access.word found
  finding_all latest found times knows finding = record {
    sound = finding.sound;
    complete = λ earlier later one other place race. ⊎_elim
        (λ before. finding.old earlier later one other place (racing_less steps (Touch access) earlier later one other access.word place before race))
        (λ past. at_end earlier later one other place race past)
        (cases_lt later (length steps));
  }
    where
      longer : List Step
      longer = steps ++ Touch access ∷ []

      at_end : (earlier later : ℕ) (one other : Access) (place : ℕ) → AreRacing longer earlier later one other access.word place → length steps ≤ later
          → (race : FoundRace) × Contains found race × IsToldBy (race_of access.word race) one.site other.site access.word place
      at_end earlier later one other place race past =
          let inside = access_inside longer later other race.second_is in
          let long = length_push steps (Touch access) in
          let last : later ≡ length steps = omega arith in
          let is : Touch access ≡ Touch other = sym (at_last steps (Touch access)) ∙ ap (at longer) (sym last) ∙ race.second_is in
          let same : other ≡ access = cc is in
          let here : AreRacing longer earlier (length steps) one access access.word place =
          subst (λ (n : ℕ). AreRacing longer earlier n one access access.word place) last (subst (λ (a : Access). AreRacing longer earlier later one a access.word place) same race) in
          let hit = race_hit steps access clocks times latest knows earlier one place here in
          let told = finding.new hit.0 place hit.1 hit.2 hit.4 here.second_of.has_it in (
            told.0,
            told.1,
            subst (λ (a : Access). IsToldBy (race_of access.word told.0) one.site a.site access.word place) (sym same) (record {
              word_is = refl;
              pair = pair_trans told.0.first told.0.second hit.0.site access.site one.site access.site told.2.pair (inl (hit.3.1, (refl, refl, refl)));
              has_it = told.2.has_it;
            }),
          )
