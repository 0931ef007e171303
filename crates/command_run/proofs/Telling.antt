-- Items that are told one after the other.
use Rattle.std.proofs.Common.{◌≡◌, ℕ, ◌<◌, List, Option, Result, Ok, Err, IfErr, get_or, set, length, subst, true, sym, ◌∙◌}
use Rattle.std.proofs.Math.Seq.{map-set_same}
use Rattle.std.proofs.lemmas.List.{get_or-map, length-map}
use Rattle.std.proofs.lemmas.List.Elements.{All-set, Contains-get_or}
use Rattle.std.specs.List.{Contains}
use Rattle.std.specs.Result.{IsErrAnd}
use Rattle.token.specs.Change.{Change}
use Rattle.token.specs.declared.turn.Turn.{Turn}
use Rattle.command_run.specs.Recording.{AreTold, HasWriting, IsTold, wanted_by, wanted_of, writes_meanwhile}
use Rattle.command_run.specs.declared.item.Item.{Item}
use Rattle.command_requests.specs.declared.requested_text.RequestedText.{RequestedText}

-- what holds of the error that `?` hands on
pub if_err : {T E : Type 0} (P : E → Type 0) (result : Result T E) (failure : E) → P failure → IsErrAnd result (λ given. given ≡ failure) → IfErr result P
if_err P (Ok value) failure is given = tt
if_err P (Err other) failure is given = subst P (sym given) is

module _ {O : Type 0} (items : List (Item O)) (i : ℕ) (new d : Item O) (within : i < length items) where
  -- an item is for the same text, and so are all
  pub same_wanted : (olds : List (Item O)) → wanted_of new ≡ wanted_of (get_or items i d) → wanted_by items ≡ wanted_by olds → wanted_by (set items i new) ≡ wanted_by olds
  same_wanted olds same are = map-set_same wanted_of items i new d same ∙ are

  -- an item keeps what it was told, and so do all
  pub kept_told : (contents : O → Option (List ℕ)) (olds : List (Item O)) → ((turns : List Turn) (changes : List Change) → IsTold contents turns changes (get_or items i d).recording → IsTold contents turns changes new.recording)
      → ((turns : List Turn) (changes : List Change) → AreTold contents olds turns changes → AreTold contents items turns changes)
      → (turns : List Turn) (changes : List Change) → AreTold contents olds turns changes → AreTold contents (set items i new) turns changes
  kept_told contents olds kept so turns changes told =
      let all = so turns changes told in
      let P : Item O → Type 0 = λ item. IsTold contents turns changes item.recording in
      All-set P items i new (kept turns changes (all i d within)) all

  -- an item writes as the turns are done, and so one of all does
  pub one_writes : (olds : List (Item O)) → wanted_by items ≡ wanted_by olds → writes_meanwhile (wanted_of (get_or items i d)).text ≡ true → HasWriting (wanted_by olds)
  one_writes olds are writes = (
    wanted_of (get_or items i d),
    subst (λ (all : List RequestedText). Contains all (wanted_of (get_or items i d))) are
        (subst (Contains (wanted_by items)) (get_or-map wanted_of items i d (wanted_of d) within) (Contains-get_or (wanted_by items) i (wanted_of d) (subst (λ (n : ℕ). i < n) (sym (length-map items wanted_of)) within))),
    writes,
  )
