-- Texts that are begun one after the other.
use Rattle.std.proofs.Common.{◌≡◌, ℕ, ◌+◌, ◌<◌, List, [], ◌∷◌, ◌++◌, ap, get_or, inr, length, subst, sym, take, ◌∙◌}
use Rattle.std.proofs.lemmas.List.{get_or-map, length-map, map-append, take-map, take_more}
use Rattle.std.proofs.lemmas.List.Elements.{All-from_recursion, All-take, Contains-get_or, recursion_from_All}
use Rattle.std.specs.List.{AllByRecursion}
use Rattle.output_files.specs.Content.{Content}
use Rattle.command_requests.specs.Destination.{IsNoPart, KeepsBut}
use Rattle.command_run.specs.Placing.{IsUnbegunFor}
use Rattle.command_run.specs.Recording.{wanted_by, wanted_of}
use Rattle.command_run.specs.Texts.{IsUnbegun, destinations}
use Rattle.command_requests.specs.declared.failure.Failure.{Failure}
use Rattle.command_run.specs.declared.item.Item.{Item}
use Rattle.command_requests.specs.declared.requested_text.RequestedText.{RequestedText}

module _ (wanted : List RequestedText) (i : ℕ) (d : RequestedText) (within : i < length wanted) where
  -- one text more was begun
  pub one_more : {O : Type 0} (items all : List (Item O)) (item : Item O) → all ≡ items ++ item ∷ [] → wanted_by items ≡ take i wanted → wanted_of item ≡ get_or wanted i d
      → wanted_by all ≡ take (i + 1) wanted
  one_more items all item is so_far last =
      ap wanted_by is ∙ (map-append wanted_of items (item ∷ []) ∙ (ap (λ front. front ++ wanted_of item ∷ []) so_far
      ∙ (ap (λ one. take i wanted ++ one ∷ []) last ∙ sym (take_more wanted i d within))))

  -- what is no text's part isn't this one's
  no_part_of : (path : List ℕ) → AllByRecursion (IsNoPart path) (destinations wanted) → IsNoPart path (get_or wanted i d).destination
  no_part_of path parts =
      subst (IsNoPart path) (get_or-map (λ one. one.destination) wanted i d d.destination within)
      (All-from_recursion (IsNoPart path) (destinations wanted) parts i d.destination (subst (λ (n : ℕ). i < n) (sym (length-map wanted (λ one. one.destination))) within))

  -- a further text leaves all but the parts as they are
  pub kept_by_one : (old now new : Content) → KeepsBut [] (destinations wanted) old now → KeepsBut [] ((get_or wanted i d).destination ∷ []) now new → KeepsBut [] (destinations wanted) old new
  kept_by_one old now new kept one = λ path files parts. one path tt (no_part_of path parts, tt) ∙ kept path tt parts

  -- and so do those so far, where they are taken away
  pub kept_by_front : (front : List RequestedText) (old now new : Content) → front ≡ take i wanted → KeepsBut [] (destinations wanted) old now → KeepsBut [] (destinations front) now new
      → KeepsBut [] (destinations wanted) old new
  kept_by_front front old now new is kept taken = λ path files parts.
      taken path tt
      (subst (AllByRecursion (IsNoPart path)) (take-map (λ one. one.destination) i wanted ∙ ap destinations (sym is))
      (recursion_from_All (IsNoPart path) (take i (destinations wanted)) (All-take (IsNoPart path) i (destinations wanted) (All-from_recursion (IsNoPart path) (destinations wanted) parts))))
      ∙ kept path tt parts

  -- why a text couldn't be begun is why one of all couldn't
  pub one_unbegun : (failure : Failure) → IsUnbegunFor (get_or wanted i d).destination failure → IsUnbegun wanted failure
  one_unbegun failure why = inr (get_or wanted i d, Contains-get_or wanted i d within, why)
