-- Texts one after the other.
use Rattle.std.proofs.Common.{◌≡◌, ℕ, Option, Some, None, Result, Ok, Err, List, [], ◌∷◌, ◌++◌, IfSome, ap, refl, subst, sym, ◌∙◌, append-nil, append_assoc, length}
use Rattle.std.proofs.KnownBytes.{Appends-trans}
use Rattle.std.specs.Io.KnownBytes.{Appends}
use Rattle.std.specs.List.{AllByRecursion}
use Rattle.output_files.specs.Content.{Content}
use Rattle.std.proofs.lemmas.List.Elements.{All-head, All-tail}
use Rattle.token.specs.Change.{Change}
use Rattle.sharing_report.specs.Recording.{AreInOrder}
use Rattle.command_run.specs.declared.ended_run.EndedRun.{EndedRun}
use Rattle.token.specs.declared.turn.Turn.{Turn}
use Rattle.command_run.specs.Recording.{AreTold, IsTold, wanted_by, wanted_of}
use Rattle.command_run.specs.declared.item.Item.{Item}
use Rattle.command_requests.specs.Destination.{IsApart, IsElsewhere, IsFiled, IsNoPart, KeepsBut}
use Rattle.command_run.specs.Placing.{IsPut, IsUnwrittenTo, KeepsUnlessPrinted}
use Rattle.command_run.specs.Texts.{AreAllOut, ArePrinted, AreCutShort, AreTextsOf, CanPrintAll, ComesOut, IsTextOf, Left, Placed, destinations, homes, left_by, printed}
use Rattle.command_requests.specs.declared.destination.Destination.{Destination}
use Rattle.command_requests.specs.declared.destination.Destination.TheVariants.{StandardOutput, File}
use Rattle.command_requests.specs.declared.failure.Failure.{Failure}
use Rattle.command_requests.specs.declared.requested_text.RequestedText.{RequestedText}

-- texts for other destinations leave a file as it is
still_filed : (destination : Destination) (others : List Destination) (text : List ℕ) (old new : Content) → KeepsBut others [] old new
    → IsFiled destination text old → AllByRecursion (IsApart destination) others → IsFiled destination text new
still_filed StandardOutput others text old new kept filed apart = tt
still_filed (File path) others text old new kept filed apart =
    subst (λ (known : Option (List ℕ)). IfSome known (λ all. all ≡ text)) (sym (kept path.now apart tt)) filed

-- the texts go where they are wanted
homes_of : (left : Left) (wanted : List RequestedText) (texts : List Placed) → AreTextsOf wanted left texts → homes texts ≡ destinations wanted
homes_of left [] [] are = refl
homes_of left [] (text ∷ texts) are = absurd are
homes_of left (one ∷ wanted) [] are = absurd are
homes_of left (one ∷ wanted) (text ∷ texts) are =
    ap (λ home. home ∷ homes texts) are.0.destination ∙ ap (λ others. one.destination ∷ others) (homes_of left wanted texts are.1)

-- destinations of texts one after the other
destinations-append : (front rest : List RequestedText) → destinations (front ++ rest) ≡ destinations front ++ destinations rest
destinations-append [] rest = refl
destinations-append (one ∷ front) rest = ap (λ others. one.destination ∷ others) (destinations-append front rest)

-- a path that is elsewhere is no part's
no_parts : (path : List ℕ) (all : List Destination) → AllByRecursion (IsElsewhere path) all → AllByRecursion (IsNoPart path) all
no_parts path [] elsewhere = tt
no_parts path (first ∷ others) elsewhere = (elsewhere.0.1, no_parts path others elsewhere.1)

-- what leaves all files but parts as they are leaves all but the files and their parts
pub but_files : (all : List Destination) (old new : Content) → KeepsBut [] all old new → KeepsBut all [] old new
but_files all old new kept = λ path files parts. kept path tt (no_parts path all files)

-- a text for one destination and then those for others leave all other files as they are
pub but_both : (first : Destination) (files parts : List Destination) (old now new : Content) → KeepsBut (first ∷ []) [] old now → KeepsBut files parts now new
    → KeepsBut (first ∷ files) parts old new
but_both first files parts old now new kept others = λ path elsewhere no. others path elsewhere.1 no ∙ kept path (elsewhere.0, tt) tt

-- nothing is added to standard output
nothing_added : (known : Option (List ℕ)) → Appends known known []
nothing_added None = tt
nothing_added (Some bytes) = sym (append-nil bytes)

-- texts that were printed one after the other were all printed
pub printed_all : (tells : Type 0) (texts : List Placed) (old new : Option (List ℕ)) → ArePrinted tells texts old new → CanPrintAll tells texts → Appends old new (printed texts)
printed_all tells [] old new are can = subst (λ (now : Option (List ℕ)). Appends old now []) (sym are) (nothing_added old)
printed_all tells (first ∷ others) old new are can = Appends-trans old are.0 new _ _ (are.1 can.0) (printed_all tells others are.0 new are.2 can.1)

-- no text is wanted, and nothing changes
pub none_out : (tells : Type 0) (left : Left) (content : Content) (known : Option (List ℕ)) → AreAllOut tells [] left content content known known
none_out tells left content known = record {
  texts = [];
  are_texts = tt;
  out = record { filed = tt; printed_after = refl };
  others = λ path files parts. refl;
}

-- the first text isn't where it is to be, and those after it were taken away
pub missed_first : (tells : Type 0) (first : RequestedText) (rest : List RequestedText) (left : Left) (old now new : Content) (out last : Option (List ℕ)) (failure : Failure)
    → IsUnwrittenTo first.destination failure → KeepsUnlessPrinted first.destination out last → KeepsBut (first.destination ∷ []) [] old now
    → KeepsBut [] (destinations rest) now new → AreCutShort tells (first ∷ rest) left old new out last failure
missed_first tells first rest left old now new out last failure why kept others taken = record {
  front = [];
  missed = first;
  rest = rest;
  split = refl;
  texts = [];
  are_texts = tt;
  between = out;
  out = record { filed = tt; printed_after = refl };
  why = why;
  kept = kept;
  others = λ path elsewhere no. taken path tt no ∙ others path elsewhere tt;
}

-- The first text is where it is to be, and then the others went on.
pub goes_on : {T : Type 0} (tells : Type 0) (first : RequestedText) (rest : List RequestedText) (left : Left) (text : List ℕ) (old now new : Content) (out mid last : Option (List ℕ))
    (result : Result T Failure) → IsTextOf first.text left text → IsPut tells first.destination text now out mid → KeepsBut (first.destination ∷ []) [] old now
    → KeepsBut (destinations rest) [] now new → ComesOut tells rest left now new mid last result → ComesOut tells (first ∷ rest) left old new out last result
goes_on tells first rest left text old now new out mid last (Ok value) is put kept left_so others = record {
  texts = record { destination = first.destination; text = text } ∷ others.texts;
  are_texts = (record { destination = refl; text = is }, others.are_texts);
  out = record {
    filed = (
      λ apart.
          still_filed first.destination (destinations rest) text now new left_so put.filed
          (subst (AllByRecursion (IsApart first.destination)) (append-nil _ ∙ homes_of left rest others.texts others.are_texts) apart),
      others.out.filed,
    );
    printed_after = (mid, put.printed_after, others.out.printed_after);
  };
  others = but_both first.destination (destinations rest) [] old now new kept others.others;
}
goes_on tells first rest left text old now new out mid last (Err failure) is put kept left_so others = record {
  front = first ∷ others.front;
  missed = others.missed;
  rest = others.rest;
  split = ap (λ all. first ∷ all) others.split;
  texts = record { destination = first.destination; text = text } ∷ others.texts;
  are_texts = (record { destination = refl; text = is }, others.are_texts);
  between = others.between;
  out = record {
    filed = (
      λ apart.
          still_filed first.destination (destinations rest) text now new left_so put.filed
          (subst (AllByRecursion (IsApart first.destination))
          (ap (λ front. front ++ others.missed.destination ∷ destinations others.rest) (homes_of left others.front others.texts others.are_texts)
          ∙ (sym (destinations-append others.front (others.missed ∷ others.rest)) ∙ ap destinations (sym others.split))) apart),
      others.out.filed,
    );
    printed_after = (mid, put.printed_after, others.out.printed_after);
  };
  why = others.why;
  kept = others.kept;
  others = but_both first.destination (destinations (others.front ++ others.missed ∷ [])) (destinations others.rest) old now new kept others.others;
}

-- a list of no items is empty
pub none_left : {X : Type 0} (items : List X) → length items ≡ 0 → items ≡ []
none_left [] is = refl
none_left (item ∷ items) is = cc

-- no item is left
pub all_out : {O : Type 0} (tells : Type 0) (items : List (Item O)) (left : Left) (content : Content) (known : Option (List ℕ)) → items ≡ []
    → AreAllOut tells (wanted_by items) left content content known known
all_out {O} tells items left content known is =
    subst (λ (all : List (Item O)). AreAllOut tells (wanted_by all) left content content known known) (sym is) (none_out tells left content known)

module _ {O : Type 0} (contents : O → Option (List ℕ)) (tells : Type 0) (items : List (Item O)) (item : Item O) (rest : List (Item O)) (end : EndedRun) (old now new : Content)
    (out mid last : Option (List ℕ)) (is : items ≡ item ∷ rest) (kept : KeepsBut (item.destination ∷ []) [] old now) where
  -- the first item's text is where it is to be, and then the others went on
  pub item_goes_on : {T : Type 0} (result : Result T Failure) (turns : List Turn) (changes : List Change)
      → ((turns : List Turn) (changes : List Change) → IsTold contents turns changes item.recording → AreInOrder changes
      → (text : List ℕ) × IsTextOf (wanted_of item).text (left_by turns changes end) text × IsPut tells item.destination text now out mid)
      → KeepsBut (destinations (wanted_by rest)) [] now new
      → ((turns : List Turn) (changes : List Change) → AreTold contents rest turns changes → AreInOrder changes
      → ComesOut tells (wanted_by rest) (left_by turns changes end) now new mid last result)
      → AreTold contents items turns changes → AreInOrder changes → ComesOut tells (wanted_by items) (left_by turns changes end) old new out last result
  item_goes_on {T} result turns changes put others_kept others told order =
      let all = subst (λ (all : List (Item O)). AreTold contents all turns changes) is told in
      let P : Item O → Type 0 = λ item. IsTold contents turns changes item.recording in
      let placed = put turns changes (All-head P item rest all) order in
      subst (λ (all : List (Item O)). ComesOut tells (wanted_by all) (left_by turns changes end) old new out last result) (sym is)
      (goes_on tells (wanted_of item) (wanted_by rest) (left_by turns changes end) placed.0 old now new out mid last result placed.1 placed.2 kept others_kept
      (others turns changes (All-tail P item rest all) order))

  -- it isn't, and the others were taken away
  pub item_missed : (left : Left) (failure : Failure) → IsUnwrittenTo item.destination failure → KeepsUnlessPrinted item.destination out last
      → KeepsBut [] (destinations (wanted_by rest)) now new → AreCutShort tells (wanted_by items) left old new out last failure
  item_missed left failure why printed taken =
      subst (λ (all : List (Item O)). AreCutShort tells (wanted_by all) left old new out last failure) (sym is)
      (missed_first tells (wanted_of item) (wanted_by rest) left old now new out last failure why printed kept taken)

  -- the files but those of the items are as they were
  pub item_left : KeepsBut [] (destinations (wanted_by rest)) now new → KeepsBut (destinations (wanted_by items)) [] old new
  item_left taken =
      subst (λ (all : List (Item O)). KeepsBut (destinations (wanted_by all)) [] old new) (sym is)
      (but_both item.destination (destinations (wanted_by rest)) [] old now new kept (but_files (destinations (wanted_by rest)) now new taken))

all_append : (P : Destination → Type 0) (front rest : List Destination) → AllByRecursion P front → AllByRecursion P rest → AllByRecursion P (front ++ rest)
all_append P [] rest all others = others
all_append P (first ∷ front) rest all others = (all.0, all_append P front rest all.1 others)

-- what was begun before left all but the parts as they were
pub from_before : {T : Type 0} (tells : Type 0) (wanted : List RequestedText) (left : Left) (old now new : Content) (out last : Option (List ℕ)) (result : Result T Failure)
    → KeepsBut [] (destinations wanted) old now → ComesOut tells wanted left now new out last result → ComesOut tells wanted left old new out last result
from_before tells wanted left old now new out last (Ok value) kept all =
    record { texts = all.texts; are_texts = all.are_texts; out = all.out; others = λ path files parts. all.others path files parts ∙ kept path tt (no_parts path (destinations wanted) files) }
from_before tells wanted left old now new out last (Err failure) kept cut =
    record {
      front = cut.front;
      missed = cut.missed;
      rest = cut.rest;
      split = cut.split;
      texts = cut.texts;
      are_texts = cut.are_texts;
      between = cut.between;
      out = cut.out;
      why = cut.why;
      kept = cut.kept;
      others = λ path files parts.
          cut.others path files parts
          ∙ kept path tt
          (subst (AllByRecursion (IsNoPart path)) (sym (destinations-append (cut.front ++ cut.missed ∷ []) cut.rest) ∙ ap destinations (append_assoc cut.front (cut.missed ∷ []) cut.rest ∙ sym cut.split))
          (all_append (IsNoPart path) _ _ (no_parts path (destinations (cut.front ++ cut.missed ∷ [])) files) parts));
    }
