-- The actions of the parts of a text.
use Rattle.std.proofs.Common.{◌≡◌, ◌∙◌, ℕ, ◌==◌, List, [], ◌∷◌, ◌++◌, refl, sym, ap, subst, append_assoc}
use Rattle.std.specs.List.{AllZip, slice_split}
use Rattle.gdb_packets.specs.Actions.{AreActions, IsAction}
use Rattle.gdb_packets.specs.declared.action.Action.{Action}

-- the parts of a text between its ;
abbrev pub parts_of : List ℕ → List (List ℕ)
parts_of text = slice_split (λ byte. byte == 59) text

-- The actions are those of the parts before the rest of a text.
pub record AreRead (text rest : List ℕ) (actions : List Action) : Type 0 where
  pub parts : List (List ℕ)
  pub read : AllZip IsAction parts actions
  pub whole : parts_of text ≡ parts ++ parts_of rest

pub none_read : (text : List ℕ) → AreRead text text []
none_read text = record { parts = []; read = tt; whole = refl }

zip_push : (parts : List (List ℕ)) (actions : List Action) (part : List ℕ) (action : Action) → AllZip IsAction parts actions → IsAction part action
    → AllZip IsAction (parts ++ part ∷ []) (actions ++ action ∷ [])
zip_push [] [] part action zips is = (is, tt)
zip_push [] (other ∷ actions) part action zips is = absurd zips
zip_push (other ∷ parts) [] part action zips is = absurd zips
zip_push (one ∷ parts) (other ∷ actions) part action zips is = (zips.0, zip_push parts actions part action zips.1 is)

pub one_read : (text rest part others : List ℕ) (actions : List Action) (action : Action) → AreRead text rest actions → parts_of rest ≡ part ∷ parts_of others → IsAction part action
    → AreRead text others (actions ++ action ∷ [])
one_read text rest part others actions action read splits is =
    record {
      parts = read.parts ++ part ∷ [];
      read = zip_push read.parts actions part action read.read is;
      whole = read.whole ∙ ap (λ (more : List (List ℕ)). read.parts ++ more) splits ∙ sym (append_assoc read.parts (part ∷ []) (parts_of others));
    }

-- the last part is one too
pub last_read : (text rest : List ℕ) (actions : List Action) (action : Action) → AreRead text rest actions → parts_of rest ≡ rest ∷ [] → IsAction rest action
    → AreActions text (actions ++ action ∷ [])
last_read text rest actions action read splits is =
    subst (λ (parts : List (List ℕ)). AllZip IsAction parts (actions ++ action ∷ [])) (sym (read.whole ∙ ap (λ (more : List (List ℕ)). read.parts ++ more) splits))
    (zip_push read.parts actions rest action read.read is)

lacks : (parts behind : List (List ℕ)) (part : List ℕ) (others : List Action) → ((action : Action) → IsAction part action → ⊥) → AllZip IsAction (parts ++ part ∷ behind) others → ⊥
lacks [] behind part [] none zips = zips
lacks [] behind part (action ∷ others) none zips = none action zips.0
lacks (one ∷ parts) behind part [] none zips = zips
lacks (one ∷ parts) behind part (action ∷ others) none zips = lacks parts behind part others none zips.1

-- a part is none, so that the text has no actions
pub not_read : (text rest part : List ℕ) (behind : List (List ℕ)) (actions : List Action) → AreRead text rest actions → parts_of rest ≡ part ∷ behind
    → ((action : Action) → IsAction part action → ⊥) → (others : List Action) → AreActions text others → ⊥
not_read text rest part behind actions read splits none others are =
    lacks read.parts behind part others none
    (subst (λ (parts : List (List ℕ)). AllZip IsAction parts others) (read.whole ∙ ap (λ (more : List (List ℕ)). read.parts ++ more) splits) are)
