-- What holds of each row that the parser made stays so over the words of a command, if no word is refused.
use Rattle.std.proofs.Common.{◌≡◌, ℕ, zero, suc, Bool, true, false, List, [], ◌∷◌, Option, Some, None, length, drop, is_some, refl}
use Rattle.std.specs.Prelude.{◌&&◌, IfSome, cond, encode_utf8, find, fold, if◌then◌else◌, slice_get}
use Rattle.std.specs.List.{AllByRecursion}
use Rattle.std.specs.Option.{option_map_or}
use Rattle.std.specs.Str.{bytes_eq, chars}
use Rattle.clap.specs.Faults.{bundle_fault, bundle_step_fault, default_fault, defaults_fault, flag_word_fault, flags_fault, long_fault, option_fault, other_fault, positional_fault, react_fault, settle_fault, short_fault, step_fault, stray_fault, turn_fault, use_fault, walk_fault, word_fault}
use Rattle.clap.specs.Kinds.{Kinds, or_else}
use Rattle.clap.specs.Lexer.{long_of, short_of}
use Rattle.clap.specs.Simple.{Shape}
use Rattle.clap.specs.Walk.{Held, Names, Outcome, Row, Rule, Step, Text, Waiting, Walk, after_flag, after_step, arg_by_id, arg_by_index, arg_by_long, arg_by_short, attached_value, bundle, bundle_met, bundle_step, done, flag_met, idle, is_pending, long_met, long_or_other, next, option, option_met, option_word, plain, plain_word, positional, reacted, refused, settled, settled_rows, short_met, short_or_plain, subcommand, subcommand_met, subcommand_or_other, takes_several, takes_values, to_positional, trailing, used, used_by_id, value, waits, walked, walked_from, with_default, word_met}
use Rattle.clap.specs.declared.error.kind.ErrorKind.TheVariants as kind

-- if a step and the next have no kind of error together, neither has one
pub first_none : (a b : Kinds) → or_else a b ≡ [] → a ≡ []
first_none [] b e = refl
first_none (k ∷ ks) b e = e

pub then_none : (a b : Kinds) → or_else a b ≡ [] → b ≡ []
then_none [] b e = e
then_none (k ∷ ks) b e = cc

-- what holds of each element holds of the one that is found
pub holds_of_found : {X : Type 0} (Q : X → Type 0) (p : X → Bool) (xs : List X) → AllByRecursion Q xs → IfSome (find p xs) Q
holds_of_found Q p [] all = tt
holds_of_found Q p (x ∷ xs) all = go (p x) (holds_of_found Q p xs all.1)
  where
    go : (t : Bool) → IfSome (find p xs) Q → IfSome (cond t (Some x) (find p xs)) Q
    go true rest = all.0
    go false rest = rest

-- a use of the argument that passes keeps what holds of each row
abbrev pub Keeps : (Row → Type 0) → Bool → Rule → Type 0
Keeps P again a = (values : List Text) (rows : List Row) → use_fault again a values rows ≡ [] → AllByRecursion P rows → AllByRecursion P (used a values rows)

-- and so does its default
abbrev pub KeepsDefault : (Row → Type 0) → Rule → Type 0
KeepsDefault P a = (rows : List Row) → default_fault rows a ≡ [] → AllByRecursion P rows → AllByRecursion P (with_default rows a)

module _ (P : Row → Type 0) (c : List Rule) (again : Bool) (keeps : AllByRecursion (Keeps P again) c) where
  -- ---- one use of an argument

  found_keeps : (p : Rule → Bool) → IfSome (find p c) (Keeps P again)
  found_keeps p = holds_of_found (Keeps P again) p c keeps

  used_keeps : (a : Option Rule) (values : List Text) (rows : List Row) → IfSome a (Keeps P again)
      → option_map_or (λ a. use_fault again a values rows) a [] ≡ [] → AllByRecursion P rows → AllByRecursion P (used_by_id a values rows)
  used_keeps None values rows keep e held = held
  used_keeps (Some a) values rows keep e held = keep values rows e held

  settled_keeps : (rows : List Row) (pending : Option (Text × List Text))
      → option_map_or (λ p. option_map_or (λ a. use_fault again a p.1 rows) (arg_by_id c p.0) []) pending [] ≡ []
      → AllByRecursion P rows → AllByRecursion P (settled_rows c pending rows)
  settled_keeps rows None e held = held
  settled_keeps rows (Some p) e held = used_keeps (arg_by_id c p.0) p.1 rows (found_keeps (λ a. bytes_eq a.id p.0)) e held

  pub settle_keeps : (h : Held) → settle_fault c again h ≡ [] → AllByRecursion P h.rows → AllByRecursion P (settled c h).rows
  settle_keeps h e held = settled_keeps h.rows h.pending e held

  react_keeps : (a : Rule) (values : List Text) (h : Held) → Keeps P again a → react_fault c again a values h ≡ [] → AllByRecursion P h.rows
      → AllByRecursion P (reacted c a values h).rows
  react_keeps a values h keep e held =
      keep values (settled c h).rows (then_none (settle_fault c again h) (use_fault again a values (settled c h).rows) e)
      (settle_keeps h (first_none (settle_fault c again h) (use_fault again a values (settled c h).rows) e) held)

  -- ---- a word that is a flag

  option_keeps : (a : Rule) (v : Option Text) (h : Held) → Keeps P again a → option_fault c again a v h ≡ [] → AllByRecursion P h.rows
      → AllByRecursion P (option_met c a v h).0.rows
  option_keeps a (Some v) h keep e held = react_keeps a (v ∷ []) h keep e held
  option_keeps a None h keep e held = settle_keeps h e held

  flag_keeps : (a : Rule) (v : Option Text) (h : Held) → Keeps P again a
      → (if is_some v then kind.TooManyValues ∷ [] else react_fault c again a [] h) ≡ [] → AllByRecursion P h.rows
      → AllByRecursion P (flag_met c a v h).0.rows
  flag_keeps a (Some v) h keep e held = held
  flag_keeps a None h keep e held = react_keeps a [] h keep e held

  long_keeps : (found : Option Rule) (v : Option Text) (h : Held) → IfSome found (Keeps P again) → long_fault c again found v h ≡ []
      → AllByRecursion P h.rows → AllByRecursion P (long_met c found v h).0.rows
  long_keeps None v h keep e held = held
  long_keeps (Some a) v h keep e held = go (takes_values a) e
    where
      go : (t : Bool) → (if t then option_fault c again a v h else (if is_some v then kind.TooManyValues ∷ [] else react_fault c again a [] h)) ≡ []
          → AllByRecursion P (if t then option_met c a v h else flag_met c a v h).0.rows
      go true e = option_keeps a v h keep e held
      go false e = flag_keeps a v h keep e held

  short_keeps : (found : Option Rule) (rest : Text) (h : Held) (met : Held → Held × Outcome) (fault : Held → Kinds) → IfSome found (Keeps P again)
      → ((h : Held) → fault h ≡ [] → AllByRecursion P h.rows → AllByRecursion P (met h).0.rows)
      → short_fault c again found rest h fault ≡ [] → AllByRecursion P h.rows → AllByRecursion P (short_met c found rest h met).0.rows
  short_keeps None rest h met fault keep after e held = held
  short_keeps (Some a) rest h met fault keep after e held = go (takes_values a) e
    where
      go : (t : Bool)
          → (if t then option_fault c again a (attached_value rest) h else or_else (react_fault c again a [] h) (fault (reacted c a [] h))) ≡ []
          → AllByRecursion P (if t then option_met c a (attached_value rest) h else met (reacted c a [] h)).0.rows
      go true e = option_keeps a (attached_value rest) h keep e held
      go false e =
          after (reacted c a [] h) (then_none (react_fault c again a [] h) (fault (reacted c a [] h)) e)
          (react_keeps a [] h keep (first_none (react_fault c again a [] h) (fault (reacted c a [] h)) e) held)

  -- the characters of a bundle, of which at most k are read
  abbrev BundleKeeps : ℕ → Type 0
  BundleKeeps k = (flags : Text) (skip : ℕ) (so_far : Outcome) (h : Held) → flags_fault c again k flags skip h ≡ [] → AllByRecursion P h.rows
      → AllByRecursion P (bundle_met c k flags skip so_far h).0.rows

  character_keeps : (k : ℕ) → BundleKeeps k → (first : Option ℕ) (flags : Text) (skip : ℕ) (so_far : Outcome) (h : Held)
      → bundle_step_fault c again first flags skip h (flags_fault c again k) ≡ [] → AllByRecursion P h.rows
      → AllByRecursion P (bundle_step c first flags skip so_far h (bundle_met c k)).0.rows
  character_keeps k after None flags skip so_far h e held = held
  character_keeps k after (Some x) flags zero so_far h e held =
      let rest = drop (length (encode_utf8 x)) flags in
      short_keeps (arg_by_short c x) rest h (bundle_met c k rest 0 done) (flags_fault c again k rest 0)
      (holds_of_found (Keeps P again) _ c keeps) (after rest 0 done) e held
  character_keeps k after (Some x) flags (suc skip) so_far h e held = after (drop (length (encode_utf8 x)) flags) skip so_far h e held

  bundle_keeps : (k : ℕ) → BundleKeeps k
  unfolding flags_fault bundle_met
  bundle_keeps zero flags skip so_far h e held = held
  bundle_keeps (suc k) flags skip so_far h e held = character_keeps k (bundle_keeps k) (slice_get (chars flags) 0) flags skip so_far h e held

  plain_keeps : (waiting : Waiting) (word : Text) (h : Held) → AllByRecursion P h.rows → AllByRecursion P (plain_word c waiting word h).0.rows
  plain_keeps idle word h held = held
  plain_keeps positional word h held = held
  plain_keeps (option id) word h held = go (arg_by_id c id)
    where
      go : (a : Option Rule) → AllByRecursion P (option_word a id word h).0.rows
      go None = held
      go (Some a) = held

  after_keeps : (waiting : Waiting) (word : Text) (h : Held) (met : Outcome) → AllByRecursion P h.rows
      → AllByRecursion P (after_flag c waiting word h met).0.rows
  after_keeps waiting word h done held = held
  after_keeps waiting word h (waits id) held = held
  after_keeps waiting word h plain held = plain_keeps waiting word h held
  after_keeps waiting word h refused held = plain_keeps waiting word h held

  short_word_keeps : (waiting : Waiting) (word : Text) (flags : Option Text) (h : Held)
      → option_map_or (λ flags. bundle_fault c again flags h) flags [] ≡ [] → AllByRecursion P h.rows
      → AllByRecursion P (short_or_plain c waiting word flags h).0.rows
  short_word_keeps waiting word None h e held = plain_keeps waiting word h held
  short_word_keeps waiting word (Some flags) h e held =
      after_keeps waiting word (bundle c flags h).0 (bundle c flags h).1
      (bundle_keeps (length flags) flags h.skip plain (record h { skip = 0 }) e held)

  flag_word_keeps : (waiting : Waiting) (word : Text) (long : Option (Text × Option Text)) (h : Held)
      → flag_word_fault c again long word h ≡ [] → AllByRecursion P h.rows → AllByRecursion P (long_or_other c waiting word long h).0.rows
  flag_word_keeps waiting word None h e held = short_word_keeps waiting word (short_of word) h e held
  flag_word_keeps waiting word (Some p) h e held =
      after_keeps waiting word (long_met c (arg_by_long c p.0) p.1 h).0 (long_met c (arg_by_long c p.0) p.1 h).1
      (long_keeps (arg_by_long c p.0) p.1 h (holds_of_found (Keeps P again) _ c keeps) e held)

-- ---- the walk over the words

module _ (P : Row → Type 0) (s : Shape) (keeps : AllByRecursion (Keeps P s.args_override_self) s.rules) where
  other_keeps : (met : Option Text) (waiting : Waiting) (position : ℕ) (word : Text) (h : Held) → other_fault s met word h ≡ []
      → AllByRecursion P h.rows → AllByRecursion P (subcommand_or_other s.rules met waiting position word h).0.rows
  other_keeps (Some name) waiting position word h e held = held
  other_keeps None waiting position word h e held = go (bytes_eq word (45 ∷ 45 ∷ [])) e
    where
      go : (t : Bool) → (if t then [] else flag_word_fault s.rules s.args_override_self (long_of word) word h) ≡ []
          → AllByRecursion P (if t then (h, trailing position) else long_or_other s.rules waiting word (long_of word) h).0.rows
      go true e = held
      go false e = flag_word_keeps P s.rules s.args_override_self keeps waiting word (long_of word) h e held

  word_keeps : (names : Names) (w : Walk) (word : Text) → word_fault s names w.is_trailing w.waiting word w.held ≡ []
      → AllByRecursion P w.held.rows → AllByRecursion P (word_met s.rules names w.is_trailing w.waiting w.position word w.held).0.rows
  word_keeps names w word e held = go w.is_trailing e
    where
      go : (t : Bool) → (if t then [] else other_fault s (subcommand_met names w.waiting word) word w.held) ≡ []
          → AllByRecursion P (if t then (w.held, value)
          else subcommand_or_other s.rules (subcommand_met names w.waiting word) w.waiting w.position word w.held).0.rows
      go true e = held
      go false e = other_keeps (subcommand_met names w.waiting word) w.waiting w.position word w.held e held

  placed_keeps : (a : Option Rule) (word : Text) (w : Walk) (h : Held)
      → option_map_or (λ a. positional_fault s.rules s.args_override_self a h) a (stray_fault s) ≡ [] → AllByRecursion P h.rows
      → AllByRecursion P (to_positional s.rules a word w h).held.rows
  placed_keeps None word w h e held = held
  placed_keeps (Some a) word w h e held = go (is_pending a h.pending && takes_several a) e
    where
      go : (t : Bool) → (if t then [] else settle_fault s.rules s.args_override_self h) ≡ []
          → AllByRecursion P (if t then h else settled s.rules h).rows
      go true e = held
      go false e = settle_keeps P s.rules s.args_override_self keeps h e held

  step_keeps : (word : Text) (w : Walk) (h : Held) (step : Step) → step_fault s w.position h step ≡ [] → AllByRecursion P h.rows
      → AllByRecursion P (after_step s.rules word w h step).held.rows
  step_keeps word w h (next waiting) e held = held
  step_keeps word w h (trailing position) e held = held
  step_keeps word w h (subcommand name) e held = held
  step_keeps word w h value e held = placed_keeps (arg_by_index s.rules w.position) word w h e held

  abbrev met_at : Names → Walk → Text → Held × Step
  met_at names w word = word_met s.rules names w.is_trailing w.waiting w.position word w.held

  met_keeps : (names : Names) (w : Walk) (word : Text) (stop : Option (Text × List Text))
      → (if is_some stop then [] else or_else (word_fault s names w.is_trailing w.waiting word w.held)
      (step_fault s w.position (met_at names w word).0 (met_at names w word).1)) ≡ []
      → AllByRecursion P w.held.rows → AllByRecursion P (walked_from s.rules names stop w word).held.rows
  met_keeps names w word (Some p) e held = held
  met_keeps names w word None e held =
      let met = met_at names w word in
      let first = word_fault s names w.is_trailing w.waiting word w.held in
      let second = step_fault s w.position met.0 met.1 in
      step_keeps word w met.0 met.1 (then_none first second e) (word_keeps names w word (first_none first second e) held)

  turn_keeps : (names : Names) (w : Walk) (word : Text) → turn_fault s names w word ≡ [] → AllByRecursion P w.held.rows
      → AllByRecursion P (walked s.rules names w word).held.rows
  unfolding walked
  turn_keeps names w word e held = met_keeps names w word w.stopped e held

  pub walk_keeps : (names : Names) (w : Walk) (words : List Text) → walk_fault s names w words ≡ [] → AllByRecursion P w.held.rows
      → AllByRecursion P (fold (walked s.rules names) w words).held.rows
  unfolding walk_fault
  walk_keeps names w [] e held = held
  walk_keeps names w (word ∷ rest) e held =
      let turn = turn_fault s names w word in
      let after = walk_fault s names (walked s.rules names w word) rest in
      walk_keeps names (walked s.rules names w word) rest (then_none turn after e) (turn_keeps names w word (first_none turn after e) held)

-- ---- after the walk

pub defaults_keep : (P : Row → Type 0) (c : List Rule) (rows : List Row) → AllByRecursion (KeepsDefault P) c → defaults_fault rows c ≡ []
    → AllByRecursion P rows → AllByRecursion P (fold with_default rows c)
unfolding defaults_fault
defaults_keep P [] rows keep e held = held
defaults_keep P (a ∷ c) rows keep e held =
    let first = default_fault rows a in
    let rest = defaults_fault (with_default rows a) c in
    defaults_keep P c (with_default rows a) keep.1 (then_none first rest e) (keep.0 rows (first_none first rest e) held)
