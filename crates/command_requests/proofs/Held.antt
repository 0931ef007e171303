-- What the rows are that the parser makes of a command's words, if no word is refused.
use Rattle.std.proofs.Common.{◌≡◌, ◌∙◌, ◌⊎◌, Bool, true, false, not, List, [], ◌∷◌, ◌++◌, Option, Some, None, ap, arith, codes, inl, inr, length, refl, subst, sym}
use Rattle.std.specs.Prelude.{◌&&◌, ◌||◌, IfSome, cond, find, fold, if◌then◌else◌}
use Rattle.std.specs.List.{AllByRecursion, list_any}
use Rattle.std.specs.Option.{IsSomeAnd, option_map_or}
use Rattle.std.specs.Str.{bytes_eq}
use Rattle.std.proofs.lemmas.Bool.{ne_eqb}
use Rattle.std.proofs.lemmas.List.{append-nil}
use Rattle.std.proofs.lemmas.List.Folds.{list_any-append}
use Rattle.std.proofs.lemmas.Slice.Eq.{bytes_eq-Decides}
use Rattle.clap.specs.Facts.{explicit_source, parser_of_value, unwrap_or_range}
use Rattle.clap.specs.Faults.{action_fault, check_fault, defaults_fault, given_default_fault, level_fault, set_fault, settle_fault, use_fault, values_fault, walk_fault}
use Rattle.clap.specs.Kinds.{Kinds, check_kinds, or_else, range_kinds, request_kinds, value_kinds, values_kinds}
use Rattle.clap.specs.Simple.{Shape}
use Rattle.clap.specs.Takes.{is_given}
use Rattle.clap.specs.ValueTests.{accepts}
use Rattle.clap.specs.Values.{refused_kind}
use Rattle.clap.specs.Walk.{Held, Row, Rule, Text, action_of, arg_by_id, at_row, default_rows, has_row, is_empty, more_values, most_values, nothing_held, reading_by, rows_after, settled, used, walk, walk_from, with_default, with_values, without}
use Rattle.clap.specs.declared.builder.action.ArgAction.TheVariants.{Help, Set, SetTrue}
use Rattle.clap.specs.declared.builder.value_parser.ValueParser.{ValueParser}
use Rattle.clap.specs.declared.error.kind.ErrorKind.TheVariants as kind
use Rattle.clap.specs.declared.parser.matches.ValueSource.{ValueSource}
use Rattle.clap.specs.declared.parser.matches.ValueSource.TheVariants.{CommandLine, DefaultValue}
use Rattle.command_requests.proofs.Kept.{Keeps, KeepsDefault, defaults_keep, first_none, holds_of_found, settle_keeps, then_none, walk_keeps}

-- the row is of this argument: its first value passed the argument's parser
pub record IsRowOf (a : Rule) (r : Row) : Type 0 where
  pub first : Text
  pub rest : List Text
  pub values_are : r.values ≡ first ∷ rest
  pub passed : accepts a.ignore_case (parser_of_value a.parser) first ≡ true
  pub reading_is : r.reading ≡ reading_by a

-- the row is of the argument that has its id
abbrev pub IsOf : List Rule → Row → Type 0
IsOf c r = IsSomeAnd (arg_by_id c r.id) (λ a. IsRowOf a r)

-- an option or a placed argument of one value
abbrev pub TakesOne : Rule → Type 0
TakesOne a = (a.action ≡ Some Set) × (a.range ≡ Some (record { start_inclusive = 1; end_inclusive = 1 }))

-- an option without a value
abbrev pub IsFlag : Rule → Type 0
IsFlag a = (a.action ≡ Some SetTrue) × (a.missing ≡ codes "true" ∷ [])

-- the argument is the only one with its id, and takes one value or none, or asks for help
abbrev pub IsSingle : List Rule → Rule → Type 0
IsSingle c a = (arg_by_id c a.id ≡ Some a) × (TakesOne a ⊎ (IsFlag a ⊎ (a.action ≡ Some Help)))

-- ---- rows that change

same_text : (t : Text) → bytes_eq t t ≡ true
same_text t = (bytes_eq-Decides t t).1 refl

not_empty : {X : Type 0} (x : X) (xs : List X) → is_empty (x ∷ xs) ≡ false
not_empty x xs = ne_eqb _ _ (λ e. omega arith)

-- if no row has the id, the new row is the last
added_last : (id : Text) (change : Row → List Row) (missing rows : List Row) → has_row id rows ≡ false → at_row id change missing rows ≡ rows ++ missing
added_last id change missing [] none = refl
added_last id change missing (r ∷ rs) none = go (bytes_eq r.id id) none (added_last id change missing rs)
  where
    go : (t : Bool) → (t || has_row id rs) ≡ false → (has_row id rs ≡ false → at_row id change missing rs ≡ rs ++ missing)
        → (if t then change r ++ rs else r ∷ at_row id change missing rs) ≡ r ∷ rs ++ missing
    go true none rest = cc
    go false none rest = ap (λ l. r ∷ l) (rest none)

all_of_both : (P : Row → Type 0) (xs ys : List Row) → AllByRecursion P xs → AllByRecursion P ys → AllByRecursion P (xs ++ ys)
all_of_both P [] ys all more = more
all_of_both P (x ∷ xs) ys all more = (all.0, all_of_both P xs ys all.1 more)

-- a value that makes no kind of error is accepted
accepted : (ignore_case : Bool) (parser : ValueParser) (v : Text) (vs : List Text) → values_kinds ignore_case parser (v ∷ vs) ≡ []
    → accepts ignore_case parser v ≡ true
accepted ignore_case parser v vs e =
    go (accepts ignore_case parser v) (first_none (value_kinds ignore_case parser v) (values_kinds ignore_case parser vs) e)
  where
    go : (t : Bool) → (if t then [] else refused_kind parser ∷ []) ≡ [] → t ≡ true
    go true e = refl
    go false e = cc

module _ (c : List Rule) (a : Rule) (single : IsSingle c a) where
  -- a new row of the argument, after those that are there
  row_added : (source : ValueSource) (v : Text) (vs : List Text) (rows : List Row) → values_fault a (v ∷ vs) ≡ [] → has_row a.id rows ≡ false
      → AllByRecursion (IsOf c) rows → AllByRecursion (IsOf c) (with_values a.id (reading_by a) source (v ∷ vs) rows)
  row_added source v vs rows e none held =
      let row : Row = record { id = a.id; values = v ∷ vs; count = None; source = Some source; reading = reading_by a } in
      let is : IsRowOf a row = record {
        first = v;
        rest = vs;
        values_are = refl;
        passed = accepted a.ignore_case (parser_of_value a.parser) v vs e;
        reading_is = refl;
      } in
      let of : IsOf c row = rw single.0 is in
      rw (added_last a.id (more_values source (v ∷ vs)) (row ∷ []) rows none) (all_of_both (IsOf c) rows (row ∷ []) held (of, tt))

  -- values that the words give, in place of those that were there
  given_keeps : (v : Text) (vs : List Text) (rows : List Row) → set_fault false a (v ∷ vs) rows ≡ [] → AllByRecursion (IsOf c) rows
      → AllByRecursion (IsOf c) (with_values a.id (reading_by a) CommandLine (v ∷ vs) (without a.id rows))
  given_keeps v vs rows e held = go (has_row a.id rows) refl e
    where
      go : (t : Bool) → has_row a.id rows ≡ t → or_else (if t && not false then kind.ArgumentConflict ∷ [] else []) (values_fault a (v ∷ vs)) ≡ []
          → AllByRecursion (IsOf c) (with_values a.id (reading_by a) CommandLine (v ∷ vs) (without a.id rows))
      go true none e = cc
      go false none e =
          let same : without a.id rows ≡ rows = added_last a.id (λ _. []) [] rows none ∙ append-nil rows in
          rw same (row_added CommandLine v vs rows e none held)

  set_keeps : (values : List Text) (rows : List Row) → TakesOne a → use_fault false a values rows ≡ [] → AllByRecursion (IsOf c) rows
      → AllByRecursion (IsOf c) (used a values rows)
  set_keeps [] rows takes e held =
      let bad : kind.InvalidValue ∷ [] ≡ [] = rw takes.1 at e in
      cc
  set_keeps (v ∷ vs) rows takes e held =
      let ranging = range_kinds (unwrap_or_range a.range).start_inclusive (most_values a) (length (v ∷ vs)) in
      let using : action_fault (action_of a) false a (v ∷ vs) rows ≡ [] = then_none ranging (action_fault (action_of a) false a (v ∷ vs) rows) e in
      rw takes.0 (given_keeps v vs rows (rw takes.0 at using) held)

  flag_keeps : (values : List Text) (rows : List Row) → IsFlag a → use_fault false a values rows ≡ [] → AllByRecursion (IsOf c) rows
      → AllByRecursion (IsOf c) (used a values rows)
  flag_keeps [] rows flag e held =
      let ranging = range_kinds (unwrap_or_range a.range).start_inclusive (most_values a) 0 in
      let using : action_fault (action_of a) false a a.missing rows ≡ [] = then_none ranging (action_fault (action_of a) false a a.missing rows) e in
      rw (flag.0, flag.1) (given_keeps (codes "true") [] rows (rw (flag.0, flag.1) at using) held)
  flag_keeps (v ∷ vs) rows flag e held =
      let ranging = range_kinds (unwrap_or_range a.range).start_inclusive (most_values a) (length (v ∷ vs)) in
      let using : action_fault (action_of a) false a (v ∷ vs) rows ≡ [] = then_none ranging (action_fault (action_of a) false a (v ∷ vs) rows) e in
      rw flag.0 (given_keeps v vs rows (rw flag.0 at using) held)

  help_keeps : (values : List Text) (rows : List Row) → a.action ≡ Some Help → AllByRecursion (IsOf c) rows
      → AllByRecursion (IsOf c) (used a values rows)
  help_keeps values rows help held = rw help held

  pub keeps_rows : Keeps (IsOf c) false a
  keeps_rows values rows e held = elim single.1 [
    | inl takes ↦ set_keeps values rows takes e held
    | inr (inl flag) ↦ flag_keeps values rows flag e held
    | inr (inr help) ↦ help_keeps values rows help held
  ]

  pub keeps_default : KeepsDefault (IsOf c) a
  keeps_default rows e held = go (has_row a.id rows) refl e
    where
      given : (defaults : List Text) → has_row a.id rows ≡ false
          → (if is_empty defaults then [] else given_default_fault a defaults) ≡ []
          → AllByRecursion (IsOf c) (default_rows a.id (reading_by a) defaults rows)
      given [] none e = held
      given (v ∷ vs) none e =
          let values : given_default_fault a (v ∷ vs) ≡ [] = rw (not_empty v vs) at e in
          row_added DefaultValue v vs rows (then_none (request_kinds (action_of a)) (values_fault a (v ∷ vs)) values) none held

      go : (t : Bool) → has_row a.id rows ≡ t → (if t || is_empty a.defaults then [] else given_default_fault a a.defaults) ≡ []
          → AllByRecursion (IsOf c) (if t then rows else default_rows a.id (reading_by a) a.defaults rows)
      go true none e = held
      go false none e = given a.defaults none e

-- ---- rows that are there

-- a default adds rows at the end, and one of its argument if the argument has a default
default_adds : (rows : List Row) (a : Rule)
    → (more : List Row) × (with_default rows a ≡ rows ++ more) × (is_empty a.defaults ≡ false → has_row a.id (rows ++ more) ≡ true)
default_adds rows a = go (has_row a.id rows) refl
  where
    given : (defaults : List Text) → has_row a.id rows ≡ false
        → (more : List Row) × (default_rows a.id (reading_by a) defaults rows ≡ rows ++ more) × (is_empty defaults ≡ false → has_row a.id (rows ++ more) ≡ true)
    given [] none = ([], sym (append-nil rows), λ e. cc)
    given (v ∷ vs) none =
        let row : Row = record { id = a.id; values = v ∷ vs; count = None; source = Some DefaultValue; reading = reading_by a } in (
          row ∷ [],
          added_last a.id (more_values DefaultValue (v ∷ vs)) (row ∷ []) rows none,
          λ e. list_any-append (λ r. bytes_eq r.id a.id) rows (row ∷ []) ∙ rw (none, same_text a.id) refl,
        )

    go : (t : Bool) → has_row a.id rows ≡ t
        → (more : List Row) × ((if t then rows else default_rows a.id (reading_by a) a.defaults rows) ≡ rows ++ more)
        × (is_empty a.defaults ≡ false → has_row a.id (rows ++ more) ≡ true)
    go true there = ([], sym (append-nil rows), λ e. rw (append-nil rows) there)
    go false there = given a.defaults there

-- a row that is there stays
stays : (id : Text) (c : List Rule) (rows : List Row) → has_row id rows ≡ true → has_row id (fold with_default rows c) ≡ true
stays id [] rows there = there
stays id (a ∷ c) rows there =
    let added = default_adds rows a in
    stays id c (with_default rows a) (rw added.1 (list_any-append (λ r. bytes_eq r.id id) rows added.0 ∙ rw there refl))

-- each argument with a default has a row in the end
defaults_there : (c : List Rule) (rows : List Row) → AllByRecursion (λ a. is_empty a.defaults ≡ false → has_row a.id (fold with_default rows c) ≡ true) c
defaults_there [] rows = tt
defaults_there (a ∷ c) rows =
    let added = default_adds rows a in (
      λ e. stays a.id c (with_default rows a) (rw added.1 (added.2 e)),
      defaults_there c (with_default rows a),
    )

-- a row that the words made is there
given_there : (id : Text) (rows : List Row) → is_given id rows ≡ true → has_row id rows ≡ true
given_there id [] e = e
given_there id (r ∷ rs) e = go (bytes_eq r.id id) e (given_there id rs)
  where
    go : (t : Bool) → option_map_or (λ (r : Row). explicit_source r.source) (cond t (Some r) (find (λ r. bytes_eq r.id id) rs)) false ≡ true
        → (is_given id rs ≡ true → has_row id rs ≡ true) → (t || has_row id rs) ≡ true
    go true e rest = refl
    go false e rest = rest e

-- the row that is there is the argument's
row_there : (c : List Rule) (a : Rule) (rows : List Row) → arg_by_id c a.id ≡ Some a → AllByRecursion (IsOf c) rows → has_row a.id rows ≡ true
    → IsSomeAnd (find (λ r. bytes_eq r.id a.id) rows) (IsRowOf a)
row_there c a [] only held there = cc
row_there c a (r ∷ rs) only held there = go (bytes_eq r.id a.id) refl there (row_there c a rs only held.1)
  where
    go : (t : Bool) → bytes_eq r.id a.id ≡ t → (t || has_row a.id rs) ≡ true
        → (has_row a.id rs ≡ true → IsSomeAnd (find (λ r. bytes_eq r.id a.id) rs) (IsRowOf a))
        → IsSomeAnd (cond t (Some r) (find (λ r. bytes_eq r.id a.id) rs)) (IsRowOf a)
    go true same there rest =
        let id : r.id ≡ a.id = (bytes_eq-Decides r.id a.id).0 same in
        subst (λ (o : Option Rule). IsSomeAnd o (λ a. IsRowOf a r)) (ap (arg_by_id c) id ∙ only) held.0
    go false same there rest = rest there

-- ---- a command

-- each argument takes one value or none, or asks for help, and may be given once
pub record IsPlain (s : Shape) : Type 0 where
  pub single : AllByRecursion (IsSingle s.rules) s.rules
  pub again : s.args_override_self ≡ false
  pub negates : s.subcommand_negates_reqs ≡ false

each_of : {X : Type 0} (P Q : X → Type 0) (xs : List X) → ((x : X) → P x → Q x) → AllByRecursion P xs → AllByRecursion Q xs
each_of P Q [] step all = tt
each_of P Q (x ∷ xs) step all = (step x all.0, each_of P Q xs step all.1)

pub no_check_fails : (help subcommand argument : Bool) → check_kinds help subcommand argument ≡ [] → (subcommand ≡ false) × (argument ≡ false)
no_check_fails true subcommand argument e = cc
no_check_fails false true argument e = cc
no_check_fails false false true e = cc
no_check_fails false false false e = (refl, refl)

none_fits : (p q : Rule → Bool) (c : List Rule) (a : Rule) → list_any p c ≡ false → find q c ≡ Some a → p a ≡ false
none_fits p q [] a none found = cc
none_fits p q (x ∷ c) a none found = go (p x) (q x) refl none found (none_fits p q c a)
  where
    go : (t u : Bool) → p x ≡ t → (t || list_any p c) ≡ false → cond u (Some x) (find q c) ≡ Some a
        → (list_any p c ≡ false → find q c ≡ Some a → p a ≡ false) → p a ≡ false
    go true u is none found rest = cc
    go false false is none found rest = rest none found
    go false true is none found rest = grind (arith)

module _ (s : Shape) (is : IsPlain s) (words : List Text) (passed : level_fault s [] nothing_held words false [] ≡ []) where
  abbrev last : Held
  last = (walk s.rules [] nothing_held words).held

  abbrev settling : Kinds
  settling = settle_fault s.rules s.args_override_self last

  abbrev filling : Kinds
  filling = defaults_fault (settled s.rules last).rows s.rules

  abbrev checking : Kinds
  checking = check_fault s (rows_after s.rules [] words) false

  no_walk_fault : walk_fault s [] (walk_from nothing_held) words ≡ []
  no_walk_fault = first_none (walk_fault s [] (walk_from nothing_held) words) (or_else settling (or_else filling checking)) passed

  no_later_fault : or_else settling (or_else filling checking) ≡ []
  no_later_fault = then_none (walk_fault s [] (walk_from nothing_held) words) (or_else settling (or_else filling checking)) passed

  no_last_fault : or_else filling checking ≡ []
  no_last_fault = then_none settling (or_else filling checking) no_later_fault

  each_keeps : AllByRecursion (Keeps (IsOf s.rules) s.args_override_self) s.rules
  each_keeps = rw is.again (each_of (IsSingle s.rules) (Keeps (IsOf s.rules) false) s.rules (keeps_rows s.rules) is.single)

  all_held : AllByRecursion (IsOf s.rules) (rows_after s.rules [] words)
  all_held =
      let walked = walk_keeps (IsOf s.rules) s each_keeps [] (walk_from nothing_held) words no_walk_fault tt in
      let used = settle_keeps (IsOf s.rules) s.rules s.args_override_self each_keeps last (first_none settling (or_else filling checking) no_later_fault) walked in
      defaults_keep (IsOf s.rules) s.rules (settled s.rules last).rows
      (each_of (IsSingle s.rules) (KeepsDefault (IsOf s.rules)) s.rules (keeps_default s.rules) is.single)
      (first_none filling checking no_last_fault) used

  required_there : (a : Rule) → arg_by_id s.rules a.id ≡ Some a → a.required ≡ true → has_row a.id (rows_after s.rules [] words) ≡ true
  required_there a only required =
      let rows = rows_after s.rules [] words in
      let none : list_any (λ a. a.required && not (is_given a.id rows)) s.rules ≡ false =
      rw is.negates at (no_check_fails _ _ _ (then_none filling checking no_last_fault)).1 in
      given_there a.id rows (go a.required (is_given a.id rows) required (none_fits _ (λ x. bytes_eq x.id a.id) s.rules a none only))
    where
      go : (t u : Bool) → t ≡ true → (t && not u) ≡ false → u ≡ true
      go true true required e = refl
      go true false required e = cc
      go false u required e = cc

  -- an argument that is required or has a default has a row, whose first value passed its parser
  pub is_there : (a : Rule) → arg_by_id s.rules a.id ≡ Some a → ((a.required ≡ true) ⊎ (is_empty a.defaults ≡ false))
      → IsSomeAnd (find (λ r. bytes_eq r.id a.id) (rows_after s.rules [] words)) (IsRowOf a)
  is_there a only wanted = row_there s.rules a (rows_after s.rules [] words) only all_held (elim wanted [
    | inl required ↦ required_there a only required
    | inr given ↦ default_there a only given
  ])
    where
      default_there : (a : Rule) → arg_by_id s.rules a.id ≡ Some a → is_empty a.defaults ≡ false → has_row a.id (rows_after s.rules [] words) ≡ true
      default_there a only given =
          let all = defaults_there s.rules (settled s.rules last).rows in
          let one : IfSome (Some a) (λ a. is_empty a.defaults ≡ false → has_row a.id (rows_after s.rules [] words) ≡ true) =
          subst (λ (o : Option Rule). IfSome o (λ a. is_empty a.defaults ≡ false → has_row a.id (rows_after s.rules [] words) ≡ true)) only
          (holds_of_found (λ a. is_empty a.defaults ≡ false → has_row a.id (rows_after s.rules [] words) ≡ true) _ s.rules all) in
          one given
