-- Lines of schedules, and where they end.
use Rattle.std.proofs.Common.{◌≡◌, ◌≢◌, ◌∙◌, ℕ, suc, ◌+◌, ◌<◌, Bool, true, false, Some, None, List, [], ◌∷◌, ◌++◌, length, take, drop, get_or, refl, ap, sym, subst, arith, add-one, length-append, append_assoc}
use Rattle.std.specs.Prelude.{◌-◌, ◌==◌, ◌/◌, ◌%◌, codes, nat_lt, if◌then◌else◌, position}
use Rattle.std.specs.List.{position_or_len}
use Rattle.std.proofs.lemmas.Bool.Decides.{nat_tests}
use Rattle.std.proofs.lemmas.List.{length-drop, take-append-drop}
use Rattle.std.proofs.lemmas.List.Quantifiers.{position-Some}
use Rattle.std.proofs.Math.Seq.{drop-cons, take-append_seam, take-length}
use Rattle.schedule.specs.declared.event.Event.{Event}
use Rattle.schedule.specs.declared.event.Event.TheVariants.{Draw, Step, Note, Skip, Post, Hold, Turn}
use Rattle.schedule_text.specs.Text.{decimal, text_of, words_of}

-- no byte is a newline
abbrev IsOneLine : List ℕ → Type 0
IsOneLine [] = Unit {0}
IsOneLine (byte ∷ bytes) = (byte ≢ 10) × IsOneLine bytes

one_line_more : (xs ys : List ℕ) → IsOneLine xs → IsOneLine ys → IsOneLine (xs ++ ys)
one_line_more [] ys one other = other
one_line_more (x ∷ xs) ys one other = (one.0, one_line_more xs ys one.1 other)

digits_by : (below : Bool) (number : ℕ) → IsOneLine (if below then (48 + number) ∷ [] else (48 + number / 10) ∷ (48 + number % 10) ∷ [])
digits_by true number = (λ e. omega (arith, e), tt)
digits_by false number = (λ e. omega (arith, e), (λ e. omega (arith, e), tt))

digits : (number : ℕ) → IsOneLine (decimal number)
digits number = digits_by (nat_lt number 10) number

words_line : (event : Event) → IsOneLine (words_of event)
unfolding words_of
words_line (Draw worker) = one_line_more (codes "draw ") (decimal worker) (λ e. omega (arith, e), (λ e. omega (arith, e), (λ e. omega (arith, e), (λ e. omega (arith, e), (λ e. omega (arith, e), tt))))) (digits worker)
words_line (Step worker) = one_line_more (codes "step ") (decimal worker) (λ e. omega (arith, e), (λ e. omega (arith, e), (λ e. omega (arith, e), (λ e. omega (arith, e), (λ e. omega (arith, e), tt))))) (digits worker)
words_line (Note worker) = one_line_more (codes "note ") (decimal worker) (λ e. omega (arith, e), (λ e. omega (arith, e), (λ e. omega (arith, e), (λ e. omega (arith, e), (λ e. omega (arith, e), tt))))) (digits worker)
words_line (Skip worker) = one_line_more (codes "skip ") (decimal worker) (λ e. omega (arith, e), (λ e. omega (arith, e), (λ e. omega (arith, e), (λ e. omega (arith, e), (λ e. omega (arith, e), tt))))) (digits worker)
words_line (Post worker) = one_line_more (codes "post ") (decimal worker) (λ e. omega (arith, e), (λ e. omega (arith, e), (λ e. omega (arith, e), (λ e. omega (arith, e), (λ e. omega (arith, e), tt))))) (digits worker)
words_line Hold = (λ e. omega (arith, e), (λ e. omega (arith, e), (λ e. omega (arith, e), (λ e. omega (arith, e), tt))))
words_line Turn = (λ e. omega (arith, e), (λ e. omega (arith, e), (λ e. omega (arith, e), (λ e. omega (arith, e), tt))))

-- its newline is the first one
newline_at : (words after : List ℕ) → IsOneLine words → position_or_len (λ byte. byte == 10) (words ++ 10 ∷ after) ≡ length words
newline_at [] after one = refl
newline_at (byte ∷ words) after one =
    let other : (byte == 10) ≡ false = let differs = one.0 in grind (arith, nat_tests) in
    let rest = newline_at words after one.1 in
    rw other (ap (λ n. 1 + n) rest ∙ omega arith)

pub newline_after : (event : Event) (after : List ℕ) → position (λ byte. byte == 10) (words_of event ++ 10 ∷ after) ≡ Some (length (words_of event))
newline_after event after =
    let at : position_or_len (λ byte. byte == 10) (words_of event ++ 10 ∷ after) ≡ length (words_of event) = newline_at (words_of event) after (words_line event) in
    let within : length (words_of event) < length (words_of event ++ 10 ∷ after) = omega (arith, length-append (words_of event) (10 ∷ after)) in
    rw at (grind (arith, nat_tests))

-- a text that begins with an event's line has its first newline after the event, which stands before it
pub no_line : (event : Event) (text after : List ℕ) → text ≡ words_of event ++ 10 ∷ after → position (λ byte. byte == 10) text ≡ None → ⊥
no_line event text after is none =
    let at : position (λ byte. byte == 10) (words_of event ++ 10 ∷ after) ≡ None = subst (λ (text : List ℕ). position (λ byte. byte == 10) text ≡ None) is none in
    let found = newline_after event after in
    cc

pub line_before : (event : Event) (text after : List ℕ) (end : ℕ) → text ≡ words_of event ++ 10 ∷ after → position (λ byte. byte == 10) text ≡ Some end → take end text ≡ words_of event
line_before event text after end is found =
    let at : position (λ byte. byte == 10) (words_of event ++ 10 ∷ after) ≡ Some end = subst (λ (text : List ℕ). position (λ byte. byte == 10) text ≡ Some end) is found in
    let same : length (words_of event) ≡ end = let both = sym (newline_after event after) ∙ at in cc in
    subst (λ (n : ℕ). take n text ≡ words_of event) same
    (subst (λ (text : List ℕ). take (length (words_of event)) text ≡ words_of event) (sym is) (take-append_seam (words_of event) (10 ∷ after)))

-- the parts of a text at its first newline
is_newline : (byte : ℕ) → (byte == 10) ≡ true → byte ≡ 10
is_newline byte is = grind (arith, nat_tests)

pub take_rest : (n : ℕ) (xs : List ℕ) → take (length xs - n) (drop n xs) ≡ drop n xs
take_rest n xs = subst (λ (k : ℕ). take k (drop n xs) ≡ drop n xs) (length-drop n xs) (take-length (drop n xs))

pub parts_at : (text words rest : List ℕ) (end : ℕ) → position (λ byte. byte == 10) text ≡ Some end → take end text ≡ words → rest ≡ drop (end + 1) text → text ≡ words ++ 10 ∷ rest
parts_at text words rest end found before after =
    let there = position-Some (λ byte. byte == 10) text end 0 found in
    let byte : get_or text end 0 ≡ 10 = is_newline (get_or text end 0) there.1 in
    let tail : drop end text ≡ 10 ∷ rest =
    drop-cons text end 0 there.0 ∙ ap (λ (byte : ℕ). byte ∷ drop (suc end) text) byte ∙ ap (λ (n : ℕ). 10 ∷ drop n text) (sym (add-one end)) ∙ ap (λ (rest : List ℕ). 10 ∷ rest) (sym after) in
    sym (take-append-drop end text) ∙ ap (λ (words : List ℕ). words ++ drop end text) before ∙ ap (λ (rest : List ℕ). words ++ rest) tail

-- a text of one event more
pub text_more : (events : List Event) (event : Event) → text_of (events ++ event ∷ []) ≡ text_of events ++ (words_of event ++ 10 ∷ [])
unfolding text_of
text_more [] event = refl
text_more (first ∷ events) event =
    ap (λ (rest : List ℕ). words_of first ++ 10 ∷ rest) (text_more events event) ∙ sym (append_assoc (words_of first) (10 ∷ text_of events) (words_of event ++ 10 ∷ []))

pub text_goes_on : (text rest after : List ℕ) (events : List Event) (event : Event) → text ≡ text_of events ++ rest → rest ≡ words_of event ++ 10 ∷ after
    → text ≡ text_of (events ++ event ∷ []) ++ after
text_goes_on text rest after events event is first =
    is ∙ ap (λ (rest : List ℕ). text_of events ++ rest) first ∙ ap (λ (rest : List ℕ). text_of events ++ rest) (sym (append_assoc (words_of event) (10 ∷ []) after))
    ∙ sym (append_assoc (text_of events) (words_of event ++ 10 ∷ []) after) ∙ ap (λ (front : List ℕ). front ++ after) (sym (text_more events event))

-- no event is written as no text
pub none_written : (text : List ℕ) → text ≡ text_of [] ++ text
unfolding text_of
none_written text = refl
