-- What is known of changes with one more at the end.
use Rattle.std.proofs.Common.{◌≡◌, ℕ, ◌+◌, ◌<◌, ◌≤◌, List, [], ◌∷◌, ◌++◌, length, map, get_or, refl, sym, ◌∙◌, ap, subst, arith, length-append}
use Rattle.std.specs.List.{All, AllPairs, enumerate_from, flat_map}
use Rattle.std.proofs.lemmas.List.{append-nil, get_or_append_left, get_or_at, length-map}
use Rattle.std.proofs.lemmas.List.Concat.{flat_map-append}
use Rattle.std.proofs.lemmas.List.Elements.{All-append, All-head, All-map, All-nil, All-tail, All-weaker}
use Rattle.token.specs.Change.{Change}
use Rattle.sharing_report.specs.ByteChanges.{byte_change, bytes_of, bytes_of_turn}
use Rattle.sharing_report.specs.Pages.{AreUpTo}
use Rattle.sharing_report.specs.Recording.{AreInOrder}
use Rattle.sharing_report.specs.declared.byte_change.ByteChange.{ByteChange}

enumerate_from-snoc : {X : Type 0} (n : ℕ) (xs : List X) (x : X) → enumerate_from n (xs ++ x ∷ []) ≡ enumerate_from n xs ++ (n + length xs, x) ∷ []
enumerate_from-snoc {X} n [] x = let same : n ≡ n + 0 = omega arith in ap (λ (m : ℕ). let one : List (ℕ × X) = (m, x) ∷ [] in one) same
enumerate_from-snoc {X} n (y ∷ xs) x =
    let same : n + 1 + length xs ≡ n + (length xs + 1) = omega arith in
    ap (λ (rest : List (ℕ × X)). (n, y) ∷ rest) (enumerate_from-snoc (n + 1) xs x ∙ ap (λ (m : ℕ). enumerate_from (n + 1) xs ++ (m, x) ∷ []) (omega (arith, same)))

pub bytes_of-snoc : (changes : List Change) (change : Change) → bytes_of (changes ++ change ∷ []) ≡ bytes_of changes ++ bytes_of_turn (length changes) change
unfolding bytes_of
bytes_of-snoc changes change =
    let bytes : ℕ × Change → List ByteChange = λ (turn, one). bytes_of_turn turn one in
    let start : 0 + length changes ≡ length changes = omega arith in
    ap (flat_map bytes) (enumerate_from-snoc 0 changes change)
    ∙ flat_map-append bytes (enumerate_from 0 changes) ((0 + length changes, change) ∷ [])
    ∙ ap (λ (last : List ByteChange). flat_map bytes (enumerate_from 0 changes) ++ last) (append-nil (bytes_of_turn (0 + length changes) change) ∙ ap (λ (n : ℕ). bytes_of_turn n change) start)

-- the bytes of changes from a turn on, none of which is in a later phase
upto_from : (n last phase : ℕ) (changes : List Change) → n + length changes ≤ last → All (λ change. change.phase ≤ phase) changes
    → All (λ (byte : ByteChange). (byte.turn ≤ last) × (byte.phase ≤ phase)) (flat_map (λ (turn, change). bytes_of_turn turn change) (enumerate_from n changes))
upto_from n last phase [] few below = λ k d inside. absurd (omega arith)
upto_from n last phase (change ∷ changes) few below =
    let head : change.phase ≤ phase = All-head (λ (one : Change). one.phase ≤ phase) change changes below in
    All-append (λ (byte : ByteChange). (byte.turn ≤ last) × (byte.phase ≤ phase)) (bytes_of_turn n change) (flat_map (λ (turn, one). bytes_of_turn turn one) (enumerate_from (n + 1) changes))
    (All-map (λ (byte : ByteChange). (byte.turn ≤ last) × (byte.phase ≤ phase)) (byte_change n change) change.addresses (λ k d inside. (omega arith, head)))
    (upto_from (n + 1) last phase changes (omega arith) (All-tail (λ (one : Change). one.phase ≤ phase) change changes below))

pub upto_all : (changes : List Change) (phase : ℕ) → All (λ change. change.phase ≤ phase) changes → AreUpTo (length changes) phase (bytes_of changes)
unfolding bytes_of
upto_all changes phase below = upto_from 0 (length changes) phase changes (omega arith) below

-- changes are in order where they are with one more, and that is in no earlier phase, and of one of 256 threads
module _ (changes : List Change) (change : Change) (order : AreInOrder (changes ++ change ∷ [])) where
  pub order_before : AreInOrder changes
  order_before = record {
    phases = λ i j d before inside.
        subst (λ (one : Change). one.phase ≤ (get_or changes j d).phase) (get_or_append_left changes (change ∷ []) d i (omega arith))
        (subst (λ (one : Change). (get_or (changes ++ change ∷ []) i d).phase ≤ one.phase) (get_or_append_left changes (change ∷ []) d j inside)
        (order.phases i j d before (omega (arith, length-append changes (change ∷ [])))));
    threads = λ k d inside.
        subst (λ (one : Change). one.thread < 256) (get_or_append_left changes (change ∷ []) d k inside) (order.threads k d (omega (arith, length-append changes (change ∷ []))));
  }

  pub phases_upto : All (λ one. one.phase ≤ change.phase) changes
  phases_upto k d inside =
      subst (λ (one : Change). one.phase ≤ change.phase) (get_or_append_left changes (change ∷ []) d k inside)
      (subst (λ (one : Change). (get_or (changes ++ change ∷ []) k d).phase ≤ one.phase) (get_or_at changes change [] d (length changes) refl)
      (order.phases k (length changes) d inside (omega (arith, length-append changes (change ∷ [])))))

  pub thread_small : change.thread < 256
  thread_small =
      subst (λ (one : Change). one.thread < 256) (get_or_at changes change [] change (length changes) refl) (order.threads (length changes) change (omega (arith, length-append changes (change ∷ []))))
