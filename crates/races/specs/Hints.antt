-- The numbers of the kinds of hints.
use Rattle.std.specs.Prelude.{ℕ, ◌==◌, Option, List, [], ◌∷◌, find}
use Rattle.races.specs.declared.hint_kind.HintKind.{HintKind}
use Rattle.races.specs.declared.hint_kind.HintKind.TheVariants.{Begin, Dead, AtomicLoad, AtomicStore, SeenAcquire, FenceRelease, FenceAcquire, RelaxedRelease, Lock, Share, TryLock, TryShare, Unlock, UnlockOfAnothers, UnlockOfFree, EndWithLock, DestroyOfHeld, DestroyOfWaited, WaitWithoutLock, WaitWithAnother, TakenTwice, WriteByReader}

-- the number of a kind: the immediate of the instruction SLTI into x0
abbrev pub number_of : HintKind → ℕ
number_of Begin = 3
number_of Dead = 4
number_of AtomicLoad = 5
number_of AtomicStore = 6
number_of SeenAcquire = 7
number_of FenceRelease = 8
number_of FenceAcquire = 9
number_of RelaxedRelease = 10
number_of Lock = 16
number_of Share = 17
number_of TryLock = 18
number_of TryShare = 19
number_of Unlock = 20
number_of UnlockOfAnothers = 32
number_of UnlockOfFree = 33
number_of EndWithLock = 34
number_of DestroyOfHeld = 35
number_of DestroyOfWaited = 36
number_of WaitWithoutLock = 37
number_of WaitWithAnother = 38
number_of TakenTwice = 39
number_of WriteByReader = 40

-- all kinds
abbrev pub kinds : List HintKind
kinds =
    Begin ∷ Dead ∷ AtomicLoad ∷ AtomicStore ∷ SeenAcquire ∷ FenceRelease ∷ FenceAcquire ∷ RelaxedRelease ∷ Lock ∷ Share ∷ TryLock ∷ TryShare ∷ Unlock
    ∷ UnlockOfAnothers ∷ UnlockOfFree ∷ EndWithLock ∷ DestroyOfHeld ∷ DestroyOfWaited ∷ WaitWithoutLock ∷ WaitWithAnother ∷ TakenTwice ∷ WriteByReader ∷ []

-- the kind with a number, none if no kind has it
unfoldable pub kind_of : ℕ → Option HintKind
kind_of number = find (λ kind. number_of kind == number) kinds
