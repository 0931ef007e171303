use Rattle.std.proofs.Common.{List, ℕ, subst}
use Rattle.sharing_report.specs.Changers.{IsChanger}
use Rattle.sharing_report.specs.declared.changer.Changer.TheVariants.{One}
use Rattle.sharing_report.proofs.Adding.{other_changer, other_is_second, same_changer, same_not_second, several_not_second}
use Rattle.sharing_report.proofs.Counted.{two_of-more}
use Rattle.sharing_report.proofs.changer.Changer.add.Goals as goal

pub returns-then-other-thread-clause-changer : goal.returns-then-other-thread-clause-changer
returns-then-other-thread-clause-changer c threads has =
    let one : IsChanger (One c.args.thread) threads = subst (λ (thread : ℕ). IsChanger (One thread) threads) c.if-other-thread.true (rw c.in-One.is at has) in
    rw (c.in-One.is, c.if-other-thread.true) (same_changer threads c.args.thread one)

pub returns-then-other-thread-clause-second : goal.returns-then-other-thread-clause-second
returns-then-other-thread-clause-second c threads has =
    same_not_second threads c.args.thread (subst (λ (thread : ℕ). IsChanger (One thread) threads) c.if-other-thread.true (rw c.in-One.is at has))

pub returns-else-other-thread-clause-changer : goal.returns-else-other-thread-clause-changer
returns-else-other-thread-clause-changer c threads has =
    other_changer threads c.in-One.other c.args.thread (rw c.in-One.is at has) c.if-other-thread.false

pub returns-else-other-thread-clause-second : goal.returns-else-other-thread-clause-second
returns-else-other-thread-clause-second c threads has =
    other_is_second threads c.in-One.other c.args.thread (rw c.in-One.is at has) c.if-other-thread.false

pub returns-in-Several-clause-changer : goal.returns-in-Several-clause-changer
returns-in-Several-clause-changer c threads has = rw c.in-Several.is (two_of-more threads c.args.thread (rw c.in-Several.is at has))

pub returns-in-Several-clause-second : goal.returns-in-Several-clause-second
returns-in-Several-clause-second c threads has = several_not_second threads c.args.thread (rw c.in-Several.is at has)
