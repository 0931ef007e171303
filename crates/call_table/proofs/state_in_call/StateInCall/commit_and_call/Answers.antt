use Rattle.std.proofs.Common.{◌≡◌, ℕ, Result, Ok, Err, IfOk, ap, sym, ◌∙◌, subst}
use Rattle.std.specs.Prelude.{IsOk, OnOk, OnErr, Vec}
use Rattle.std.specs.declared.alloc.Global.{Global}
use Rattle.abi.specs.declared.call.Call.{Call}
use Rattle.hart.specs.HartState.{HartState}
use Rattle.ecalls.specs.Request.{call_of}
use Rattle.commit.specs.ByteMap.{ByteMap}
use Rattle.call_table.specs.CommitAndWake.{committed_bytes}
use Rattle.call_table.specs.Effects.{Effect, settled}
use Rattle.call_table.specs.Room.{HasRoom}
use Rattle.call_table.specs.State.{State, row_of}
use Rattle.call_table.specs.StateInCall.{state_in}
use Rattle.call_table.proofs.Committing.{there_after, ready_after, committed_effect, committed_hart}
use Rattle.call_table.proofs.state_in_call.StateInCall.commit_and_call.Goals as goal

-- the state after the commit, from that before room was made
after_room : (after roomy state : State) (thread : ℕ) (bytes : ByteMap) (hart : HartState) (executed : ℕ) → after ≡ committed_bytes roomy thread bytes hart executed
    → roomy ≡ state → after ≡ committed_bytes state thread bytes hart executed
after_room after roomy state thread bytes hart executed is same = is ∙ ap (λ (before : State). committed_bytes before thread bytes hart executed) same

if_ok : {A E : Type 0} (result : Result A E) {P Q : A → Type 0} → ((value : A) → P value → Q value) → IfOk result P → IfOk result Q
if_ok (Ok value) then held = then value held
if_ok (Err error) then held = tt

on_ok : {A E : Type 0} (result : Result A E) {P Q : Type 0} → (P → Q) → OnOk result P → OnOk result Q
on_ok (Ok value) then held = then held
on_ok (Err error) then held = tt

never_err : {A E : Type 0} (result : Result A E) (P : Type 0) → IsOk result → OnErr result P
never_err (Ok value) P succeeds = tt
never_err (Err error) P succeeds = absurd (cc)

pub call-requires : goal.call-requires
unfolding state_in
call-requires c =
    let after = after_room _ _ _ c.args.thread _ _ _ c.in_ok-commit.ensures.committed c.in_ok-make_room.ensures.state in
    record {
      made = there_after (state_in c.commit.new.self) (state_in c.args.self.now) c.args.thread _ _ _ c.requires.made after;
      ready = ready_after (state_in c.commit.new.self) (state_in c.args.self.now) c.args.thread _ _ _ c.requires.made c.requires.ready after;
      parked = c.in_ok-commit.ensures.ends.parked;
    }

pub returns : goal.returns
unfolding state_in
returns c =
    let after = after_room _ _ _ c.args.thread _ _ _ c.in_ok-commit.ensures.committed c.in_ok-make_room.ensures.state in
    let made = committed_effect (state_in c.commit.new.self) (state_in c.args.self.now) c.args.thread _ _ _ c.requires.made after in
    let hart = committed_hart (state_in c.commit.new.self) (state_in c.args.self.now) c.args.thread _ _ _ c.requires.made after in
    let wanted : Call = call_of (row_of (state_in c.commit.new.self) c.args.thread).hart in
    let same : c.call_of-call.result ≡ wanted = c.call_of-call.ensures.call ∙ ap call_of (sym hart) in
    let room : HasRoom c.make_room.new.self.output wanted = subst (HasRoom c.make_room.new.self.output) same c.in_ok-make_room.ensures.room in
    let left : HasRoom c.commit.new.self.output wanted = subst (λ (output : Vec ℕ Global). HasRoom output wanted) (sym c.in_ok-commit.ensures.output) room in
    let settles = c.call.ensures.settles in
    record {
      reply = if_ok c.call.result (λ reply is. is ∙ ap (λ (outcome : Effect). outcome.reply) made) settles.reply;
      settled = on_ok c.call.result (λ is. is ∙ ap (settled c.args.thread) made) settles.settled;
      kept = never_err c.call.result _ (c.call.ensures.succeeds left);
      ends = record { parked = settles.ends.parked; input = settles.ends.input ∙ c.in_ok-commit.ensures.ends.input ∙ c.in_ok-make_room.ensures.input };
    }
