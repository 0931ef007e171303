use Rattle.call_table.proofs.state_in_call.StateInCall.write.Given as goal

abbrev pub ghost-is_permitted_range : goal.ghost-is_permitted_range
ghost-is_permitted_range a = λ perm. perm.read
