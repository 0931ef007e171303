use Rattle.gdb_protocol.proofs.session.Session.handle_state.Goals as goal

pub returns-in-ChangeRegisters : goal.returns-in-ChangeRegisters
returns-in-ChangeRegisters c = rw c.in-ChangeRegisters.is c.answer.ensures
