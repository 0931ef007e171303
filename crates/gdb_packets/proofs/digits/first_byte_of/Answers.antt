use Rattle.std.proofs.Common.{◌∙◌, sym}
use Rattle.gdb_packets.proofs.Pairs.{bad_pair, first_pair, no_pair}
use Rattle.gdb_packets.proofs.digits.first_byte_of.Goals as goal

pub returns-then-digits-lt2-clause-bytes : goal.returns-then-digits-lt2-clause-bytes
returns-then-digits-lt2-clause-bytes c = no_pair c.args.digits.now c.requires c.if-digits-lt2.true

pub returns-in_default-clause-bytes : goal.returns-in_default-clause-bytes
returns-in_default-clause-bytes c = bad_pair c.args.digits.now c.if-digits-lt2.false (sym c.byte_of.ensures ∙ c.in_default.is)

pub returns-clause-bytes : goal.returns-clause-bytes
returns-clause-bytes c = first_pair c.args.digits.now c.in-Some.byte c.if-digits-lt2.false (sym c.byte_of.ensures ∙ c.in-Some.is)
