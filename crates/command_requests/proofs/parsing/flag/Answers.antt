use Rattle.clap.specs.Words.{found_of}
use Rattle.command_requests.proofs.Rows.{is_flag}
use Rattle.command_requests.proofs.parsing.flag.Goals as goal

pub returns : goal.returns
returns c = is_flag (found_of c.args.matches.now) c.args.id.now c.get_flag.result c.get_flag.ensures.none c.get_flag.ensures.value c.get_flag.ensures.other
