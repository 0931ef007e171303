-- A run that was opened for a debugging.
use Rattle.output_files.specs.Content.{Content}
use Rattle.shuffled_phases.specs.declared.config.Config.{Config}
use Rattle.token.specs.declared.run_in_turn.RunInTurn.{RunInTurn}
use Rattle.command_run.specs.Serves.{IsOpenedFrom}
use Rattle.command_line.specs.Debugging.{AreDebugged, IsDebugged}
use Rattle.command_line.specs.declared.debugging.Debugging.{Debugging}

-- nothing refuses it
pub is_debugged : (files : Content) (debugging : Debugging) (config : Config) (start : RunInTurn) → AreDebugged files debugging (IsOpenedFrom config start)
    → IsDebugged files debugging config
is_debugged files debugging config start are = (are.0, are.1, are.2, are.3, are.4.0)
