-- None of the FILEs so far is standard input.
use Rattle.std.proofs.Common.{◌≡◌, false, take, map}
use Rattle.std.specs.List.{list_any}
use Rattle.yf_command_line.specs.Requests.{is_standard_input}
use Rattle.yf_command_line.proofs.inputs.has_standard_input.Given as goal

abbrev pub invariant-loop-file : goal.invariant-loop-file
invariant-loop-file l = list_any is_standard_input (map (λ f. f.now) (take l.file-index l.files)) ≡ false
