-- The inputs so far are those of the FILEs so far.
use Rattle.std.proofs.Common.{◌≡◌, take, map}
use Rattle.yf_command_line.specs.Requests.{input_of}
use Rattle.yf_command_line.proofs.inputs.further_inputs.Given as goal

abbrev pub invariant-loop-file : goal.invariant-loop-file
invariant-loop-file l = l.inputs.items ≡ map input_of (map (λ f. f.now) (take l.file-index l.files))
