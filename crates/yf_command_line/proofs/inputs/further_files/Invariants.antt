-- The texts so far are the FILEs so far.
use Rattle.std.proofs.Common.{◌≡◌, take, map}
use Rattle.yf_command_line.proofs.inputs.further_files.Given as goal

abbrev pub invariant-loop-file : goal.invariant-loop-file
invariant-loop-file l = l.texts.items ≡ map (λ f. f.now) (take l.file-index l.files)
