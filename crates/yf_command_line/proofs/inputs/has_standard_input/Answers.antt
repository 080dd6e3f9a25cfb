use Rattle.std.proofs.Common.{◌∙◌, sym}
use Rattle.yf_command_line.specs.Requests.{is_standard_input}
use Rattle.yf_command_line.proofs.WordLemmas.{some_word}
use Rattle.yf_command_line.proofs.inputs.has_standard_input.Goals as goal

pub returns-then-is_standard_input : goal.returns-then-is_standard_input
returns-then-is_standard_input c =
    some_word is_standard_input c.args.files.now c.loop-file.file-index _ c.loop-file-test.true
    (sym c.is_standard_input.ensures ∙ c.if-is_standard_input.true)
