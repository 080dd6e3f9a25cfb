use Rattle.std.proofs.Common.{refl}
use Rattle.yf_command_line.proofs.WordLemmas.{one_more_word}
use Rattle.yf_command_line.specs.Without.{between_commas}
use Rattle.yf_command_line.proofs.without.names_in.Goals as goal

pub loop-word-preserved : goal.loop-word-preserved
loop-word-preserved c =
    one_more_word between_commas c.args.words.now c.loop-word.word-index _ _ _ _ _ c.loop-word-test.true
    c.in_ok-add_names.ensures refl c.loop-word.invariant
