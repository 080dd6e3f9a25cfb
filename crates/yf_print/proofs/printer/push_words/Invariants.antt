use Rattle.std.proofs.Common.{◌≡◌, ◌++◌, drop, map}
use Rattle.std.specs.String.{string_bytes}
use Rattle.yf_print.specs.Passes.PrintPass.{words_from}
use Rattle.yf_print.specs.Layouts.Rows.{joined_words}
use Rattle.yf_print.proofs.printer.push_words.Given as goal

abbrev pub invariant-loop-word : goal.invariant-loop-word
invariant-loop-word l =
    string_bytes l.out ++ words_from l.is_after (map (λ word. word.now) (drop l.word-index l.words))
    ≡ string_bytes l.initial.out ++ joined_words (map (λ word. word.now) l.words)
