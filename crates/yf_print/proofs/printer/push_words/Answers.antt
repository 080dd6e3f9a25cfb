use Rattle.std.proofs.Common.{Bor, List, ℕ}
use Rattle.yf_print.proofs.Pass.PrintLemmas.{words_each}
use Rattle.yf_print.proofs.printer.push_words.Goals as goal

pub loop-word-preserved : goal.loop-word-preserved
loop-word-preserved c =
    words_each (λ (word : Bor (List ℕ)). word.now) c.args.words.now c.loop-word.word-index _ c.loop-word.is_after _ _ _ _ c.loop-word-test.true
    c.in_ok-push_space_if.ensures c.in_ok-push_str.ensures.bytes c.loop-word.invariant
