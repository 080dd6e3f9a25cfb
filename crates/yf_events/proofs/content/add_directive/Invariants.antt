use Rattle.std.proofs.Common.{◌≡◌, ◌++◌, map, drop}
use Rattle.yf_events.specs.Content.{before_value, items_of_directive, a_word}
use Rattle.yf_events.proofs.content.add_directive.Given as goal

abbrev pub invariant-loop-word : goal.invariant-loop-word
invariant-loop-word l =
    map before_value l.items.items ++ map (λ word. a_word word.now) (drop l.word-index l.word-items)
    ≡ map before_value l.fn.items.items ++ items_of_directive l.directive
