use Rattle.std.proofs.Common.{◌≡◌, ◌++◌, ◌∷◌, [], ap, ◌∙◌, append_assoc, arith}
use lib.Utf8.{encode}
use Rattle.std.proofs.lemmas.Str.{encode_ascii}
use Rattle.std.specs.String.{string_bytes}
use Rattle.yf_lines.specs.Fold.{line_feeds}
use Rattle.yf_lines.proofs.FoldLemmas.{feeds_more}
use Rattle.yf_quoted.proofs.gap.push_feeds.Goals as goal

pub feeds-preserved : goal.feeds-preserved
feeds-preserved c =
    let line : encode 10 ≡ 10 ∷ [] = encode_ascii 10 (omega arith) in
    c.in_ok-push.ensures.bytes ∙ ap (λ w. string_bytes c.feeds.text ++ w) line ∙ ap (λ w. w ++ 10 ∷ []) c.feeds.invariant
    ∙ append_assoc (string_bytes c.args.text.now) (line_feeds c.feeds.counter) (10 ∷ [])
    ∙ ap (λ w. string_bytes c.args.text.now ++ w) (feeds_more c.feeds.counter)
