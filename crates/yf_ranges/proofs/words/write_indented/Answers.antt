use Rattle.std.proofs.Common.{◌≡◌, ◌++◌, ◌∙◌, List, ℕ, ap, append_assoc, codes, decimal, string_bytes}
use Rattle.std.proofs.lemmas.Result.{on_ok_weaker}
use Rattle.yf_ranges.specs.Words.{expected_words}
use Rattle.yf_ranges.proofs.words.write_indented.Goals as goal

-- three texts that are appended one after the other
appended : (old a b d one two three : List ℕ) → one ≡ old ++ a → two ≡ one ++ b → three ≡ two ++ d → three ≡ old ++ (a ++ (b ++ d))
appended old a b d one two three e f g =
    g ∙ ap (λ x. x ++ d) f ∙ ap (λ x. (x ++ b) ++ d) e ∙ append_assoc (old ++ a) b d ∙ append_assoc old a (b ++ d)

pub returns : goal.returns
returns c =
    on_ok_weaker c.write_expected.result
    (λ last. appended (string_bytes c.args.out.now) (codes "indented by ") (decimal c.args.found) (expected_words c.args.expected) _ _ _
    c.in_ok-push_str.ensures.bytes c.in_ok-write_number.ensures last)
    c.write_expected.ensures
