use Rattle.std.proofs.Common.{◌≡◌, ◌∙◌, [], length, rules, sym}
use Rattle.std.proofs.lemmas.Bool.{eqb-true}
use Rattle.std.proofs.lemmas.List.{nil_from_length}
use Rattle.std.specs.Prelude.{vec_len}
use Rattle.yf_rules.proofs.Runs.DiffLemmas.{nothing_is_clean, nothing_told}
use Rattle.yf_rules.proofs.diff.run_fmt_diff.Goals as goal

pub returns-then-is_empty-clause-diffed : goal.returns-then-is_empty-clause-diffed
returns-then-is_empty-clause-diffed g c =
    let count : vec_len c.in_ok-diff.diff ≡ 0 = eqb-true (vec_len c.in_ok-diff.diff) 0 (sym c.is_empty.ensures ∙ c.if-is_empty.true) in
    let same : vec_len c.in_ok-diff.diff ≡ length c.in_ok-diff.diff.items = search rules in
    let none : c.in_ok-diff.diff.items ≡ [] = nil_from_length c.in_ok-diff.diff.items (sym same ∙ count) in
    nothing_told _ _ c.in_ok-diff.ensures.diff none

pub returns-then-is_empty-clause-clean : goal.returns-then-is_empty-clause-clean
returns-then-is_empty-clause-clean g c = λ same.
    let count : vec_len c.in_ok-diff.diff ≡ 0 = eqb-true (vec_len c.in_ok-diff.diff) 0 (sym c.is_empty.ensures ∙ c.if-is_empty.true) in
    let same_length : vec_len c.in_ok-diff.diff ≡ length c.in_ok-diff.diff.items = search rules in
    nothing_is_clean c.in_ok-diff.ensures.diff (nil_from_length c.in_ok-diff.diff.items (sym same_length ∙ count))
