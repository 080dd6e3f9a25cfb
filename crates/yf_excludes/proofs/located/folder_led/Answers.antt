use Rattle.std.proofs.Common.{◌≡◌, ◌+◌, ◌∙◌, [], List, ℕ, Option, ap, length, rules, subst, sym}
use Rattle.std.specs.Prelude.{option_map, vec_len}
use Rattle.std.proofs.lemmas.List.{nil_from_length}
use Rattle.yf_excludes.specs.Names.{Leads, texts}
use Rattle.yf_excludes.proofs.LocatedLemmas.{no_folder, no_last, popped_none}
use Rattle.yf_excludes.proofs.located.folder_led.Goals as goal

pub returns-else-is_some : goal.returns-else-is_some
returns-else-is_some c =
    let counts = popped_none c.pop.result ((vec_len c.in-Some.names ≡ 0) × (vec_len c.pop.new.self ≡ 0))
    (λ _. vec_len c.pop.new.self + 1 ≡ vec_len c.in-Some.names)
    (sym c.is_some.ensures ∙ c.if-is_some.false) c.pop.ensures.cases in
    let same : vec_len c.in-Some.names ≡ length c.in-Some.names.items = search rules in
    let none : c.in-Some.names.items ≡ [] = nil_from_length c.in-Some.names.items (sym same ∙ counts.0) in
    let leads = rw c.in-Some.is at c.in_ok-names.ensures in
    no_last c.args.path.now (texts c.in-Some.names.items) leads (ap texts none)

pub returns-in-None : goal.returns-in-None
returns-in-None c =
    no_folder c.args.path.now (option_map (λ v. texts v.items) c.in_ok-names.field-0) c.in_ok-names.ensures
    (ap (λ o. option_map (λ v. texts v.items) o) c.in-None.is)
