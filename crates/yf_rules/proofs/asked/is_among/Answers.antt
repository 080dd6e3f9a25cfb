use Rattle.std.proofs.Common.{ℕ, List, rules, tests}
use Rattle.std.proofs.lemmas.Iterator.{YieldsList-from_slice}
use Rattle.std.proofs.lemmas.Iterator.Search.{any_from_yields_List}
use Rattle.std.specs.Str.{bytes_eq}
use Rattle.yf_rules.proofs.asked.is_among.Goals as goal

pub returns : goal.returns
returns c =
    any_from_yields_List (λ (name : List ℕ). bytes_eq name c.args.id.now) _ _ _ c.any.ensures.ran (YieldsList-from_slice c.args.names.now cc) (λ x b q k. search (rules, tests))
