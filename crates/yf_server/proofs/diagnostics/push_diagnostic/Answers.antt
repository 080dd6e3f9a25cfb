use Rattle.std.proofs.Common.{◌++◌, ◌∷◌, ◌∙◌, [], ap, map}
use Rattle.std.proofs.lemmas.List.{map-append}
use Rattle.serde_json.specs.View.{view}
use Rattle.yf_server.proofs.diagnostics.push_diagnostic.Goals as goal

pub returns : goal.returns
returns c = ap (map view) c.in_ok-push.ensures.items
    ∙ map-append view c.args.values.now.items (c.in_ok-value.value ∷ [])
    ∙ ap (λ d. map view c.args.values.now.items ++ d ∷ []) c.in_ok-value.ensures
