use Rattle.std.proofs.Common.{◌≡◌, drop}
use Rattle.toml.specs.View.{items_view}
use Rattle.yf_excludes.specs.Names.{texts}
use Rattle.yf_settings.specs.Texts.{strings_of}
use Rattle.yf_settings.proofs.TextsLemmas.{after}
use Rattle.yf_settings.proofs.texts.texts_in.Given as goal

abbrev pub invariant-loop-value : goal.invariant-loop-value
invariant-loop-value l =
    strings_of (items_view l.values)
    ≡ after (texts l.texts.items) (strings_of (items_view (drop l.value-index l.values)))
