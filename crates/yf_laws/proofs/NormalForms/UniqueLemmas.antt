-- A reading has one normal form, and a normal reading one layout.
use Rattle.std.proofs.Common.{◌≡◌, ℕ, List, map, sym, ap, ◌∙◌}
use Rattle.yf_events.specs.Tree.{flat_stream}
use Rattle.yf_events.specs.declared.lists.Lists.{Lists}
use Rattle.yf_events.proofs.TreeLemmas.{trees_unique}
use Rattle.yf_forms.specs.declared.style.Style.{Style}
use Rattle.yf_laws.specs.Layouts.Layout.{IsLayout, layout}
use Rattle.yf_forms.specs.NormalForms.Normal.{Normal, normal_document, setting_of}

pub normal_unique : (t : List ℕ) (r : Lists) (s : Style) (m n : Lists) → Normal t r s m → Normal t r s n → m ≡ n
normal_unique t r s m n a b =
    a.is ∙ (ap (λ ds. record r { events = flat_stream (map (normal_document t (setting_of r s)) ds) }) (trees_unique r _ _ a.of_reading b.of_reading)
    ∙ sym b.is)

pub layout_unique : (t : List ℕ) (m : Lists) (s : Style) (u v : List ℕ) → IsLayout t m s u → IsLayout t m s v → u ≡ v
layout_unique t m s u v a b = a.is ∙ (ap (λ ds. layout t m s ds) (trees_unique m _ _ a.of_reading b.of_reading) ∙ sym b.is)
