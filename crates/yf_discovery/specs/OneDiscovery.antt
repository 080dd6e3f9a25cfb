-- The folders decide the result.
use Rattle.std.specs.Prelude.{◌≡◌, ℕ, List}
use Rattle.yf_discovery.specs.declared.folders.There.{There}
use Rattle.yf_discovery.specs.declared.nearest.Discovery.{Discovery}
use Rattle.yf_discovery.specs.Nearest.{IsNearest}

-- (at: the kind of thing with each name)
abbrev pub OneDiscovery : Type 0
OneDiscovery = (at : List ℕ → There) (above : ℕ) (d e : Discovery)
    → IsNearest (λ name t. t ≡ at name) above d → IsNearest (λ name t. t ≡ at name) above e → d ≡ e
