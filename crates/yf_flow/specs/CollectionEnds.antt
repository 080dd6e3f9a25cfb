-- The end of the outermost collection: it has been read, or none is derived there.
use Rattle.std.specs.Prelude.{◌≡◌, ℕ, ℤ, List, []}
use Rattle.yf_chars.specs.declared.context.Ctx.{Ctx}
use Rattle.yf_events.specs.declared.part.Part.{Part}
use Rattle.yf_flow.specs.declared.nodes.Ending.{Ending}
use Rattle.yf_flow.specs.declared.nodes.Ending.TheVariants.{End, Nothing, TooDeep}
use Rattle.yf_flow.specs.declared.node.Begun.{Begun}
use Rattle.yf_flow.specs.declared.node.Begun.TheVariants.{Leaf, Opened, Nothing as NoneBegun, TooDeep as TooDeepAt}
use Rattle.yf_flow.specs.StepTerms.{Reading}
use Rattle.yf_flow.specs.StackMeaning.{Base, AtEntry, AtDone, NoBase}

abbrev pub EndTied : List ℕ → ℤ → Base → Ending → Part → Type 0
EndTied t n base (End node) part = AtDone t n base node part
EndTied t n base Nothing part = NoBase t n base
EndTied t n base (TooDeep p) part = NoBase t n base

-- the beginning of a node; a collection awaits its entries
abbrev pub BegunTied : List ℕ → ℤ → Ctx → ℕ → Base → Begun → Part → Type 0
BegunTied t n d limit base (Leaf node) part = Unit {0}
BegunTied t n d limit base (Opened f) part = Reading t d limit base × AtEntry t n d base [] f f.entry part
BegunTied t n d limit base NoneBegun part = Unit {0}
BegunTied t n d limit base (TooDeepAt p) part = Unit {0}

-- and its end
abbrev pub EndsAs : List ℕ → ℤ → Base → Begun → Part → Part → Ending → Type 0
EndsAs t n base (Leaf node) old new e = (e ≡ End node) × (new ≡ old)
EndsAs t n base (Opened f) old new e = EndTied t n base e new
EndsAs t n base NoneBegun old new e = e ≡ Nothing
EndsAs t n base (TooDeepAt p) old new e = e ≡ TooDeep p
