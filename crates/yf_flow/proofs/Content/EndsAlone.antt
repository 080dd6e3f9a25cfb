-- The end of a node that ends when it begins.
use Rattle.std.proofs.Common.{ℕ, ◌+◌, ℤ, List, refl}
use Rattle.yf_events.specs.declared.part.Part.{Part}
use Rattle.yf_flow.specs.declared.nodes.Ending.{Ending}
use Rattle.yf_flow.specs.declared.nodes.Ending.TheVariants.{End, Nothing, TooDeep}
use Rattle.yf_flow.specs.Depth.{BegunCounted, EndCounted}
use Rattle.yf_flow.specs.CollectionEnds.{EndsAs}
use Rattle.yf_flow.specs.LeafEnds.{begun_of}
use Rattle.yf_flow.specs.Machine.{BegunAt, EndingAt}
use Rattle.yf_flow.specs.StackMeaning.{Base}

pub alone_ends : (t : List ℕ) (n : ℤ) (base : Base) (part : Part) (e : Ending) → EndsAs t n base (begun_of e) part part e
alone_ends t n base part (End node) = (refl, refl)
alone_ends t n base part Nothing = refl
alone_ends t n base part (TooDeep p) = refl

pub alone_counted : (t : List ℕ) (limit total : ℕ) (e : Ending) → BegunCounted t limit total (begun_of e) → EndCounted t limit total e
alone_counted t limit total (End node) b = b
alone_counted t limit total Nothing b = tt
alone_counted t limit total (TooDeep p) b = b

pub alone_found : (t : List ℕ) (i m k : ℕ) (e : Ending) → BegunAt t i m k (begun_of e) → EndingAt t (i + 1) e
alone_found t i m k (End node) b = b.0
alone_found t i m k Nothing b = tt
alone_found t i m k (TooDeep p) b = b
