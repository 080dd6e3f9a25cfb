-- If a node or an entry of an open collection is not derived, the outermost collection is not.
use Rattle.std.proofs.Common.{ℕ, ℤ, Bool, List, None, subst}
use Rattle.yf_chars.specs.declared.context.Ctx.{Ctx}
use Rattle.yf_events.specs.Event.{EventInText}
use Rattle.yf_grammar.specs.Productions.Meaning.{Meaning}
use Rattle.yf_grammar.specs.FlowReader.Parser.{AContent, Parses}
use Rattle.yf_grammar.specs.FlowReader.FlowContinuations.{NodeAwaited, as_item, as_key, as_value}
use Rattle.yf_grammar.proofs.FlowStack.AwaitFails.{content_fails}
use Rattle.yf_flow.specs.declared.frame.Frame.{Frame}
use Rattle.yf_flow.specs.declared.frame.Role.{Role}
use Rattle.yf_flow.specs.StackMeaning.{Base, IsBase, Below, outermost, inside, NodeIn, item_in, key_in, value_in}

pub awaited_node : {t : List ℕ} {n : ℤ} {d : Ctx} {s p g e : ℕ} {role : Role} {sequence pair : Bool} {y : Meaning} → NodeIn t n d s role sequence e pair p g y
    → NodeAwaited t n d s sequence e pair p g y
awaited_node (item_in a) = as_item a
awaited_node (key_in a q) = as_key a q
awaited_node (value_in a q) = as_value a q

base_fails : {t : List ℕ} {n : ℤ} {base : Base} {sequence : Bool} {i e : ℕ} {c : Ctx} {w : Meaning} {begin : EventInText} → IsBase base sequence i c e w begin → Parses t e (AContent n c i) None
    → Parses t base.limit (AContent n base.context base.place) None
base_fails {t} {n} {base} {sequence} {i} {e} {c} b r =
    let x : Parses t base.limit (AContent n c i) None = subst (λ z. Parses t z (AContent n c i) None) b.limit r in
    let y : Parses t base.limit (AContent n base.context i) None = subst (λ z. Parses t base.limit (AContent n z i) None) b.context x in
    subst (λ z. Parses t base.limit (AContent n base.context z) None) b.place y

pub all_fails : {t : List ℕ} {n : ℤ} {d : Ctx} {base : Base} {frames : List Frame} {sequence : Bool} {i e : ℕ} {c : Ctx} {w : Meaning} {begin : EventInText}
    → Below t n d base frames sequence i c e w begin → Parses t e (AContent n c i) None → Parses t base.limit (AContent n base.context base.place) None
all_fails (outermost b) r = base_fails b r
all_fails (inside b entries stays node framed role first index over all) r = all_fails b (content_fails over entries stays (awaited_node node) r)
