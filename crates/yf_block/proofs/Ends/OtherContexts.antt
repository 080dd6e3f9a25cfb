-- In other contexts than block-out and block-in no block node is derived.
use Rattle.std.proofs.Common.{◌≡◌, ℕ, ℤ, Bool, true, false, List, Result, Ok, Err, refl, sym, ◌∙◌, subst, true≢false}
use Rattle.std.specs.declared.alloc.AllocError.{AllocError}
use Rattle.yf_chars.specs.declared.context.Ctx.{Ctx}
use Rattle.yf_chars.specs.Chain.{Stuck}
use Rattle.yf_lines.specs.Basic.{is_block}
use Rattle.yf_grammar.specs.Productions.Meaning.{Meaning}
use Rattle.yf_grammar.specs.Productions.ReadParts.{BlockNodePart}
use Rattle.yf_grammar.specs.Productions.Grammar.{BlockNode, Derives}
use Rattle.yf_grammar.specs.Productions.Grammar.Derives.{a_block_scalar, a_block_scalar_with, a_block_collection, a_block_collection_with, flow_in_block}
use Rattle.yf_block.specs.declared.nodes.BlockOutcome.{BlockOutcome}
use Rattle.yf_block.specs.declared.nodes.BlockOutcome.TheVariants.{Found, Nothing, TooDeep}

block_context : {t : List ℕ} {h i j : ℕ} {n : ℤ} {c : Ctx} {x : Meaning} → Derives t h (BlockNode n c) i j x → is_block c ≡ true
block_context (a_block_scalar b s d) = b
block_context (a_block_scalar_with b s p q d) = b
block_context (a_block_collection b e s l d) = b
block_context (a_block_collection_with b s p e q l d) = b
block_context (flow_in_block b s d e) = b

pub no_other_node : {t : List ℕ} {limit at : ℕ} {n : ℤ} {c : Ctx} → is_block c ≡ false → Stuck (BlockNodePart t limit n c at)
no_other_node b = record { none = λ j part d. true≢false (sym (block_context d.derived) ∙ b) }

-- `Nothing` is neither a node nor a fault of depth
abbrev pub IsNoNode : BlockOutcome → Type 0
IsNoNode (Found f) = ⊥
IsNoNode (Nothing p) = Unit {0}
IsNoNode (TooDeep p) = ⊥

abbrev pub AnswersNone : Result BlockOutcome AllocError → Type 0
AnswersNone (Ok o) = IsNoNode o
AnswersNone (Err e) = ⊥

pub answers_none : {r : Result BlockOutcome AllocError} {at : ℕ} → r ≡ Ok (Nothing at) → AnswersNone r
answers_none e = subst AnswersNone (sym e) tt

-- a property of each context, by whether it is one of these two
pub by_context : {P : Type 0} (b : Bool) → (b ≡ true → P) → (b ≡ false → P) → P
by_context true f g = f refl
by_context false f g = g refl
