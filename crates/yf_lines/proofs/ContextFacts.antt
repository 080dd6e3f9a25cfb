-- Each context of YAML 1.2.2 (section 4.2) is one of keys, of flow collections, or of blocks.
use Rattle.std.proofs.Common.{◌≡◌, true, false, refl, sym, ◌⊎◌, ⊎_elim}
use Rattle.std.proofs.lemmas.Bool.{true≢false}
use Rattle.yf_chars.specs.declared.context.Ctx.{Ctx}
use Rattle.yf_chars.specs.declared.context.Ctx.TheVariants.{BlockOut, BlockIn, FlowOut, FlowIn, BlockKey, FlowKey}
use Rattle.yf_lines.specs.Basic.{is_block, is_flow, is_key}

pub not_others : (c : Ctx) → is_block c ≡ false → is_key c ≡ false → is_flow c ≡ true
not_others BlockOut b k = absurd (true≢false b)
not_others BlockIn b k = absurd (true≢false b)
not_others FlowOut b k = refl
not_others FlowIn b k = refl
not_others BlockKey b k = absurd (true≢false k)
not_others FlowKey b k = absurd (true≢false k)

pub key_not_flow : (c : Ctx) → is_key c ≡ true → is_flow c ≡ true → ⊥
key_not_flow BlockOut k f = true≢false (sym k)
key_not_flow BlockIn k f = true≢false (sym k)
key_not_flow FlowOut k f = true≢false (sym k)
key_not_flow FlowIn k f = true≢false (sym k)
key_not_flow BlockKey k f = true≢false (sym f)
key_not_flow FlowKey k f = true≢false (sym f)

pub block_alone : (c : Ctx) → is_block c ≡ true → (is_key c ≡ true) ⊎ (is_flow c ≡ true) → ⊥
block_alone BlockOut b o = ⊎_elim (λ (e : false ≡ true). true≢false (sym e)) (λ (e : false ≡ true). true≢false (sym e)) o
block_alone BlockIn b o = ⊎_elim (λ (e : false ≡ true). true≢false (sym e)) (λ (e : false ≡ true). true≢false (sym e)) o
block_alone FlowOut b o = true≢false (sym b)
block_alone FlowIn b o = true≢false (sym b)
block_alone BlockKey b o = true≢false (sym b)
block_alone FlowKey b o = true≢false (sym b)
