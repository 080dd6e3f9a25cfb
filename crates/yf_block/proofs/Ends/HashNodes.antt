-- No node begins with the sign of a comment.
use Rattle.std.proofs.Common.{◌≡◌, ℕ, ◌==◌, ℤ, true, false, List, None, refl, ap, ◌∙◌}
use Rattle.std.specs.Str.{IsUtf8}
use Rattle.yf_chars.specs.declared.context.Ctx.{Ctx}
use Rattle.yf_chars.specs.declared.context.Ctx.TheVariants.{FlowOut}
use Rattle.yf_chars.specs.Text.{code}
use Rattle.yf_chars.specs.Class.{is_indicator, is_flow_indicator, is_ns_char, is_nb_char, is_printable, is_between, is_break_char, is_white}
use Rattle.yf_chars.specs.Chain.{Stuck}
use Rattle.yf_plain.specs.Plain.{Plain, is_plain_first, is_sign}
use Rattle.yf_plain.proofs.PlainLemmas.{no_front}
use Rattle.yf_plain.proofs.LineLemmas.{no_plain}
use Rattle.yf_grammar.specs.Productions.BlockScalar.{BlockScalar}
use Rattle.yf_grammar.specs.FlowReader.Parser.{Parses, ANode, begins_alias, begins_properties, begins_content, begins_plain}
use Rattle.yf_grammar.specs.FlowReader.Parser.Parses.{plain_missed}
use Rattle.yf_grammar.specs.BlockReader.BlockParser.{Columns, Ahead, NoSign, unfit_node, key_missed, MayLeaf, Inline, Whole}
use Rattle.yf_grammar.specs.BlockReader.BlockParser.Whole.{leaf_there, leaf_missed}
use Rattle.yf_grammar.specs.BlockReader.Halts.{Halts}
use Rattle.yf_grammar.specs.BlockReader.Halts.Halts.{halts_leaf, halts_plain_missed}
use Rattle.yf_grammar.proofs.BlockContent.PlainCut.{no_plain_part}
use Rattle.yf_grammar.proofs.Shown.ShownParts.{no_signs, no_scalar, no_properties}

hash_test : (x c : ℕ) → x ≡ 35 → (35 == c) ≡ false → (x == c) ≡ false
hash_test x c h e = ap (λ k. k == c) h ∙ e

hash_first : (t : List ℕ) (p : ℕ) → code t p ≡ 35 → is_plain_first t FlowOut p ≡ false
unfolding is_plain_first is_sign is_indicator is_flow_indicator is_ns_char is_nb_char is_printable is_between is_break_char is_white
hash_first t p h = rw h refl

hash_plain : (x : ℕ) → x ≡ 35 → begins_plain x ≡ true
unfolding begins_plain begins_alias begins_properties begins_content
hash_plain x h = ap begins_plain h

hash_unheld : (x : ℕ) → x ≡ 35 → begins_properties x ≡ false
unfolding begins_properties
hash_unheld x h = ap begins_properties h

hash_no_alias : (x : ℕ) → x ≡ 35 → begins_alias x ≡ false
unfolding begins_alias
hash_no_alias x h = ap begins_alias h

module _ {t : List ℕ} {p : ℕ} (h : code t p ≡ 35) where
  hash_stuck : {n : ℤ} → Stuck (Plain t n FlowOut p)
  hash_stuck = no_plain (no_front (hash_first t p h))

  hash_missed : {e : ℕ} {n : ℤ} → Parses t e (ANode n FlowOut p) None
  hash_missed = plain_missed (hash_plain (code t p) h) hash_stuck

  hash_leaf : {a : Ahead} → MayLeaf t a p
  hash_leaf = record { no_props = hash_unheld (code t p) h; no_alias = λ e. hash_no_alias (code t p) h }

  hash_signs : {cols : Columns} → NoSign t cols p
  hash_signs = no_signs (hash_test (code t p) 45 h refl) (hash_test (code t p) 63 h refl) (hash_test (code t p) 58 h refl)

  hash_scalar : {n : ℤ} → Stuck (BlockScalar t n p)
  hash_scalar = no_scalar (hash_test (code t p) 124 h refl) (hash_test (code t p) 62 h refl)

  pub hash_whole : {e : ℕ} {n : ℤ} {c : Ctx} {cols : Columns} {a : Ahead} → Whole t e (Inline n c cols a p) None
  hash_whole = leaf_there hash_signs (unfit_node hash_missed key_missed) (no_properties (hash_unheld (code t p) h)) (leaf_missed hash_scalar hash_leaf hash_missed)

  pub hash_halts : IsUtf8 t → {e : ℕ} {n : ℤ} {c : Ctx} {cols : Columns} {a : Ahead} {ws : List ℕ} → Halts t e ws (Inline n c cols a p) None
  hash_halts u = halts_leaf hash_signs (unfit_node hash_missed key_missed) (no_properties (hash_unheld (code t p) h)) (halts_plain_missed hash_scalar hash_leaf (hash_plain (code t p) h) (no_plain_part u hash_stuck))
