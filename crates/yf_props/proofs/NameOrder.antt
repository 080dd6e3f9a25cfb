-- Aliases, anchors and properties end after their start.
use Rattle.std.proofs.Common.{ℕ, ℤ, ◌<◌, List, arith}
use Rattle.yf_chars.specs.declared.context.Ctx.{Ctx}
use Rattle.yf_props.specs.Names.{Alias, asterisk_name, Anchor, ampersand_name, Properties, by_tag, by_anchor, tag_first, anchor_first, PropertiesValue}
use Rattle.yf_props.proofs.TagLemmas.{tag_later}
use Rattle.yf_props.proofs.SeparationEnds.{separate_forward}

pub alias_forward : {t : List ℕ} {i j : ℕ} {x : List ℕ} → Alias t i j x → i < j
alias_forward (asterisk_name e r) = omega (arith, r.some)

pub anchor_forward : {t : List ℕ} {i j : ℕ} {x : List ℕ} → Anchor t i j x → i < j
anchor_forward (ampersand_name e r) = omega (arith, r.some)

pub properties_forward : {t : List ℕ} {n : ℤ} {c : Ctx} {i j : ℕ} {x : PropertiesValue} → Properties t n c i j x → i < j
properties_forward (by_tag g) = tag_later g
properties_forward (by_anchor a) = anchor_forward a
properties_forward (tag_first g s a) =
    let k = tag_later g in let l = separate_forward s in let m = anchor_forward a in omega arith
properties_forward (anchor_first a s g) =
    let l = anchor_forward a in let m = separate_forward s in let o = tag_later g in omega arith
