-- Properties and aliases are written with at most as many bytes as they have in a text.
use Rattle.std.proofs.Common.{ℕ, ℤ, suc, ◌+◌, ◌≤◌, List, [], ◌∷◌, length, Some, arith, length-append}
use Rattle.std.specs.Prelude.{slice_range}
use Rattle.yf_chars.specs.declared.context.Ctx.{Ctx}
use Rattle.yf_props.specs.Names.{Anchor, Alias, Handle, TagProperty, Properties, PropertiesValue}
use Rattle.yf_props.specs.Names.Anchor.{ampersand_name}
use Rattle.yf_props.specs.Names.Alias.{asterisk_name}
use Rattle.yf_props.specs.Names.Handle.{primary_handle, secondary_handle, named_handle}
use Rattle.yf_props.specs.Names.VerbatimTag.{in_brackets}
use Rattle.yf_props.specs.Names.ShorthandTag.{handle_suffix}
use Rattle.yf_props.specs.Names.TagProperty.{verbatim_tag, shorthand_tag, non_specific_tag}
use Rattle.yf_props.specs.Names.Properties.{by_tag, by_anchor, tag_first, anchor_first}
use Rattle.yf_props.specs.Props.{TagValue}
use Rattle.yf_forms.specs.Nodes.OneLine.{tag_text}
use Rattle.yf_laws.proofs.Size.CommentBytes.{separate_remarks, slice_short}
use Rattle.yf_laws.proofs.Size.Weights.{props_weight, remarks_weight}

module _ {t : List ℕ} where
  anchor_short : {i j : ℕ} {name : List ℕ} → Anchor t i j name → suc (length name) + i ≤ j
  anchor_short {i} {j} (ampersand_name e r) = let l = r.some in let s = slice_short t (i + 1) j (omega (arith, l)) in omega (arith, s)

  pub alias_short : {i j : ℕ} {name : List ℕ} → Alias t i j name → suc (length name) + i ≤ j
  alias_short {i} {j} (asterisk_name e r) = let l = r.some in let s = slice_short t (i + 1) j (omega (arith, l)) in omega (arith, s)

  handle_forward : {i j : ℕ} → Handle t i j → i ≤ j
  handle_forward (primary_handle a) = omega arith
  handle_forward (secondary_handle a b) = omega arith
  handle_forward (named_handle a r b) = let l = r.some in omega (arith, l)

  tag_short : {i j : ℕ} {tag : TagValue} → TagProperty t i j tag → length (tag_text (Some tag)) + i ≤ j
  tag_short (verbatim_tag (in_brackets {i = i} {j = j} a b r c)) =
      let l = r.some in
      let x : List ℕ = slice_range t (i + 2) j in
      let s = slice_short t (i + 2) j (omega (arith, l)) in
      omega (arith, s, length-append x (62 ∷ []))
  tag_short (shorthand_tag (handle_suffix {i = i} {h = h} {j = j} a r)) =
      let l = r.some in
      let f = handle_forward a in
      let s = slice_short t i h f in
      let p = slice_short t h j (omega (arith, l)) in
      omega (arith, s, p, length-append (slice_range t i h) (slice_range t h j))
  tag_short (non_specific_tag e n) = omega arith

  pub properties_short : {n : ℤ} {c : Ctx} {i j : ℕ} {p : PropertiesValue} → Properties t n c i j p → props_weight p.props + (remarks_weight p.comments + i) ≤ j
  properties_short (by_tag g) = let s = tag_short g in omega (arith, s)
  properties_short (by_anchor a) = let s = anchor_short a in omega (arith, s)
  properties_short (tag_first g s a) = let one = tag_short g in let two = separate_remarks s in let three = anchor_short a in omega (arith, one, two, three)
  properties_short (anchor_first a s g) = let one = tag_short g in let two = separate_remarks s in let three = anchor_short a in omega (arith, one, two, three)
