-- The properties of a line, the text after them, and those of earlier lines.
use Rattle.std.proofs.Common.{◌≡◌, ◌≢◌, ℕ, ℤ, pos, true, false, ◌==◌, List, [], ◌++◌, Option, Some, None, refl, sym, ap, ◌∙◌, arith, true≢false}
use Rattle.std.proofs.lemmas.Bool.Decides.{nat_tests}
use Rattle.std.specs.Borrow.{Bor}
use Rattle.std.specs.Option.{is_some, option_and, option_or}
use Rattle.yf_chars.specs.declared.context.Ctx.TheVariants.{FlowKey}
use Rattle.yf_chars.specs.declared.context.Ctx.{Ctx}
use Rattle.yf_chars.specs.Text.{code}
use Rattle.yf_chars.specs.Chain.{Stuck, Chosen}
use Rattle.yf_comments.specs.Comment.{CommentValue}
use Rattle.yf_comments.specs.Comments.{Separate}
use Rattle.yf_comments.specs.Comments.Separate.{in_key, in_node}
use Rattle.yf_props.specs.Names.{Properties, PropertiesValue}
use Rattle.yf_props.specs.Names.Properties.{by_tag, by_anchor, tag_first, anchor_first}
use Rattle.yf_props.specs.Properties.{properties_value}
use Rattle.yf_props.specs.Props.{TagValue, PropsValue, props_value, name_value, optional_tag_value}
use Rattle.yf_props.specs.declared.properties.Properties.{Properties as TheProperties}
use Rattle.yf_props.specs.declared.props.Tag.{Tag}
use Rattle.yf_grammar.specs.BlockReader.BlockParser.{Ahead, Props, PropertiesHeld as HeldValue, Clash, anchors_clash, tags_clash, first_held, more_held, Apart, one_of, both}
use Rattle.yf_grammar.specs.FlowReader.Parser.{begins_properties}
use Rattle.yf_grammar.proofs.FlowReader.PropertiesEnds.{properties_begin}
use Rattle.yf_block.specs.declared.properties.PlacedProperties.{PlacedProperties}
use Rattle.yf_block.specs.BlockStepTied.{PropertiesTied}
use Rattle.yf_block.specs.PropertiesAnswers.{line_held, LineProperties, BothThere, both_there, BothProperties, JoinedTo, HoldsProperties, JoinedAhead, JoinedAfter}

pub property_and : (c : ℕ) → c ≡ 38 → true ≡ begins_properties c
unfolding begins_properties
property_and c e = rw e refl

pub property_or : (c : ℕ) → c ≢ 38 → (c == 33) ≡ begins_properties c
unfolding begins_properties
property_or c e = grind (arith, nat_tests)

-- without the first character of a property there are no properties
pub no_properties : {t : List ℕ} {n : ℤ} {c : Ctx} {p : ℕ} → false ≡ begins_properties (code t p) → Stuck (Properties t n c p)
no_properties e = record { none = λ j x d. true≢false (sym (properties_begin d) ∙ sym e) }

-- properties within a key have no comments
key_gap_bare : {t : List ℕ} {n : ℤ} {i j : ℕ} {x : List CommentValue} → Separate t n FlowKey i j x → x ≡ []
key_gap_bare (in_key e s) = refl
key_gap_bare (in_node e s) = absurd (true≢false e)

key_bare : {t : List ℕ} {n : ℤ} {i j : ℕ} {p : PropertiesValue} → Properties t n FlowKey i j p → p.comments ≡ []
key_bare (by_tag d) = refl
key_bare (by_anchor d) = refl
key_bare (tag_first d s e) = key_gap_bare s
key_bare (anchor_first d s e) = key_gap_bare s

pub line_found : {t : List ℕ} {p : ℕ} (v : TheProperties) → Chosen (Properties t (pos 0) FlowKey p) v.end (properties_value v)
    → LineProperties t p (record { start = p; props = v.props; tag_offset = v.tag_offset; end = v.end })
line_found v d = record { value = properties_value v; chosen = d; tied = record { start = refl; end = refl; tag = refl; props = refl }; no_comments = key_bare d.derived }

-- two of one kind
pub name_there : {h : HeldValue} {q : PropertiesValue} {a b : Option (List ℕ)} → BothThere a b → h.value.props.anchor ≡ a → q.props.anchor ≡ b → Clash h q
name_there both_there x y = anchors_clash x y

pub tag_there : {h : HeldValue} {q : PropertiesValue} {a b : Option TagValue} → BothThere a b → h.value.props.tag ≡ a → q.props.tag ≡ b → Clash h q
tag_there both_there x y = tags_clash x y

both_are : {A : Type 0} {x y : Option A} {a b : A} → x ≡ Some a → y ≡ Some b → BothThere x y
both_are e f = rw (e, f) both_there

pub no_clash : {h : HeldValue} {q : PropertiesValue} → (BothThere h.value.props.anchor q.props.anchor → ⊥) → (BothThere h.value.props.tag q.props.tag → ⊥) → Clash h q → ⊥
no_clash f g (anchors_clash a b) = f (both_are a b)
no_clash f g (tags_clash a b) = g (both_are a b)

-- the first of two optional names, or else the second
name_or : (x y : Option (Bor (List ℕ))) → name_value (option_or x y) ≡ one_of (name_value x) (name_value y)
unfolding one_of
name_or None y = refl
name_or (Some x) y = refl

tag_or : (x y : Option Tag) → optional_tag_value (option_or x y) ≡ one_of (optional_tag_value x) (optional_tag_value y)
unfolding one_of
tag_or None y = refl
tag_or (Some x) y = refl

pub offset_or : (x y : Option ℕ) → option_or x y ≡ one_of x y
unfolding one_of
offset_or None y = refl
offset_or (Some x) y = refl

pub props_joined : (a b x : Option (Bor (List ℕ))) (d e y : Option Tag) → x ≡ option_or a b → y ≡ option_or d e
    → props_value (record { anchor = x; tag = y }) ≡ record { anchor = one_of (name_value a) (name_value b); tag = one_of (optional_tag_value d) (optional_tag_value e) }
props_joined a b x d e y p q =
    ap (λ z. record { anchor = z; tag = optional_tag_value y }) (ap name_value p ∙ name_or a b)
    ∙ ap (λ z. record { anchor = one_of (name_value a) (name_value b); tag = z }) (ap optional_tag_value q ∙ tag_or d e)

-- both names are present, or not
pub names_meet : (x y : Option (Bor (List ℕ))) → is_some (option_and x y) ≡ true → BothThere (name_value x) (name_value y)
names_meet None y e = absurd (true≢false (sym e))
names_meet (Some a) None e = absurd (true≢false (sym e))
names_meet (Some a) (Some b) e = both_there

pub names_apart : (x y : Option (Bor (List ℕ))) → is_some (option_and x y) ≡ false → BothThere (name_value x) (name_value y) → ⊥
names_apart None y e b = elim b [ ]
names_apart (Some a) None e b = elim b [ ]
names_apart (Some a) (Some c) e b = absurd (true≢false e)

pub tags_meet : (x y : Option Tag) → is_some (option_and x y) ≡ true → BothThere (optional_tag_value x) (optional_tag_value y)
tags_meet None y e = absurd (true≢false (sym e))
tags_meet (Some a) None e = absurd (true≢false (sym e))
tags_meet (Some a) (Some b) e = both_there

pub tags_apart : (x y : Option Tag) → is_some (option_and x y) ≡ false → BothThere (optional_tag_value x) (optional_tag_value y) → ⊥
tags_apart None y e b = elim b [ ]
tags_apart (Some a) None e b = elim b [ ]
tags_apart (Some a) (Some c) e b = absurd (true≢false e)

module _ {h : HeldValue} {q : PropertiesValue} {outer inner : PlacedProperties} (a : PropertiesTied h outer) (b : PropertiesTied (line_held q inner.start inner.end) inner) where
  outer_name : h.value.props.anchor ≡ name_value outer.props.anchor
  outer_name = ap (λ (z : PropsValue). z.anchor) (sym a.props)

  inner_name : q.props.anchor ≡ name_value inner.props.anchor
  inner_name = ap (λ (z : PropsValue). z.anchor) (sym b.props)

  outer_tag : h.value.props.tag ≡ optional_tag_value outer.props.tag
  outer_tag = ap (λ (z : PropsValue). z.tag) (sym a.props)

  inner_tag : q.props.tag ≡ optional_tag_value inner.props.tag
  inner_tag = ap (λ (z : PropsValue). z.tag) (sym b.props)

  pub names_clashed : BothThere (name_value outer.props.anchor) (name_value inner.props.anchor) → Clash h q
  names_clashed c = name_there c outer_name inner_name

  pub tags_clashed : BothThere (optional_tag_value outer.props.tag) (optional_tag_value inner.props.tag) → Clash h q
  tags_clashed c = tag_there c outer_tag inner_tag

  pub go_together : (BothThere (name_value outer.props.anchor) (name_value inner.props.anchor) → ⊥) → (BothThere (optional_tag_value outer.props.tag) (optional_tag_value inner.props.tag) → ⊥) → (held : PlacedProperties)
      → held.start ≡ outer.start → held.end ≡ inner.end → props_value held.props ≡ record { anchor = one_of (name_value outer.props.anchor) (name_value inner.props.anchor); tag = one_of (optional_tag_value outer.props.tag) (optional_tag_value inner.props.tag) }
      → held.tag_offset ≡ one_of outer.tag_offset inner.tag_offset → BothProperties h q inner.end held
  unfolding both
  go_together f g held s e p o = record {
    apart = no_clash (λ z. f (rw (outer_name, inner_name) at z)) (λ z. g (rw (outer_tag, inner_tag) at z));
    value = record {
      value = record {
        props = record { anchor = one_of h.value.props.anchor q.props.anchor; tag = one_of h.value.props.tag q.props.tag };
        tag_offset = one_of h.value.tag_offset q.tag_offset;
        comments = h.value.comments ++ q.comments;
      };
      start = h.start;
      end = inner.end;
    };
    is = refl;
    tied = record {
      start = s ∙ a.start;
      end = e;
      tag = o ∙ ap (λ z. one_of z inner.tag_offset) a.tag ∙ ap (λ z. one_of h.value.tag_offset z) b.tag;
      props = p ∙ ap (λ z. record { anchor = one_of z (name_value inner.props.anchor); tag = one_of (optional_tag_value outer.props.tag) (optional_tag_value inner.props.tag) }) (sym outer_name)
          ∙ ap (λ z. record { anchor = one_of h.value.props.anchor z; tag = one_of (optional_tag_value outer.props.tag) (optional_tag_value inner.props.tag) }) (sym inner_name)
          ∙ ap (λ z. record { anchor = one_of h.value.props.anchor q.props.anchor; tag = one_of z (optional_tag_value inner.props.tag) }) (sym outer_tag)
          ∙ ap (λ z. record { anchor = one_of h.value.props.anchor q.props.anchor; tag = one_of h.value.props.tag z }) (sym inner_tag);
    };
  }

-- `Apart`, if earlier lines may have no properties
pub apart_after : {a : Ahead} {q : PropertiesValue} {outer : PlacedProperties} (w : HoldsProperties a outer) → Clash w.value q → Apart a q
apart_after w c = record { held = w.value; is = w.is; clash = c }

pub joined_ahead : {a : Ahead} {q : PropertiesValue} {p g : ℕ} {outer held : PlacedProperties} (w : HoldsProperties a outer) → BothProperties w.value q g held → JoinedAhead a q p g held
joined_ahead {a} {q} {p} {g} w b = record { ahead = both w.value q g; joins = more_held w.is b.apart; tied = record { value = b.value; is = b.is; tied = b.tied } }

pub first_ahead : {a : Ahead} {q : PropertiesValue} {inner : PlacedProperties} → ((h : HeldValue) → a ≡ Props h → ⊥) → PropertiesTied (line_held q inner.start inner.end) inner → JoinedAhead a q inner.start inner.end inner
first_ahead {q = q} {inner = inner} n b = record { ahead = Props (line_held q inner.start inner.end); joins = first_held n; tied = record { value = line_held q inner.start inner.end; is = refl; tied = b } }

pub joined_any : {a : Ahead} {outer : PlacedProperties} (q : PropertiesValue) (p g : ℕ) (w : HoldsProperties a outer) (r : Option PlacedProperties) → JoinedTo w.value q g r → JoinedAfter a q p g r
joined_any q p g w None c = apart_after w c
joined_any q p g w (Some held) b = joined_ahead w b
