-- The owner of the properties on earlier lines: the node on the line, or a mapping that begins there.
use Rattle.std.proofs.Common.{◌≡◌, ◌≢◌, ℕ, List, Option, Some, None, refl, sym, subst}
use Rattle.std.proofs.lemmas.Option.{same_Some}
use Rattle.yf_chars.specs.Text.{code}
use Rattle.yf_chars.proofs.Tests.{none_some, some_none}
use Rattle.yf_events.specs.declared.event.Entry as TheEntry
use Rattle.yf_grammar.specs.BlockReader.BlockParser.{Ahead, Nothing, Indicator, Props, PropertiesHeld as HeldValue, Clash, more_held, both}
use Rattle.yf_flow.specs.declared.node.Lead.{Lead}
use Rattle.yf_block.specs.declared.content.Belonging.{Belonging}
use Rattle.yf_block.specs.declared.content.Belonging.TheVariants.{Nothing as NoBelonging, Joined, Apart as ApartBelonging}
use Rattle.yf_block.specs.declared.properties.PlacedProperties.{PlacedProperties}
use Rattle.yf_block.specs.BlockStepTied.{PropertiesTied, AheadTied, nothing_held, none_held, props_held}
use Rattle.yf_block.specs.BelongingTied.{none_more, more_there, two_alike, before_alias, BelongingTied}
use Rattle.yf_block.specs.PropertiesAnswers.{line_held, LineProperties, BothProperties, HoldsProperties, held_lead, lead_at}

-- held properties are those that are ahead
pub held_ahead : {a : Ahead} {outer : Option PlacedProperties} {held : PlacedProperties} → AheadTied a outer → outer ≡ Some held → HoldsProperties a held
held_ahead nothing_held q = absurd (none_some q)
held_ahead none_held q = absurd (none_some q)
held_ahead (props_held {h = h} t) q = record { value = h; is = refl; tied = subst (λ z. PropertiesTied h z) (same_Some _ _ q) t }

pub no_props_nothing : {h : HeldValue} → Nothing ≡ Props h → ⊥
no_props_nothing e = cc

pub no_props_sign : {i : ℕ} {h : HeldValue} → Indicator i ≡ Props h → ⊥
no_props_sign e = cc

pub none_ahead : {a : Ahead} {outer : Option PlacedProperties} → AheadTied a outer → outer ≡ None → (h : HeldValue) → a ≡ Props h → ⊥
none_ahead nothing_held q h e = no_props_nothing e
none_ahead none_held q h e = no_props_sign e
none_ahead (props_held t) q h e = some_none q

-- properties of a line as they are joined with earlier ones
pub line_tied : {t : List ℕ} {p : ℕ} {held : PlacedProperties} (l : LineProperties t p held) → PropertiesTied (line_held l.value held.start held.end) held
line_tied {held = held} l = subst (λ (z : ℕ). PropertiesTied (line_held l.value z held.end) held) (sym l.tied.start) l.tied

module _ (t : List ℕ) (p at : ℕ) {a : Ahead} {outer : PlacedProperties} (w : HoldsProperties a outer) (entry : Option TheEntry.Entry) where
  pub belonging_alias : (inner : Option PlacedProperties) {lead : Lead} {belonging : Belonging} → code t at ≡ 42 → lead ≡ lead_at p inner entry → belonging ≡ ApartBelonging → BelongingTied t p at a inner entry lead belonging
  belonging_alias inner {lead} c e s = subst (λ z. BelongingTied t p at a inner entry lead z) (sym s) (record { before = w.value; is = w.is; other = before_alias c; lead_is = e })

  belonging_outer : {lead : Lead} {belonging : Belonging} → code t at ≢ 42 → lead ≡ held_lead outer entry → belonging ≡ Joined → BelongingTied t p at a None entry lead belonging
  belonging_outer {lead} c e s = subst (λ z. BelongingTied t p at a None entry lead z) (sym s) (record { ahead = a; held = outer; joined = none_more; holds = w; lead_is = e; no_alias = c })

  belonging_both : {held both_held : PlacedProperties} {lead : Lead} {belonging : Belonging} (l : LineProperties t p held) → BothProperties w.value l.value held.end both_held → code t at ≢ 42 → lead ≡ held_lead both_held entry
      → belonging ≡ Joined → BelongingTied t p at a (Some held) entry lead belonging
  belonging_both {held} {both_held} {lead} l b c e s = subst (λ z. BelongingTied t p at a (Some held) entry lead z) (sym s) (record {
    ahead = both w.value l.value held.end;
    held = both_held;
    joined = more_there l (more_held w.is b.apart);
    holds = record { value = b.value; is = b.is; tied = b.tied };
    lead_is = e;
    no_alias = c;
  })

  belonging_apart : {held : PlacedProperties} {lead : Lead} {belonging : Belonging} (l : LineProperties t p held) → Clash w.value l.value → lead ≡ lead_at p (Some held) entry → belonging ≡ ApartBelonging
      → BelongingTied t p at a (Some held) entry lead belonging
  belonging_apart {held} {lead} l c e s =
      subst (λ z. BelongingTied t p at a (Some held) entry lead z) (sym s) (record { before = w.value; is = w.is; other = two_alike l (record { held = w.value; is = w.is; clash = c }); lead_is = e })

  -- the owner for a node with or without properties on its line
  module _ (inner : Option PlacedProperties) {lead : Lead} {belonging : Belonging} where
    pub belonging_of_outer : inner ≡ None → code t at ≢ 42 → lead ≡ held_lead outer entry → belonging ≡ Joined → BelongingTied t p at a inner entry lead belonging
    belonging_of_outer q c e s = subst (λ z. BelongingTied t p at a z entry lead belonging) (sym q) (belonging_outer c e s)

    pub belonging_of_both : {held both_held : PlacedProperties} → inner ≡ Some held → (l : LineProperties t p held) → BothProperties w.value l.value held.end both_held → code t at ≢ 42 → lead ≡ held_lead both_held entry → belonging ≡ Joined
        → BelongingTied t p at a inner entry lead belonging
    belonging_of_both q l b c e s = subst (λ z. BelongingTied t p at a z entry lead belonging) (sym q) (belonging_both l b c e s)

    pub belonging_of_apart : {held : PlacedProperties} → inner ≡ Some held → (l : LineProperties t p held) → Clash w.value l.value → lead ≡ lead_at p inner entry → belonging ≡ ApartBelonging → BelongingTied t p at a inner entry lead belonging
    belonging_of_apart q l c e s =
        subst (λ z. BelongingTied t p at a z entry lead belonging) (sym q) (belonging_apart l c (subst (λ z. lead ≡ lead_at p z entry) q e) s)

pub belonging_none : (t : List ℕ) (p at : ℕ) (inner : Option PlacedProperties) (entry : Option TheEntry.Entry) {a : Ahead} {outer : Option PlacedProperties} {lead : Lead} → AheadTied a outer → outer ≡ None → lead ≡ lead_at p inner entry
    → BelongingTied t p at a inner entry lead NoBelonging
belonging_none t p at inner entry q n e = record { none = none_ahead q n; lead_is = e }
